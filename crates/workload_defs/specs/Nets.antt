-- The network that definitions give, and the addresses of its workstations.
use Rattle.std.specs.Prelude.{ℕ, ◌<◌, ◌^◌, Bool, false, List, map, slice_get, unwrap_or, option_map, option_and_then}
use Rattle.std.specs.Prelude.{Option, IfSome, if◌then◌else◌}
use Rattle.std.specs.List.{enumerate_from, list_any}
use Rattle.std.specs.Option.{option_map_or}
use Rattle.std.specs.Str.{bytes_eq}
use Rattle.base_types.specs.declared.Carry.{Carry}
use Rattle.base_types.specs.declared.Carry.TheVariants.{Yes}
use Rattle.base_types.specs.declared.Net.{Net}
use Rattle.base_types.specs.declared.Node.{Node}
use Rattle.base_types.specs.declared.Peer.{Peer}
use Rattle.base_types.specs.declared.PromptDef.{PromptDef}
use Rattle.base_types.specs.declared.Resource.{Resource}
use Rattle.composer_parser.specs.declared.Lined.{Lined}
use Rattle.composer_parser.specs.declared.Defs.{Defs}
use Rattle.composer_parser.specs.declared.CpuDef.{CpuDef}
use Rattle.composer_parser.specs.declared.DomainDef.{DomainDef}
use Rattle.composer_parser.specs.declared.ResourceDef.{ResourceDef}
use Rattle.definition_names.specs.Names.{domain_at}
use Rattle.workload_defs.specs.Stations.{stations, number_of, number_among}

-- the domain of a name, its manager and its parent
abbrev pub domain_of : Defs → List ℕ → Option (Lined DomainDef)
domain_of d name = option_and_then (slice_get d.domains) (domain_at d name)

abbrev pub manager_of : Defs → List ℕ → Option (List ℕ)
manager_of d name = option_map (λ (x : Lined DomainDef). x.item.manager) (domain_of d name)

abbrev pub parent_of : Defs → List ℕ → Option (List ℕ)
parent_of d name = option_and_then (λ (x : Lined DomainDef). x.item.parent) (domain_of d name)

-- the workstation is the manager of a domain, whatever its TYPE says
abbrev pub manages : Defs → CpuDef → Bool
manages d c = list_any (λ (x : Lined DomainDef). bytes_eq x.item.manager c.name) d.domains

-- a manager's hop is the manager of the parent domain, and another workstation's the manager of its own domain
abbrev pub hop_name : Defs → CpuDef → Option (List ℕ)
hop_name d c =
    if manages d c then option_and_then (manager_of d) (parent_of d c.domain) else manager_of d c.domain

abbrev pub hop_of : Defs → CpuDef → Option ℕ
hop_of d c = option_and_then (number_of d) (hop_name d c)

-- FULLSTATUS, which is OFF where it is not given
abbrev pub is_full : CpuDef → Bool
is_full c = unwrap_or c.full false

abbrev pub node_of : Defs → CpuDef → Node
node_of d c = record { name = c.name; hop = hop_of d c; manager = manages d c; full = is_full c }

abbrev pub resource_in : List CpuDef → ResourceDef → Resource
resource_in all r = record { ws = unwrap_or (number_among all r.ws) 0; name = r.name; total = r.total }

abbrev pub resource_among : List CpuDef → Lined ResourceDef → Resource
resource_among all r = resource_in all r.item

-- ENCARRYFORWARD, which is YES where it is not given
abbrev pub carry_of : Defs → Carry
carry_of d = option_map_or (λ (c : Lined Carry). c.item) d.carry Yes

-- the network: its workstations by their numbers, its resources and prompts in order of definition, and its option
unfoldable pub net_of : Defs → Net
net_of d = record {
  nodes = map (node_of d) (stations d);
  resources = map (resource_among (stations d)) d.resources;
  prompts = map (λ (p : Lined PromptDef). p.item) d.prompts;
  carry = carry_of d;
}

-- TCPADDR, which is 31111 where it is not given
abbrev pub port_of : CpuDef → ℕ
port_of c = unwrap_or c.port 31111

abbrev pub HasPort : CpuDef → Type 0
HasPort c = IfSome c.port (λ n. n < 2 ^ 16)

-- where each workstation is reached
abbrev pub peer_of : ℕ × CpuDef → Peer
peer_of p = record { ws = p.0; host = p.1.host; port = port_of p.1 }

abbrev pub peers_among : List CpuDef → List Peer
peers_among all = map peer_of (enumerate_from 0 all)

abbrev pub peers_of : Defs → List Peer
peers_of d = peers_among (stations d)
