-- Why a network is refused: the first fault that applies.
use Rattle.std.specs.Bool.{then_some}
use Rattle.std.specs.List.{find, list_any}
use Rattle.std.specs.Option.{option_map_or, option_or}
use Rattle.std.specs.Prelude.{[], if◌then◌else◌, ℕ, ◌&&◌, ◌==◌, ◌||◌, ◌∷◌, Bool, List, None, Option, false}
use Rattle.std.specs.Prelude.{is_some, length, nat_le, nat_lt, not, option_map}
use Rattle.std.specs.Str.{bytes_eq}
use Rattle.model.specs.Network.{chain, hop, is_manager, node_count}
use Rattle.model.specs.Types.{Net, Node, PromptDef, Resource}
use Rattle.model.specs.Words.{below, last_or}
use Rattle.network_tree.specs.Repeats.{has_repeat, stands_before}
use Rattle.network_tree.specs.declared.faults.NetFault.{NetFault}
use Rattle.network_tree.specs.declared.faults.NetFault.TheVariants.{BadHop, Duplicate, Empty, OutOfRange, TooMany}
use Rattle.network_tree.specs.declared.faults.NetFault.TheVariants.{Tree}

-- two workstations of one name
abbrev pub have_one_name : Node → Node → Bool
have_one_name a b = bytes_eq a.name b.name

-- the name of a workstation stands before
abbrev pub repeats_a_name : Net → ℕ → Bool
repeats_a_name net w = stands_before have_one_name net.nodes w

-- the master has a hop or is no manager; another one has no hop, or one that is no manager or outside
abbrev pub has_bad_hop : Net → ℕ → Bool
has_bad_hop net w =
    if w == 0 then is_some (hop net w) || not (is_manager net w)
    else not (option_map_or (is_manager net) (hop net w) false)

-- the chain of hops of a workstation does not end at the master
abbrev pub misses_the_master : Net → ℕ → Bool
misses_the_master net w = not (last_or w (chain net w) == 0)

-- two resources are one by workstation and name
abbrev pub are_one_resource : Resource → Resource → Bool
are_one_resource a b = (a.ws == b.ws) && bytes_eq a.name b.name

-- two prompts are one by name
abbrev pub are_one_prompt : PromptDef → PromptDef → Bool
are_one_prompt a b = bytes_eq a.name b.name

-- a resource of a workstation outside the network, or of a total above 1,024
abbrev pub is_bad_resource : Net → Resource → Bool
is_bad_resource net r = nat_le (node_count net) r.ws || nat_lt 1024 r.total

-- too many resources or prompts, a bad resource, or a resource or prompt that stands twice
abbrev pub is_out_of_range : Net → Bool
is_out_of_range net =
    nat_lt 65535 (length net.resources)
    || nat_lt 65535 (length net.prompts)
    || list_any (is_bad_resource net) net.resources
    || has_repeat are_one_resource net.resources
    || has_repeat are_one_prompt net.prompts

-- the first workstation of which it is true
abbrev pub first_ws : Net → (ℕ → Bool) → Option ℕ
first_ws net test = find test (below (node_count net))

-- of several that may be there, the first that is
abbrev pub first_there : {X : Type 0} → List (Option X) → Option X
first_there [] = None
first_there (o ∷ os) = option_or o (first_there os)

-- the faults of a network, in the order in which they are tested
abbrev pub net_faults : Net → List (Option NetFault)
net_faults net =
    then_some (node_count net == 0) Empty
    ∷ then_some (nat_lt 256 (node_count net)) TooMany
    ∷ option_map Duplicate (first_ws net (repeats_a_name net))
    ∷ option_map BadHop (first_ws net (has_bad_hop net))
    ∷ option_map Tree (first_ws net (misses_the_master net))
    ∷ then_some (is_out_of_range net) OutOfRange
    ∷ []

-- the first fault of a network, none where it is accepted
unfoldable pub net_fault : Net → Option NetFault
net_fault net = first_there (net_faults net)
