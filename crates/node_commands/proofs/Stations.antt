-- A workstation that is found is one of the network, and has an address.
use Rattle.std.proofs.Common.{◌<◌, ◌≡◌, ◌∙◌, ℕ, List, Some, arith, bytes_eq, length}
use Rattle.std.proofs.lemmas.List.{length-map}
use Rattle.std.proofs.lemmas.List.FromFn.{length-enumerate_from}
use Rattle.std.proofs.lemmas.Option.{slice_get_within}
use Rattle.std.specs.List.{enumerate_from}
use Rattle.composer_parser.specs.declared.CpuDef.{CpuDef}
use Rattle.composer_parser.specs.declared.Defs.{Defs}
use Rattle.model.specs.Network.{node_count}
use Rattle.workload_defs.specs.Nets.{net_of, node_of, peer_of, peers_of}
use Rattle.workload_defs.specs.Stations.{number_of, stations}
use Rattle.workload_defs.proofs.Lists.{first_there}

found : (d : Defs) (name : List ℕ) (me : ℕ) → number_of d name ≡ Some me → me < length (stations d)
found d name me e =
    let f = first_there (λ (c : CpuDef). bytes_eq name c.name) 0 me (stations d) e in
    let inside : f.0 < length (stations d) = slice_get_within (stations d) f.0 f.2.0 f.2.1 in
    omega (arith, f.1, inside)

pub found_inside : (d : Defs) (name : List ℕ) (me : ℕ) → number_of d name ≡ Some me → me < node_count (net_of d)
unfolding net_of
found_inside d name me e =
    let all : length (net_of d).nodes ≡ length (stations d) = length-map (stations d) (node_of d) in
    omega (arith, all, found d name me e)

pub found_peer : (d : Defs) (name : List ℕ) (me : ℕ) → number_of d name ≡ Some me → me < length (peers_of d)
found_peer d name me e =
    let all : length (peers_of d) ≡ length (stations d) =
    length-map (enumerate_from 0 (stations d)) peer_of ∙ length-enumerate_from 0 (stations d) in
    omega (arith, all, found d name me e)
