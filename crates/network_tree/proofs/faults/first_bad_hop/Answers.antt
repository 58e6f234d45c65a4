use Rattle.std.proofs.Common.{arith, sym}
use Rattle.model.specs.Network.{node_count}
use Rattle.network_tree.specs.Faults.{has_bad_hop}
use Rattle.network_tree.proofs.Belows.{find_first, find_nothing}
use Rattle.network_tree.proofs.faults.first_bad_hop.Goals as goal

pub returns-then-has_bad_hop : goal.returns-then-has_bad_hop
returns-then-has_bad_hop c =
    let net = c.args.net.now in
    sym (find_first (has_bad_hop net) 0 (node_count net) c.loop-w.w (omega arith) (omega arith)
    (λ k low high. c.loop-w.invariant k high) (sym c.if-has_bad_hop.ensures))

pub returns : goal.returns
returns c =
    let net = c.args.net.now in
    sym (find_nothing (has_bad_hop net) 0 (node_count net) (λ k low high. c.loop-w.invariant k (omega arith)))
