use Rattle.std.proofs.Common.{ap, arith, not, sym}
use Rattle.model.specs.Network.{node_count}
use Rattle.network_tree.specs.Faults.{misses_the_master}
use Rattle.network_tree.proofs.Belows.{find_first, find_nothing}
use Rattle.network_tree.proofs.faults.first_that_misses_master.Goals as goal

pub returns-then-not-ends_at_master : goal.returns-then-not-ends_at_master
returns-then-not-ends_at_master c =
    let net = c.args.net.now in
    sym (find_first (misses_the_master net) 0 (node_count net) c.loop-w.w (omega arith) (omega arith)
    (λ k low high. c.loop-w.invariant k high) (ap not (sym c.if-not-ends_at_master.ensures)))

pub returns : goal.returns
returns c =
    let net = c.args.net.now in
    sym (find_nothing (misses_the_master net) 0 (node_count net) (λ k low high. c.loop-w.invariant k (omega arith)))
