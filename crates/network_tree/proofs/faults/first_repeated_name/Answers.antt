use Rattle.std.proofs.Common.{arith, sym}
use Rattle.model.specs.Network.{node_count}
use Rattle.network_tree.specs.Faults.{repeats_a_name}
use Rattle.network_tree.proofs.Belows.{find_first, find_nothing}
use Rattle.network_tree.proofs.faults.first_repeated_name.Goals as goal

pub returns-then-repeats_name : goal.returns-then-repeats_name
returns-then-repeats_name c =
    let net = c.args.net.now in
    sym (find_first (repeats_a_name net) 0 (node_count net) c.loop-w.w (omega arith) (omega arith)
    (λ k low high. c.loop-w.invariant k high) (sym c.if-repeats_name.ensures))

pub returns : goal.returns
returns c =
    let net = c.args.net.now in
    sym (find_nothing (repeats_a_name net) 0 (node_count net) (λ k low high. c.loop-w.invariant k (omega arith)))
