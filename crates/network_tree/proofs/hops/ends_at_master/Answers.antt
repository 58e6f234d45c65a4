use Rattle.std.proofs.Common.{◌+◌, ◌-◌, arith, sym, ◌∙◌}
use Rattle.model.specs.Network.{node_count}
use Rattle.network_tree.proofs.Climbs.{last_more}
use Rattle.network_tree.proofs.hops.ends_at_master.Goals as goal

pub loop-step-preserved : goal.loop-step-preserved
loop-step-preserved c =
    let n = node_count c.args.net.now in
    c.loop-step.invariant
    ∙ last_more c.args.net.now (n + 1 - c.loop-step._step) (n + 1 - (c.loop-step._step + 1)) c.loop-step.last
    c.in-Some.next (omega arith) (omega arith) (sym c.in-Some.ensures)
