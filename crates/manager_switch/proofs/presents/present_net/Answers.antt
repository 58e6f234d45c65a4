use Rattle.std.proofs.Common.{◌∙◌, sym}
use Rattle.manager_switch.proofs.Further.{end_on, one_on}
use Rattle.manager_switch.proofs.presents.present_net.Goals as goal

pub loop-entry-preserved : goal.loop-entry-preserved
loop-entry-preserved c =
    c.loop-entry.invariant
    ∙ one_on c.loop-entry.present c.in_ok-present-2.present c.args.kept.now c.loop-entry.entry-index
    c.entry-item.result c.loop-entry-test.true c.entry-item.is c.in_ok-present-2.ensures

pub returns : goal.returns
returns c =
    sym (c.loop-entry.invariant
    ∙ end_on c.loop-entry.present c.args.kept.now c.loop-entry.entry-index c.loop-entry-test.false)
