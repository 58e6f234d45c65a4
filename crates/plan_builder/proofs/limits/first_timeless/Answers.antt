use Rattle.std.proofs.Common.{get_or}
use Rattle.std.proofs.lemmas.List.{get_or_default}
use Rattle.plan_builder.specs.Limits.{lines_of_stream}
use Rattle.plan_builder.proofs.Lines.{lines_more}
use Rattle.plan_builder.proofs.limits.first_timeless.Goals as goal

pub loop-n-preserved : goal.loop-n-preserved
loop-n-preserved c =
    let streams = c.args.streams.now in
    let i = c.loop-n.n-index in
    let n = get_or streams i 0 in
    lines_more (lines_of_stream c.args.defs.now c.args.plan.now) streams i n _ c.loop-n.first c.in_stream-first.result
    c.loop-n-test.true (get_or_default streams i 0 n c.loop-n-test.true) c.in_stream-first.ensures c.loop-n.invariant
