use Rattle.std.proofs.Common.{◌-◌, drop, length, take}
use Rattle.report_text.specs.Lists.{count_text}
use Rattle.report_text.proofs.Further.{commas_further}
use Rattle.report_text.proofs.lists.write_seen.Goals as goal

pub loop-count-preserved : goal.loop-count-preserved
loop-count-preserved c =
    commas_further (count_text c.args.net.now) (take (length c.args.seen.now - 1) (drop 1 c.args.seen.now))
    c.loop-count.count-index c.count-item.result _ _ _ c.loop-count-test.true c.count-item.is c.loop-count.invariant
    c.in_ok-write_count-2.ensures
