use Rattle.std.proofs.Common.{sym}
use Rattle.dependencies.proofs.Found.{stream_planned}
use Rattle.counted_decisions.specs.Sights.{seen_in}
use Rattle.counted_decisions.proofs.releases.may_end.Goals as goal

pub may_end_in-requires-clause-planned : goal.may_end_in-requires-clause-planned
may_end_in-requires-clause-planned c =
    stream_planned (seen_in c.args.sight.now) c.args.s c.in-Some.doc.now (sym c.in-Some.ensures)
