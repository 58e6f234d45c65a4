use Rattle.std.proofs.Common.{◌≡◌, drop, flat_map}
use Rattle.model.specs.Words.{least}
use Rattle.plan_builder.specs.Limits.{lines_of_stream, lower}
use Rattle.plan_builder.proofs.limits.first_timeless.Given as goal

abbrev pub invariant-loop-n : goal.invariant-loop-n
invariant-loop-n l =
    least (flat_map (lines_of_stream l.defs l.plan) l.streams)
    ≡ lower l.first (least (flat_map (lines_of_stream l.defs l.plan) (drop l.n-index l.streams)))
