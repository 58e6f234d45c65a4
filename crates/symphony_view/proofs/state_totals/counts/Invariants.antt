use Rattle.std.proofs.Common.{◌≡◌}
use Rattle.symphony_view.specs.Counts.{counts}
use Rattle.symphony_view.proofs.state_totals.counts.Given as goal

abbrev pub invariant-loop-place : goal.invariant-loop-place
invariant-loop-place l = l.counts ≡ counts l.place l.places
