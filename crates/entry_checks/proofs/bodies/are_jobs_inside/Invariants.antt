use Rattle.std.proofs.Common.{◌≡◌, drop}
use Rattle.std.specs.Prelude.{map}
use Rattle.model.specs.Types.{JobDoc}
use Rattle.entry_checks.specs.Inside.{are_inside}
use Rattle.entry_checks.proofs.bodies.are_jobs_inside.Given as goal

abbrev pub invariant-loop-item : goal.invariant-loop-item
invariant-loop-item l =
    are_inside l.count (map (λ (j : JobDoc). j.ws) l.jobs) ≡ are_inside l.count (map (λ (j : JobDoc). j.ws) (drop l.item-index l.item-items))
