use Rattle.std.proofs.Common.{◌≡◌}
use Rattle.std.specs.Prelude.{filter, option_map, slice_get}
use Rattle.model.specs.Types.{Events}
use Rattle.model.specs.History.{view_of}
use Rattle.model.specs.Dependencies.{NumberedDep}
use Rattle.model.specs.Lateness.{is_late_due, late_at}
use Rattle.dependencies.specs.Left.{deps_left}
use Rattle.dependencies.proofs.lates.late_at.Given as goal

abbrev pub invariant-loop-number : goal.invariant-loop-number
invariant-loop-number l =
    late_at (view_of l.o) l.fn.w l.obj
    ≡ option_map (λ (p : NumberedDep). (l.obj, p.number))
    (slice_get (filter (is_late_due (view_of l.o (Events l.fn.w)) l.obj) (deps_left l.number-iterator)) 0)
