use Rattle.std.proofs.Common.{◌≡◌}
use Rattle.std.specs.Prelude.{sum_by}
use Rattle.model.specs.History.{view_of}
use Rattle.model.specs.Dependencies.{NumberedDep, units, units_in}
use Rattle.dependencies.specs.Left.{deps_left}
use Rattle.counted_decisions.specs.Units.{left_of}
use Rattle.counted_decisions.proofs.supplies.left_by_object.Given as goal

abbrev pub invariant-loop-number : goal.invariant-loop-number
invariant-loop-number l =
    left_of l.fn.free (units (view_of l.owners) l.fn.r l.o)
    ≡ left_of l.left (sum_by (λ (p : NumberedDep). units_in l.fn.r p.dep) (deps_left l._number-iterator))
