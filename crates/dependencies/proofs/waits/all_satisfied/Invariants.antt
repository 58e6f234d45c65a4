use Rattle.std.proofs.Common.{◌≡◌}
use Rattle.std.specs.List.{list_all}
use Rattle.model.specs.History.{view_of}
use Rattle.model.specs.Dependencies.{NumberedDep, all_satisfied, is_met}
use Rattle.dependencies.specs.Left.{deps_left}
use Rattle.dependencies.proofs.waits.all_satisfied.Given as goal

abbrev pub invariant-loop-number : goal.invariant-loop-number
invariant-loop-number l =
    all_satisfied l.net (view_of l.o) l.fn.w l.obj
    ≡ list_all (λ (p : NumberedDep). is_met l.net (view_of l.o) l.fn.w l.obj p.number p.dep)
    (deps_left l.number-iterator)
