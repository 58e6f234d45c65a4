use Rattle.std.proofs.Common.{◌≡◌}
use Rattle.std.specs.List.{list_all}
use Rattle.model.specs.Dependencies.{NumberedDep, all_satisfied, is_met}
use Rattle.dependencies.specs.Left.{deps_left}
use Rattle.counted_decisions.specs.Sights.{seen_in}
use Rattle.counted_decisions.proofs.waits.all_satisfied.Given as goal

abbrev pub invariant-loop-number : goal.invariant-loop-number
invariant-loop-number l =
    all_satisfied l.net (seen_in l.sight) l.fn.w l.o
    ≡ list_all (λ (p : NumberedDep). is_met l.net (seen_in l.sight) l.fn.w l.o p.number p.dep)
    (deps_left l.number-iterator)
