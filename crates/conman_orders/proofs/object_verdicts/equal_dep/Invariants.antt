use Rattle.std.proofs.Common.{◌≡◌, ◌+◌, drop}
use Rattle.model.specs.History.{view_of}
use Rattle.model.specs.Dependencies.{deps}
use Rattle.conman_orders.specs.Equals.{first_equal}
use Rattle.conman_orders.proofs.Equal.{equal_from}
use Rattle.conman_orders.proofs.object_verdicts.equal_dep.Given as goal

abbrev pub invariant-loop-before : goal.invariant-loop-before
invariant-loop-before l =
    first_equal (view_of l.o) l.object l.dep
    ≡ equal_from (view_of l.o) l.object l.dep (l.before + 1) (drop l.before (deps (view_of l.o) l.object))
