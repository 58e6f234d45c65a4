use Rattle.std.proofs.Common.{◌≡◌}
use Rattle.model.specs.History.{view_of}
use Rattle.model.specs.Dependencies.{unwaived_deps}
use Rattle.dependencies.specs.Left.{deps_left}
use Rattle.batchman_core.specs.Reached.{is_any_reached}
use Rattle.batchman_core.proofs.clocks.is_time_of_object_reached.Given as goal

abbrev pub invariant-loop-number : goal.invariant-loop-number
invariant-loop-number l =
    is_any_reached l.fn.now l.fn.t (unwaived_deps (view_of l.o) l.obj)
    ≡ is_any_reached l.fn.now l.fn.t (deps_left l._number-iterator)
