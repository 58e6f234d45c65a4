use Rattle.std.proofs.Common.{◌≡◌}
use Rattle.std.specs.Prelude.{filter, map}
use Rattle.model.specs.Types.{Events}
use Rattle.model.specs.History.{view_of}
use Rattle.model.specs.Dependencies.{NumberedDep}
use Rattle.dependencies.specs.Left.{deps_left}
use Rattle.file_watch.specs.Circle.{sooner_of, soonest}
use Rattle.file_watch.specs.Probes.{due_at, is_file_due}
use Rattle.file_watch.proofs.probes.soonest_at.Given as goal

abbrev pub invariant-loop-number : goal.invariant-loop-number
invariant-loop-number l =
    soonest l.last (due_at (view_of l.o) l.fn.w l.object)
    ≡ sooner_of l.last l.so_far
    (soonest l.last
    (map (λ (p : NumberedDep). (l.object, p.number))
    (filter (is_file_due (view_of l.o (Events l.fn.w)) l.object) (deps_left l.number-iterator))))
