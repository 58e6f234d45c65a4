use Rattle.model.specs.History.{view_of}
use Rattle.dependencies.specs.Left.{deps_left}
use Rattle.ready_index.proofs.Told.{IsFreeSoFar}
use Rattle.ready_index.proofs.waits.first_held_back.Given as goal

abbrev pub invariant-loop-number : goal.invariant-loop-number
invariant-loop-number l =
    IsFreeSoFar l.net (view_of l.o) l.fn.w l.obj (deps_left l.number-iterator)
