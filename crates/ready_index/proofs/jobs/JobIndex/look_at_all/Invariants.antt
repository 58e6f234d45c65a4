use Rattle.std.proofs.Common.{drop}
use Rattle.model.specs.History.{view_of}
use Rattle.ready_index.specs.Standing.{IsJobIndexBut}
use Rattle.ready_index.proofs.jobs.JobIndex.look_at_all.Given as goal

abbrev pub invariant-loop-number : goal.invariant-loop-number
invariant-loop-number l =
    IsJobIndexBut (view_of l.o) l.fn.w l.numbers l.initial.self
    → IsJobIndexBut (view_of l.o) l.fn.w (drop l.number-index l.numbers) l.self
