use Rattle.std.proofs.Common.{drop}
use Rattle.model.specs.History.{view_of}
use Rattle.ready_index.specs.Releases.{KnowsWaitingBut}
use Rattle.ready_index.proofs.releases.Releases.look_at_all.Given as goal

abbrev pub invariant-loop-number : goal.invariant-loop-number
invariant-loop-number l =
    KnowsWaitingBut (view_of l.o) l.fn.w l.numbers l.initial.self
    → KnowsWaitingBut (view_of l.o) l.fn.w (drop l.number-index l.numbers) l.self
