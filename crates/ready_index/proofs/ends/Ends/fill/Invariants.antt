use Rattle.model.specs.History.{view_of}
use Rattle.owner_fold.specs.Stages.{begun_left}
use Rattle.ready_index.proofs.Ending.{KnowsOthers}
use Rattle.ready_index.proofs.ends.Ends.fill.Given as goal

abbrev pub invariant-loop-doc : goal.invariant-loop-doc
invariant-loop-doc l = KnowsOthers (view_of l.o) l.fn.w (begun_left l.doc-iterator) l.self.streams
