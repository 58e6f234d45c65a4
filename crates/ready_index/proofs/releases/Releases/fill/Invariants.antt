use Rattle.model.specs.History.{view_of}
use Rattle.owner_fold.specs.Stages.{waiting_left}
use Rattle.dependencies.specs.Planned.{ArePlannedStreams}
use Rattle.ready_index.specs.Releases.{KnowsWaitingBut}
use Rattle.ready_index.proofs.Releasing.{numbers_in}
use Rattle.ready_index.proofs.releases.Releases.fill.Given as goal

abbrev pub invariant-loop-doc : goal.invariant-loop-doc
invariant-loop-doc l = record {
  planned : ArePlannedStreams (view_of l.o) (waiting_left l.doc-iterator);
  known : KnowsWaitingBut (view_of l.o) l.fn.w (numbers_in (waiting_left l.doc-iterator)) l.self;
}
