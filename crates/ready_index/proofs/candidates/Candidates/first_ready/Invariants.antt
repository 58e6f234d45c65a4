use Rattle.std.proofs.Common.{◌<◌, ◌≡◌, find}
use Rattle.model.specs.History.{view_of}
use Rattle.model.specs.Readiness.{is_ready}
use Rattle.ready_index.specs.Lists.{InOrder}
use Rattle.ready_index.specs.Places.{number_at}
use Rattle.ready_index.proofs.candidates.Candidates.first_ready.Given as goal

-- none of those behind is ready
abbrev pub invariant-loop-place : goal.invariant-loop-place
invariant-loop-place l = record {
  first :
      find (λ k. is_ready l.net (view_of l.o) l.fn.w (number_at k)) l.self
      ≡ find (λ k. is_ready l.net (view_of l.o) l.fn.w (number_at k)) l.place-iterator;
  ordered : InOrder ◌<◌ l.self;
}
