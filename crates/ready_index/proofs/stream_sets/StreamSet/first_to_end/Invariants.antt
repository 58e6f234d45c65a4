use Rattle.std.proofs.Common.{◌<◌, ◌≡◌, find}
use Rattle.model.specs.History.{view_of}
use Rattle.model.specs.OwnMembers.{may_end}
use Rattle.ready_index.specs.Lists.{InOrder}
use Rattle.ready_index.proofs.stream_sets.StreamSet.first_to_end.Given as goal

-- none of those before may end
abbrev pub invariant-loop-number : goal.invariant-loop-number
invariant-loop-number l = record {
  first : find (may_end (view_of l.o) l.fn.w) l.self ≡ find (may_end (view_of l.o) l.fn.w) l.number-iterator;
  ordered : InOrder ◌<◌ l.self;
}
