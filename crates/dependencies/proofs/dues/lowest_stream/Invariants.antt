use Rattle.std.proofs.Common.{◌≡◌, Some}
use Rattle.std.specs.Prelude.{◌==◌, IfSome, filter, is_some}
use Rattle.model.specs.Types.{Stream, StreamDoc}
use Rattle.model.specs.Words.{least}
use Rattle.model.specs.History.{view_of}
use Rattle.model.specs.Catalogue.{is_member, owner}
use Rattle.model.specs.OwnMembers.{own_numbers}
use Rattle.owner_fold.specs.Times.{timed_streams_left}
use Rattle.dependencies.specs.Dues.{due_at}
use Rattle.dependencies.specs.Planned.{ArePlannedStreams}
use Rattle.dependencies.proofs.Lowest.{lower_of, numbers_of}
use Rattle.dependencies.proofs.dues.lowest_stream.Given as goal

abbrev pub invariant-loop-doc : goal.invariant-loop-doc
invariant-loop-doc l =
    record {
      planned : ArePlannedStreams (view_of l.o) (timed_streams_left l.doc-iterator);
      owned : IfSome l.lowest (λ n. owner (view_of l.o) (Stream n) ≡ Some l.fn.w);
      lowest : least
          (filter (λ n. is_some (due_at l.due (view_of l.o) l.fn.w (Stream n))) (own_numbers (view_of l.o) l.fn.w))
          ≡ lower_of l.lowest
          (least (numbers_of (λ (d : StreamDoc). d.ws == l.fn.w) (λ (d : StreamDoc). is_member (view_of l.o) d.no)
          (λ n. is_some (due_at l.due (view_of l.o) l.fn.w (Stream n))) (λ (d : StreamDoc). d.no)
          (timed_streams_left l.doc-iterator)));
    }
