use Rattle.std.proofs.Common.{◌≡◌}
use Rattle.std.specs.Prelude.{◌==◌, filter}
use Rattle.model.specs.Types.{StreamDoc}
use Rattle.model.specs.Words.{least}
use Rattle.model.specs.History.{view_of}
use Rattle.model.specs.Catalogue.{is_member}
use Rattle.model.specs.OwnMembers.{may_end, own_numbers}
use Rattle.owner_fold.specs.Stages.{begun_left}
use Rattle.dependencies.specs.Planned.{ArePlannedStreams}
use Rattle.dependencies.proofs.Lowest.{lower_of, numbers_of}
use Rattle.dependencies.proofs.scans.lowest_to_end.Given as goal

abbrev pub invariant-loop-doc : goal.invariant-loop-doc
invariant-loop-doc l =
    record {
      planned : ArePlannedStreams (view_of l.o) (begun_left l.doc-iterator);
      lowest : least (filter (may_end (view_of l.o) l.fn.w) (own_numbers (view_of l.o) l.fn.w))
          ≡ lower_of l.lowest
          (least (numbers_of (λ (d : StreamDoc). d.ws == l.fn.w) (λ (d : StreamDoc). is_member (view_of l.o) d.no)
          (may_end (view_of l.o) l.fn.w) (λ (d : StreamDoc). d.no) (begun_left l.doc-iterator)));
    }
