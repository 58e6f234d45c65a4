use Rattle.std.proofs.Common.{◌≡◌, ◌≤◌, drop, filter, length, map}
use Rattle.std.specs.Option.{option_or}
use Rattle.model.specs.Types.{StreamDoc}
use Rattle.model.specs.Words.{has}
use Rattle.model.specs.History.{view_of}
use Rattle.owner_fold.specs.Left.{streams_left}
use Rattle.conman_orders.specs.Names.{is_called, last_member, last_that}
use Rattle.conman_orders.proofs.names.last_member.Given as goal

abbrev pub invariant-loop-doc : goal.invariant-loop-doc
invariant-loop-doc l =
    record {
      within : l.latest.next ≤ length l.members;
      found : last_member (view_of l.o) l.w l.name
          ≡ option_or
          (last_that
          (has (map (λ (d : StreamDoc). d.no) (filter (is_called l.w l.name) (streams_left l.doc-iterator))))
          (drop l.latest.next l.members))
          l.latest.found;
    }
