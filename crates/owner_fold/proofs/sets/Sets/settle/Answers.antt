use Rattle.std.proofs.Common.{map, sym, ◌∙◌}
use Rattle.model.specs.Types.{StreamDoc}
use Rattle.model.specs.Catalogue.{StreamJob}
use Rattle.owner_fold.proofs.Covering.{item_number}
use Rattle.owner_fold.proofs.sets.Sets.settle.Goals as goal

pub returns-in-Some : goal.returns-in-Some
returns-in-Some c =
    λ ms streams placed are_streams are_jobs h. record {
      waiting =
          c.settle_waiting.ensures streams
          (λ d e.
          item_number (λ (x : StreamDoc). x.no) streams c.in-StreamChange.s c.in-Some.place d
          (sym (c.place.ensures (map (λ (x : StreamDoc). x.no) streams) are_streams) ∙ c.in-Some.is) e)
          h.waiting;
      begun =
          c.settle_begun.ensures streams
          (λ d e.
          item_number (λ (x : StreamDoc). x.no) streams c.in-StreamChange.s c.in-Some.place d
          (sym (c.place.ensures (map (λ (x : StreamDoc). x.no) streams) are_streams) ∙ c.in-Some.is) e)
          h.begun;
      opened = h.opened;
      by_stream = h.by_stream;
      timed = h.timed;
      filed = h.filed;
    }

pub returns-in-Some-place : goal.returns-in-Some-place
returns-in-Some-place c =
    λ ms streams placed are_streams are_jobs h. record {
      waiting = h.waiting;
      begun = h.begun;
      opened =
          c.settle_opened.ensures placed
          (λ p e.
          item_number (λ (x : StreamJob). x.doc.no) placed c.in-JobChange.j c.in-Some-place.place p
          (sym (c.place-in-JobChange.ensures (map (λ (x : StreamJob). x.doc.no) placed) are_jobs)
          ∙ c.in-Some-place.is) e)
          h.opened;
      by_stream = h.by_stream;
      timed = h.timed;
      filed = h.filed;
    }
