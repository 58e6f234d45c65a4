use Rattle.std.proofs.Common.{◌∙◌, ap, drop, filter, map, sym}
use Rattle.std.specs.Option.{option_or}
use Rattle.model.specs.Types.{StreamDoc}
use Rattle.model.specs.Words.{has}
use Rattle.owner_fold.specs.Left.{streams_left}
use Rattle.conman_orders.specs.Names.{is_called, last_that}
use Rattle.conman_orders.proofs.Latest.{met}
use Rattle.conman_orders.proofs.names.last_member.Goals as goal

pub loop-doc-preserved-then-is_called : goal.loop-doc-preserved-then-is_called
loop-doc-preserved-then-is_called c =
    let left = streams_left c.loop-doc.doc-iterator in
    let rest = streams_left c.next.new.self in
    let members = c.as_slice-members.result.now in
    let numbers =
    met c.args.w c.args.name.now left rest c.in-Some.doc.now c.in-Some.ensures.steps (sym c.if-is_called.ensures)
    in
    record {
      within = c.looked_for-latest.ensures.within;
      found =
          c.loop-doc.invariant.found
          ∙ (ap
          (λ ns. option_or (last_that (has ns) (drop c.loop-doc.latest.next members)) c.loop-doc.latest.found) numbers
          ∙ c.looked_for-latest.ensures.last
          (map (λ (d : StreamDoc). d.no) (filter (is_called c.args.w c.args.name.now) rest)));
    }
