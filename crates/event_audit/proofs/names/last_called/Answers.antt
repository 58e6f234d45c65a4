use Rattle.std.proofs.Common.{◌∙◌, Some, ap, sym}
use Rattle.std.proofs.lemmas.Option.{slice_get-get_or}
use Rattle.std.specs.Option.{option_copied}
use Rattle.model.specs.History.{view_of}
use Rattle.model.specs.Catalogue.{stream}
use Rattle.event_audit.specs.Meanings.{is_called}
use Rattle.event_audit.proofs.Passing.{last_found, last_passed, last_skipped}
use Rattle.event_audit.proofs.names.last_called.Goals as goal
use Rattle.event_audit.proofs.names.last_called.Goals.{in-None, in-Some+else-is_called, in-Some+then-is_called}

pub loop-number-preserved : goal.loop-number-preserved
loop-number-preserved c =
    let there = slice_get-get_or c.args.numbers.now c.loop-number.number-index c.number-item.result
    c.loop-number-test.true ∙ ap Some (sym c.number-item.is) in
    elim c.match-stream.branch [
      | in-Some+then-is_called w ↦ ap option_copied w.last-is
          ∙ sym (last_found (stream (view_of c.args.owners.now)) (is_called c.args.ws c.args.name.now)
          c.args.numbers.now c.loop-number.number-index c.number-item.result w.in-Some.doc.now there
          (sym w.in-Some.ensures) (sym w.is_called.ensures ∙ w.if-is_called.true))
      | in-Some+else-is_called w ↦ ap option_copied w.last-is ∙ c.loop-number.invariant
          ∙ sym (last_passed (stream (view_of c.args.owners.now)) (is_called c.args.ws c.args.name.now)
          c.args.numbers.now c.loop-number.number-index c.number-item.result w.in-Some.doc.now there
          (sym w.in-Some.ensures) (sym w.is_called.ensures ∙ w.if-is_called.false))
      | in-None w ↦ ap option_copied w.last-is ∙ c.loop-number.invariant
          ∙ sym (last_skipped (stream (view_of c.args.owners.now)) (is_called c.args.ws c.args.name.now)
          c.args.numbers.now c.loop-number.number-index c.number-item.result there (sym w.in-None.ensures))
    ]
