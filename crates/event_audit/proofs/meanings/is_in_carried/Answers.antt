use Rattle.std.proofs.Common.{◌∙◌, Some, ap, sym}
use Rattle.std.proofs.lemmas.Option.{slice_get-get_or}
use Rattle.model.specs.History.{view_of}
use Rattle.event_audit.specs.Meanings.{means}
use Rattle.event_audit.proofs.Meant.{any_found, any_passed, known}
use Rattle.event_audit.proofs.meanings.is_in_carried.Goals as goal

pub returns-then-known_means : goal.returns-then-known_means
returns-then-known_means c =
    any_found (view_of c.args.owners.now)
    (means c.args.docs.now (known (view_of c.args.owners.now) c.args.carried.now) c.args.o.now) c.args.carried.now
    c.loop-number.number-index c.number-item.result _ c.known_means.result c.loop-number.invariant
    (slice_get-get_or c.args.carried.now c.loop-number.number-index c.number-item.result c.loop-number-test.true
    ∙ ap Some (sym c.number-item.is)) c.known_means.ensures c.if-known_means.true

pub loop-number-preserved : goal.loop-number-preserved
loop-number-preserved c =
    any_passed (view_of c.args.owners.now)
    (means c.args.docs.now (known (view_of c.args.owners.now) c.args.carried.now) c.args.o.now) c.args.carried.now
    c.loop-number.number-index c.number-item.result _ c.known_means.result c.loop-number.invariant
    (slice_get-get_or c.args.carried.now c.loop-number.number-index c.number-item.result c.loop-number-test.true
    ∙ ap Some (sym c.number-item.is)) c.known_means.ensures c.if-known_means.false
