use Rattle.std.proofs.Common.{length, refl}
use Rattle.std.proofs.lemmas.Option.{slice_get_read}
use Rattle.model.specs.History.{view_of}
use Rattle.event_audit.specs.Meanings.{means}
use Rattle.event_audit.proofs.Meant.{known}
use Rattle.event_audit.proofs.Ordered.{any_known_at}
use Rattle.event_audit.proofs.meanings.is_carried_in_order.Goals as goal

pub returns-then-known_in_order : goal.returns-then-known_in_order
returns-then-known_in_order c =
    λ _.
    any_known_at (view_of c.args.owners.now)
    (means c.args.docs.now (known (view_of c.args.owners.now) c.args.carried.now) c.args.o.now) c.args.carried.now
    c.loop-number.number-index c.number-item.result
    (slice_get_read c.args.carried.now (length c.args.carried.now) c.loop-number.number-index c.number-item.result refl
    c.loop-number-test.true c.number-item.is)
    (c.known_in_order.ensures c.if-known_in_order.true)
