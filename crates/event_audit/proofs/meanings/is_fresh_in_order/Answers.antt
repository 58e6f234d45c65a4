use Rattle.std.proofs.Common.{length, refl}
use Rattle.std.proofs.lemmas.Option.{slice_get_read}
use Rattle.model.specs.History.{view_of}
use Rattle.event_audit.specs.Meanings.{means}
use Rattle.event_audit.proofs.Meant.{known}
use Rattle.event_audit.proofs.Ordered.{any_at}
use Rattle.event_audit.proofs.meanings.is_fresh_in_order.Goals as goal

pub returns-then-means_in_order : goal.returns-then-means_in_order
returns-then-means_in_order c =
    λ _.
    any_at (means c.args.docs.now (known (view_of c.args.owners.now) c.args.carried.now) c.args.o.now) c.args.docs.now
    c.loop-doc.doc-index c.doc-item.result
    (slice_get_read c.args.docs.now (length c.args.docs.now) c.loop-doc.doc-index c.doc-item.result refl
    c.loop-doc-test.true c.doc-item.is)
    (c.means_in_order.ensures c.if-means_in_order.true)
