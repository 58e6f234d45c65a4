use Rattle.std.proofs.Common.{ap}
use Rattle.model.specs.Types.{StreamDoc}
use Rattle.model.specs.History.{view_of}
use Rattle.event_audit.proofs.Meant.{known, meant_carried, meant_fresh, meant_nowhere}
use Rattle.event_audit.proofs.meanings.is_meant.Goals as goal

pub returns-in-Some : goal.returns-in-Some
returns-in-Some c =
    meant_fresh c.args.docs.now (known (view_of c.args.owners.now) c.args.carried.now) c.args.doc.now
    c.in-Some.fresh.now _ _ _ _ (ap (λ (d : StreamDoc). d.ws) c.doc.view_is)
    (ap (λ (d : StreamDoc). d.name) c.doc.view_is) (ap (λ (d : StreamDoc). d.no) c.fresh.view_is)
    (ap (λ (d : StreamDoc). d.no) c.doc.view_is) c.in-Some.ensures

pub returns-in-Some-last_called : goal.returns-in-Some-last_called
returns-in-Some-last_called c =
    meant_carried c.args.docs.now (known (view_of c.args.owners.now) c.args.carried.now) c.args.doc.now
    c.in-Some-last_called.earlier.now _ _ _ _ (ap (λ (d : StreamDoc). d.ws) c.doc.view_is)
    (ap (λ (d : StreamDoc). d.name) c.doc.view_is) (ap (λ (d : StreamDoc). d.no) c.earlier.view_is)
    (ap (λ (d : StreamDoc). d.no) c.doc.view_is) c.in-None.ensures c.in-Some-last_called.ensures

pub returns-in-None-last_called : goal.returns-in-None-last_called
returns-in-None-last_called c =
    meant_nowhere c.args.docs.now (known (view_of c.args.owners.now) c.args.carried.now) c.args.doc.now _ _
    (ap (λ (d : StreamDoc). d.ws) c.doc.view_is) (ap (λ (d : StreamDoc). d.name) c.doc.view_is) c.in-None.ensures
    c.in-None-last_called.ensures
