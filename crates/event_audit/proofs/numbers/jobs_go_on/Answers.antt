use Rattle.std.proofs.Common.{List, length, refl, subst}
use Rattle.std.proofs.lemmas.Option.{slice_get_read}
use Rattle.model.specs.Types.{JobDoc}
use Rattle.event_audit.specs.Numbers.{GoOnFrom, GoOnTo}
use Rattle.event_audit.proofs.Running.{jobs_back, jobs_forth, jobs_wrong}
use Rattle.event_audit.proofs.numbers.jobs_go_on.Goals as goal

pub returns-in-None : goal.returns-in-None
returns-in-None c =
    let docs = c.args.docs.now in
    let there = slice_get_read docs (length docs) c.loop-doc.doc-index c.doc-item.result refl c.loop-doc-test.true
    c.doc-item.is in
    let apart = subst (λ (js : List JobDoc). GoOnFrom c.loop-doc.last js → ⊥) c.as_slice.ensures
    (c.in-None.ensures.none refl) in (
      λ f. cc,
      λ h. absurd (jobs_wrong c.loop-doc.last docs c.loop-doc.doc-index c.doc-item.result there apart
          (c.loop-doc.invariant.forth h)),
    )

pub loop-doc-preserved : goal.loop-doc-preserved
loop-doc-preserved c =
    let docs = c.args.docs.now in
    let there = slice_get_read docs (length docs) c.loop-doc.doc-index c.doc-item.result refl c.loop-doc-test.true
    c.doc-item.is in
    let go_on = subst (λ (js : List JobDoc). GoOnTo c.loop-doc.last js c.in-Some.next) c.as_slice.ensures
    c.in-Some.ensures.some in
    record {
      forth = λ h. jobs_forth c.loop-doc.last c.in-Some.next docs c.loop-doc.doc-index c.doc-item.result there go_on
          (c.loop-doc.invariant.forth h);
      back = λ h. c.loop-doc.invariant.back (jobs_back c.loop-doc.last c.in-Some.next docs c.loop-doc.doc-index
          c.doc-item.result there go_on h);
    }
