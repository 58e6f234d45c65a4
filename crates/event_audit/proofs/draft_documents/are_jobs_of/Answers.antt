use Rattle.std.proofs.Common.{◌+◌, ◌∙◌, ◌≡◌, ◌<◌, ℕ, ap, arith, length, map, refl, subst, sym}
use Rattle.std.proofs.lemmas.Option.{slice_get_read}
use Rattle.std.specs.List.{enumerate_from}
use Rattle.lemmas.proofs.Lists.{not_alike}
use Rattle.model.specs.History.{view_of}
use Rattle.event_audit.specs.Drafts.{job_given}
use Rattle.event_audit.proofs.Alike.{alike_by, alike_more}
use Rattle.event_audit.proofs.Behind.{clash}
use Rattle.event_audit.proofs.Placed.{placed_at, placed_length}
use Rattle.event_audit.proofs.draft_documents.are_jobs_of.Goals as goal

pub returns-then-drafts-docs : goal.returns-then-drafts-docs
returns-then-drafts-docs c =
    let f = job_given (view_of c.args.owners.now) c.args.draft.now in (
      λ e. cc,
      λ e. absurd (c.if-drafts-docs.true (sym (placed_length f c.args.first c.args.drafts.now) ∙ ap length e)),
    )

pub returns-then-not-is_job_of : goal.returns-then-not-is_job_of
returns-then-not-is_job_of c =
    let f = job_given (view_of c.args.owners.now) c.args.draft.now in
    let i = c.loop-i.i in
    let drafts = c.args.drafts.now in
    let docs = c.args.docs.now in
    let job_ = c.index-drafts-i.result in
    let doc = c.index-docs-i.result in
    let within : i < length docs = omega (arith, c.loop-i-test.true, c.if-drafts-docs.false) in
    let there = slice_get_read drafts (length drafts) i job_ refl c.loop-i-test.true c.index-drafts-i.is in
    let here = slice_get_read docs (length docs) i doc refl within c.index-docs-i.is in
    let apart = subst (λ (n : ℕ). f (n + i, job_) ≡ doc → ⊥) c.from.ensures
    (λ e. clash (c.is_job_of.ensures.1 e) c.if-not-is_job_of.true) in (
      λ e. cc,
      λ e. absurd (not_alike (map f (enumerate_from c.args.first drafts)) docs i (f (c.args.first + i, job_)) doc
          (placed_at f c.args.first drafts i job_ there) here apart e),
    )

pub loop-i-preserved : goal.loop-i-preserved
loop-i-preserved c =
    let f = job_given (view_of c.args.owners.now) c.args.draft.now in
    let i = c.loop-i.i in
    let drafts = c.args.drafts.now in
    let docs = c.args.docs.now in
    let job_ = c.index-drafts-i.result in
    let doc = c.index-docs-i.result in
    let within : i < length docs = omega (arith, c.loop-i-test.true, c.if-drafts-docs.false) in
    let there = slice_get_read drafts (length drafts) i job_ refl c.loop-i-test.true c.index-drafts-i.is in
    let here = slice_get_read docs (length docs) i doc refl within c.index-docs-i.is in
    let same = subst (λ (n : ℕ). f (n + i, job_) ≡ doc) c.from.ensures
    (c.is_job_of.ensures.0 c.if-not-is_job_of.false) in
    alike_more (map f (enumerate_from c.args.first drafts)) docs i (f (c.args.first + i, job_)) doc
    c.loop-i.invariant (placed_at f c.args.first drafts i job_ there) here same

pub returns : goal.returns
returns c =
    let f = job_given (view_of c.args.owners.now) c.args.draft.now in
    let count = placed_length f c.args.first c.args.drafts.now in (
      λ e. alike_by (map f (enumerate_from c.args.first c.args.drafts.now)) c.args.docs.now c.loop-i.i
          (count ∙ c.if-drafts-docs.false) (omega (arith, count, c.loop-i-test.false)) c.loop-i.invariant,
      λ e. refl,
    )
