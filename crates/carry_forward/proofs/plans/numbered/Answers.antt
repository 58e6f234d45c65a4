use Rattle.std.proofs.Common.{[], ℕ, ◌+◌, ◌∙◌, ◌∷◌, ◌≡◌, List, Some, ap, filter_map, map}
use Rattle.model.specs.History.{view_of}
use Rattle.model.specs.Catalogue.{stream}
use Rattle.model.specs.NewPlan.{named_doc, named_fresh}
use Rattle.carry_forward.specs.declared.faults.CarryFault.TheVariants.{NumbersSpent}
use Rattle.carry_forward.proofs.Causes.{numbered_so, spent_so, stream_room, submit_numbers}
use Rattle.carry_forward.proofs.plans.numbered.Goals as goal

pub returns-then-are_spent-clause-causes : goal.returns-then-are_spent-clause-causes
returns-then-are_spent-clause-causes c =
    λ f e k.
    let same : NumbersSpent ≡ f = cc in
    submit_numbers (view_of c.args.o.now) c.args.draft.now
    (spent_so (view_of c.args.o.now) (c.args.draft.now ∷ []) c.from_ref-drafts.result.now
    c.last_stream-last_stream.result c.last_job-last_job.result c.are_spent.result c.from_ref-drafts.ensures.value
    c.last_stream-last_stream.ensures c.last_job-last_job.ensures c.are_spent.ensures
    ∙ c.if-are_spent.true)
    ∙ ap Some same

pub returns-in-Some-clause-causes : goal.returns-in-Some-clause-causes
returns-in-Some-clause-causes c =
    λ f e k.
    let same : c.in-Some.fault ≡ f = cc in
    stream_room (view_of c.args.o.now) c.args.draft.now c.from_ref-drafts.result.now c.as_slice-members.result.now
    c.in_ok-full.full
    (spent_so (view_of c.args.o.now) (c.args.draft.now ∷ []) c.from_ref-drafts.result.now
    c.last_stream-last_stream.result c.last_job-last_job.result c.are_spent.result c.from_ref-drafts.ensures.value
    c.last_stream-last_stream.ensures c.last_job-last_job.ensures c.are_spent.ensures
    ∙ c.if-are_spent.false)
    c.from_ref-drafts.ensures.value (c.as_slice-members.ensures ∙ c.members.ensures) c.in_ok-full.ensures
    ∙ (c.in-Some.is ∙ ap Some same)

pub returns-clause-value : goal.returns-clause-value
returns-clause-value c =
    numbered_so (view_of c.args.o.now) c.args.draft.now c.last_stream-last_stream.result c.last_job-last_job.result
    (record { number = 1 + c.last_stream-last_stream.result; first_job = 1 + c.from.result; draft = c.args.draft.now })
    c.in_ok-names.names.fresh c.in_ok-names.names.earlier c.in_ok-doc.doc c.last_stream-last_stream.ensures
    c.last_job-last_job.ensures
    (λ p. record {
      number = 1 + c.last_stream-last_stream.result;
      first_job = 1 + c.from.ensures p;
      draft = c.args.draft.now;
    })
    (c.in_ok-names.ensures.fresh ∙ ap (map named_fresh) c.from_ref.ensures.value)
    (c.in_ok-names.ensures.earlier
    ∙ ap (λ (l : List ℕ). map named_doc (filter_map (stream (view_of c.args.o.now)) l))
    (c.as_slice-members.ensures ∙ c.members.ensures))
    c.in_ok-doc.ensures

pub returns-clause-accepted : goal.returns-clause-accepted
returns-clause-accepted c =
    λ e.
    stream_room (view_of c.args.o.now) c.args.draft.now c.from_ref-drafts.result.now c.as_slice-members.result.now
    c.in_ok-full.full
    (spent_so (view_of c.args.o.now) (c.args.draft.now ∷ []) c.from_ref-drafts.result.now
    c.last_stream-last_stream.result c.last_job-last_job.result c.are_spent.result c.from_ref-drafts.ensures.value
    c.last_stream-last_stream.ensures c.last_job-last_job.ensures c.are_spent.ensures
    ∙ c.if-are_spent.false)
    c.from_ref-drafts.ensures.value (c.as_slice-members.ensures ∙ c.members.ensures) c.in_ok-full.ensures
    ∙ c.in-None.is
