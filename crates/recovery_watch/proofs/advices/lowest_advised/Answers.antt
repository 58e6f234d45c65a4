use Rattle.std.proofs.Common.{◌≡◌, ◌∙◌, ◌∷◌, ℕ, List, Some, ap, subst, sym}
use Rattle.std.specs.Prelude.{◌==◌, filter}
use Rattle.model.specs.Words.{least, lesser}
use Rattle.model.specs.History.{view_of}
use Rattle.model.specs.Catalogue.{StreamJob, is_member, jobs}
use Rattle.model.specs.OwnMembers.{own_job_numbers}
use Rattle.owner_fold.specs.Left.{jobs_left}
use Rattle.owner_fold.specs.DocPlaces.{stream_job}
use Rattle.dependencies.specs.Planned.{ArePlannedJobs}
use Rattle.dependencies.proofs.Found.{jobs_left_planned}
use Rattle.dependencies.proofs.Lowest.{lower_of, lowest_with, lowest_without}
use Rattle.recovery_watch.specs.Advice.{needs_advice}
use Rattle.recovery_watch.proofs.Lowest.{advisable, advised_at_first, lowest_among}
use Rattle.recovery_watch.proofs.advices.lowest_advised.Goals as goal

pub loop-parent-init : goal.loop-parent-init
loop-parent-init c =
    let V = view_of c.args.o.now in
    let all : jobs_left c.into_iter-parent-iterator.result ≡ jobs V =
    ap jobs_left c.into_iter-parent-iterator.ensures.into_iter_gives ∙ c.jobs-parent-items.ensures
    in
    record {
      planned = jobs_left_planned V (jobs_left c.into_iter-parent-iterator.result) all;
      lowest = advised_at_first V c.args.w (jobs_left c.into_iter-parent-iterator.result) all;
    }

pub loop-parent-preserved-then-needs_advice : goal.loop-parent-preserved-then-needs_advice
loop-parent-preserved-then-needs_advice c =
    let V = view_of c.args.o.now in
    let p = stream_job c.in-Some.parent.now c.in-Some.doc.now in
    let planned : ArePlannedJobs V (p ∷ jobs_left c.next.new.self) =
    subst (λ (l : List StreamJob). ArePlannedJobs V l) c.in-Some.ensures.steps c.loop-parent.invariant.planned
    in
    let lower : c.lower.result ≡ lesser p.doc.no c.loop-parent.lowest =
    c.lower.ensures ∙ (λ j. lesser (c.doc.view_is j).no c.loop-parent.lowest)
    in
    record {
      planned = planned.1;
      lowest =
          lowest_with (λ (q : StreamJob). q.doc.ws == c.args.w) (λ (q : StreamJob). is_member V q.parent.no)
          (needs_advice V c.args.w) (λ (q : StreamJob). q.doc.no) p (jobs_left c.next.new.self)
          (least (filter (needs_advice V c.args.w) (own_job_numbers V c.args.w))) c.loop-parent.lowest
          (advisable V c.args.w p planned.0 ∙ sym c.needs_advice.ensures ∙ c.if-needs_advice.true)
          (subst
          (λ (l : List StreamJob).
          least (filter (needs_advice V c.args.w) (own_job_numbers V c.args.w))
          ≡ lower_of c.loop-parent.lowest (least (lowest_among V c.args.w l)))
          c.in-Some.ensures.steps c.loop-parent.invariant.lowest)
          ∙ ap (λ (n : ℕ). lower_of (Some n) (least (lowest_among V c.args.w (jobs_left c.next.new.self)))) (sym lower);
    }

pub loop-parent-preserved : goal.loop-parent-preserved
loop-parent-preserved c =
    let V = view_of c.args.o.now in
    let p = stream_job c.in-Some.parent.now c.in-Some.doc.now in
    let planned : ArePlannedJobs V (p ∷ jobs_left c.next.new.self) =
    subst (λ (l : List StreamJob). ArePlannedJobs V l) c.in-Some.ensures.steps c.loop-parent.invariant.planned
    in
    record {
      planned = planned.1;
      lowest =
          lowest_without (λ (q : StreamJob). q.doc.ws == c.args.w) (λ (q : StreamJob). is_member V q.parent.no)
          (needs_advice V c.args.w) (λ (q : StreamJob). q.doc.no) p (jobs_left c.next.new.self)
          (least (filter (needs_advice V c.args.w) (own_job_numbers V c.args.w))) c.loop-parent.lowest
          (advisable V c.args.w p planned.0 ∙ sym c.needs_advice.ensures ∙ c.if-needs_advice.false)
          (subst
          (λ (l : List StreamJob).
          least (filter (needs_advice V c.args.w) (own_job_numbers V c.args.w))
          ≡ lower_of c.loop-parent.lowest (least (lowest_among V c.args.w l)))
          c.in-Some.ensures.steps c.loop-parent.invariant.lowest);
    }
