use Rattle.std.proofs.Common.{◌≡◌, ◌∙◌, ◌∷◌, ℕ, List, Some, ap, subst, sym}
use Rattle.std.specs.Prelude.{◌&&◌, ◌==◌, filter, is_some}
use Rattle.model_laws.proofs.Options.{lesser_all}
use Rattle.model.specs.Types.{Job}
use Rattle.model.specs.Words.{least, lesser}
use Rattle.model.specs.History.{view_of}
use Rattle.model.specs.Catalogue.{StreamJob, is_member, owner}
use Rattle.model.specs.OwnMembers.{own_job_numbers}
use Rattle.owner_fold.specs.Times.{timed_jobs, timed_jobs_left}
use Rattle.owner_fold.specs.DocPlaces.{stream_job}
use Rattle.dependencies.specs.Dues.{due_at}
use Rattle.dependencies.specs.Planned.{ArePlannedJobs}
use Rattle.dependencies.proofs.Lowest.{first_passes, lowest_passed, lowest_taken}
use Rattle.dependencies.proofs.Timed.{due_jobs_at_first, timed_jobs_planned}
use Rattle.dependencies.proofs.dues.lowest_job.Goals as goal

pub loop-parent-init : goal.loop-parent-init
loop-parent-init c =
    let V = view_of c.args.o.now in
    let all : timed_jobs_left c.into_iter-parent-iterator.result ≡ timed_jobs V c.args.w =
    ap timed_jobs_left c.into_iter-parent-iterator.ensures.into_iter_gives ∙ c.timed_jobs-parent-items.ensures
    in
    record {
      planned = timed_jobs_planned V c.args.w (timed_jobs_left c.into_iter-parent-iterator.result) all;
      owned = tt;
      lowest =
          due_jobs_at_first c.args.due V c.args.w (timed_jobs_left c.into_iter-parent-iterator.result) all;
    }

pub loop-parent-preserved-then-job_has_due : goal.loop-parent-preserved-then-job_has_due
loop-parent-preserved-then-job_has_due c =
    let V = view_of c.args.o.now in
    let p = stream_job c.in-Some.parent.now c.in-Some.doc.now in
    let planned : ArePlannedJobs V (p ∷ timed_jobs_left c.next.new.self) =
    subst (λ (l : List StreamJob). ArePlannedJobs V l) c.in-Some.ensures.steps c.loop-parent.invariant.planned
    in
    let lower : c.lower.result ≡ lesser p.doc.no c.loop-parent.lowest =
    c.lower.ensures ∙ (λ j. lesser (c.doc.view_is j).no c.loop-parent.lowest)
    in
    record {
      planned = planned.1;
      owned =
          subst (λ (n : ℕ). owner V (Job n) ≡ Some c.args.w) (sym lower)
          (lesser_all (λ (n : ℕ). owner V (Job n) ≡ Some c.args.w) p.doc.no c.loop-parent.lowest
          (planned.0.owned
          ∙ ap Some
          (first_passes p.doc.ws c.args.w c.job_has_due.result
          (is_member V p.parent.no && is_some (due_at c.args.due V c.args.w (Job p.doc.no))) c.job_has_due.ensures
          c.if-job_has_due.true))
          c.loop-parent.invariant.owned);
      lowest =
          lowest_taken (λ (e : StreamJob). e.doc.ws == c.args.w) (λ (e : StreamJob). is_member V e.parent.no)
          (λ n. is_some (due_at c.args.due V c.args.w (Job n))) (λ (e : StreamJob). e.doc.no) p
          (timed_jobs_left c.loop-parent.parent-iterator) (timed_jobs_left c.next.new.self)
          (least
          (filter (λ n. is_some (due_at c.args.due V c.args.w (Job n))) (own_job_numbers V c.args.w)))
          c.loop-parent.lowest c.lower.result
          c.job_has_due.result c.in-Some.ensures.steps c.job_has_due.ensures c.if-job_has_due.true lower
          c.loop-parent.invariant.lowest;
    }

pub loop-parent-preserved : goal.loop-parent-preserved
loop-parent-preserved c =
    let V = view_of c.args.o.now in
    let p = stream_job c.in-Some.parent.now c.in-Some.doc.now in
    let planned : ArePlannedJobs V (p ∷ timed_jobs_left c.next.new.self) =
    subst (λ (l : List StreamJob). ArePlannedJobs V l) c.in-Some.ensures.steps c.loop-parent.invariant.planned
    in
    record {
      planned = planned.1;
      owned = c.loop-parent.invariant.owned;
      lowest =
          lowest_passed (λ (e : StreamJob). e.doc.ws == c.args.w) (λ (e : StreamJob). is_member V e.parent.no)
          (λ n. is_some (due_at c.args.due V c.args.w (Job n))) (λ (e : StreamJob). e.doc.no) p
          (timed_jobs_left c.loop-parent.parent-iterator) (timed_jobs_left c.next.new.self)
          (least
          (filter (λ n. is_some (due_at c.args.due V c.args.w (Job n))) (own_job_numbers V c.args.w)))
          c.loop-parent.lowest c.job_has_due.result
          c.in-Some.ensures.steps c.job_has_due.ensures c.if-job_has_due.false c.loop-parent.invariant.lowest;
    }
