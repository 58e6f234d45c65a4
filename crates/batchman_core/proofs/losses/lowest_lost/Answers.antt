use Rattle.std.proofs.Common.{◌≡◌, ◌∙◌, ◌∷◌, ℕ, List, Some, ap, subst, sym}
use Rattle.std.specs.Prelude.{◌==◌, filter}
use Rattle.model.specs.Types.{Events}
use Rattle.model.specs.Words.{least, lesser}
use Rattle.model.specs.History.{view_of}
use Rattle.model.specs.Catalogue.{StreamJob, jobs_of}
use Rattle.model.specs.Facts.{is_open}
use Rattle.model.specs.Turn.{lost_jobs}
use Rattle.owner_fold.specs.Holders.{open_left}
use Rattle.owner_fold.specs.DocPlaces.{stream_job}
use Rattle.dependencies.specs.Planned.{ArePlannedJobs}
use Rattle.dependencies.proofs.Lowest.{lower_of, lowest_with, lowest_without, numbers_of}
use Rattle.batchman_core.proofs.Lost.{any, is_lost, lost_at_first, open_planned}
use Rattle.batchman_core.proofs.losses.lowest_lost.Goals as goal

pub loop-parent-init : goal.loop-parent-init
loop-parent-init c =
    let V = view_of c.args.o.now in
    let all : open_left c.into_iter-parent-iterator.result ≡ filter (λ (p : StreamJob). is_open p.doc.no (V (Events c.args.me))) (jobs_of V c.args.me) =
    ap open_left c.into_iter-parent-iterator.ensures.into_iter_gives ∙ c.open_launches-parent-items.ensures
    in
    record {
      planned = open_planned V c.args.me (open_left c.into_iter-parent-iterator.result) all;
      lowest =
          lost_at_first V c.args.me c.args.live.now (open_left c.into_iter-parent-iterator.result) all;
    }

pub loop-parent-preserved-then-is_lost : goal.loop-parent-preserved-then-is_lost
loop-parent-preserved-then-is_lost c =
    let V = view_of c.args.o.now in
    let p = stream_job c.in-Some.parent.now c.in-Some.doc.now in
    let planned : ArePlannedJobs V (p ∷ open_left c.next.new.self) =
    subst (λ (l : List StreamJob). ArePlannedJobs V l) c.in-Some.ensures.steps c.loop-parent.invariant.planned
    in
    let lower : c.lower.result ≡ lesser p.doc.no c.loop-parent.lowest =
    c.lower.ensures ∙ (λ j. lesser (c.doc.view_is j).no c.loop-parent.lowest)
    in
    record {
      planned = planned.1;
      lowest =
          lowest_with (λ (q : StreamJob). q.doc.ws == c.args.me) any (is_lost V c.args.me c.args.live.now)
          (λ (q : StreamJob). q.doc.no) p (open_left c.next.new.self) (least (lost_jobs V c.args.me c.args.live.now))
          c.loop-parent.lowest (sym c.is_lost.ensures ∙ c.if-is_lost.true)
          (subst
          (λ (l : List StreamJob).
          least (lost_jobs V c.args.me c.args.live.now)
          ≡ lower_of c.loop-parent.lowest
          (least (numbers_of (λ (q : StreamJob). q.doc.ws == c.args.me) any (is_lost V c.args.me c.args.live.now)
          (λ (q : StreamJob). q.doc.no) l)))
          c.in-Some.ensures.steps c.loop-parent.invariant.lowest)
          ∙ ap
          (λ (n : ℕ).
          lower_of (Some n)
          (least (numbers_of (λ (q : StreamJob). q.doc.ws == c.args.me) any (is_lost V c.args.me c.args.live.now)
          (λ (q : StreamJob). q.doc.no) (open_left c.next.new.self))))
          (sym lower);
    }

pub loop-parent-preserved : goal.loop-parent-preserved
loop-parent-preserved c =
    let V = view_of c.args.o.now in
    let p = stream_job c.in-Some.parent.now c.in-Some.doc.now in
    let planned : ArePlannedJobs V (p ∷ open_left c.next.new.self) =
    subst (λ (l : List StreamJob). ArePlannedJobs V l) c.in-Some.ensures.steps c.loop-parent.invariant.planned
    in
    record {
      planned = planned.1;
      lowest =
          lowest_without (λ (q : StreamJob). q.doc.ws == c.args.me) any (is_lost V c.args.me c.args.live.now)
          (λ (q : StreamJob). q.doc.no) p (open_left c.next.new.self) (least (lost_jobs V c.args.me c.args.live.now))
          c.loop-parent.lowest (sym c.is_lost.ensures ∙ c.if-is_lost.false)
          (subst
          (λ (l : List StreamJob).
          least (lost_jobs V c.args.me c.args.live.now)
          ≡ lower_of c.loop-parent.lowest
          (least (numbers_of (λ (q : StreamJob). q.doc.ws == c.args.me) any (is_lost V c.args.me c.args.live.now)
          (λ (q : StreamJob). q.doc.no) l)))
          c.in-Some.ensures.steps c.loop-parent.invariant.lowest);
    }
