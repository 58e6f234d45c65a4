use Rattle.std.proofs.Common.{◌≡◌, ◌∙◌, ◌∷◌, List, ap, subst, sym}
use Rattle.model.specs.History.{view_of}
use Rattle.model.specs.Catalogue.{StreamJob, jobs}
use Rattle.owner_fold.specs.Left.{jobs_left}
use Rattle.owner_fold.specs.DocPlaces.{stream_job}
use Rattle.dependencies.specs.Planned.{ArePlannedJobs}
use Rattle.dependencies.specs.Ranks.{better_rank}
use Rattle.decision_rules.specs.declared.Rank.{Rank}
use Rattle.dependencies.proofs.Better.{IsBestSoFar, further_by_other, further_by_ready, nothing_so_far}
use Rattle.dependencies.proofs.Found.{jobs_left_planned}
use Rattle.dependencies.proofs.candidates.best_of_all.Goals as goal

pub loop-parent-init : goal.loop-parent-init
loop-parent-init c =
    let all : jobs_left c.into_iter-parent-iterator.result ≡ jobs (view_of c.args.o.now) =
    ap jobs_left c.into_iter-parent-iterator.ensures.into_iter_gives ∙ c.jobs-parent-items.ensures
    in
    record {
      planned = jobs_left_planned (view_of c.args.o.now) (jobs_left c.into_iter-parent-iterator.result) all;
      best =
          nothing_so_far c.args.net.now (view_of c.args.o.now) c.args.w (jobs_left c.into_iter-parent-iterator.result)
          all;
    }

pub loop-parent-preserved-then-is_ready_in : goal.loop-parent-preserved-then-is_ready_in
loop-parent-preserved-then-is_ready_in c =
    let V = view_of c.args.o.now in
    let p = stream_job c.in-Some.parent.now c.in-Some.doc.now in
    let planned : ArePlannedJobs V (p ∷ jobs_left c.next.new.self) =
    subst (λ (l : List StreamJob). ArePlannedJobs V l) c.in-Some.ensures.steps c.loop-parent.invariant.planned
    in
    let best : IsBestSoFar c.args.net.now V c.args.w c.loop-parent.best (p ∷ jobs_left c.next.new.self) =
    subst (λ (l : List StreamJob). IsBestSoFar c.args.net.now V c.args.w c.loop-parent.best l)
    c.in-Some.ensures.steps c.loop-parent.invariant.best
    in
    record {
      planned = planned.1;
      best =
          further_by_ready c.args.net.now V c.args.w c.loop-parent.best p (jobs_left c.next.new.self) c.better.result
          planned.0 (sym c.is_ready_in.ensures ∙ c.if-is_ready_in.true)
          (c.better.ensures ∙ ap (λ (r : Rank). better_rank c.loop-parent.best r) c.ranked.ensures) best;
    }

pub loop-parent-preserved : goal.loop-parent-preserved
loop-parent-preserved c =
    let V = view_of c.args.o.now in
    let p = stream_job c.in-Some.parent.now c.in-Some.doc.now in
    let planned : ArePlannedJobs V (p ∷ jobs_left c.next.new.self) =
    subst (λ (l : List StreamJob). ArePlannedJobs V l) c.in-Some.ensures.steps c.loop-parent.invariant.planned
    in
    let best : IsBestSoFar c.args.net.now V c.args.w c.loop-parent.best (p ∷ jobs_left c.next.new.self) =
    subst (λ (l : List StreamJob). IsBestSoFar c.args.net.now V c.args.w c.loop-parent.best l)
    c.in-Some.ensures.steps c.loop-parent.invariant.best
    in
    record {
      planned = planned.1;
      best =
          further_by_other c.args.net.now V c.args.w c.loop-parent.best p (jobs_left c.next.new.self) planned.0
          (sym c.is_ready_in.ensures ∙ c.if-is_ready_in.false) best;
    }
