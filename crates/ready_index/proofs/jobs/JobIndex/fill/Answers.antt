use Rattle.std.proofs.Common.{◌∙◌, ◌∷◌, List, ap, subst, sym}
use Rattle.std.proofs.lemmas.Bool.{eqb-true}
use Rattle.model.specs.History.{view_of}
use Rattle.model.specs.Catalogue.{StreamJob}
use Rattle.owner_fold.specs.Left.{jobs_left}
use Rattle.owner_fold.specs.DocPlaces.{stream_job}
use Rattle.dependencies.specs.Planned.{ArePlannedJobs}
use Rattle.dependencies.proofs.Found.{jobs_left_planned}
use Rattle.ready_index.specs.Standing.{IsJobIndexBut}
use Rattle.ready_index.proofs.Standings.{looked_at, numbers_of, walk_begins}
use Rattle.ready_index.proofs.jobs.JobIndex.fill.Goals as goal

pub loop-parent-init : goal.loop-parent-init
loop-parent-init c =
    let all = ap jobs_left c.into_iter-parent-iterator.ensures.into_iter_gives ∙ c.jobs-parent-items.ensures in
    record {
      planned = jobs_left_planned (view_of c.args.o.now) (jobs_left c.into_iter-parent-iterator.result) all;
      known =
          walk_begins (view_of c.args.o.now) c.args.w (jobs_left c.into_iter-parent-iterator.result) c.args.self.now all
          c.requires;
    }

pub loop-parent-preserved-in-Continue-1 : goal.loop-parent-preserved-in-Continue-1
loop-parent-preserved-in-Continue-1 c =
    let V = view_of c.args.o.now in
    let p = stream_job c.in-Some.parent.now c.in-Some.doc.now in
    let planned : ArePlannedJobs V (p ∷ jobs_left c.next.new.self) =
    subst (λ (l : List StreamJob). ArePlannedJobs V l) c.in-Some.ensures.steps c.loop-parent.invariant.planned
    in
    let known : IsJobIndexBut V c.args.w (numbers_of c.args.w (p ∷ jobs_left c.next.new.self)) c.loop-parent.self =
    subst (λ (l : List StreamJob). IsJobIndexBut V c.args.w (numbers_of c.args.w l) c.loop-parent.self)
    c.in-Some.ensures.steps c.loop-parent.invariant.known
    in
    record {
      planned = planned.1;
      known =
          looked_at V c.args.w p (jobs_left c.next.new.self) c.loop-parent.self c.look.new.self
          (eqb-true c.in-Some.doc.now.ws c.args.w (sym c.eq.ensures ∙ c.if-eq.true))
          c.in_ok-look.ensures known;
    }
