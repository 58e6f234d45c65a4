use Rattle.std.proofs.Common.{◌≡◌, ◌∙◌, List, Option, ap, subst, sym}
use Rattle.std.specs.Prelude.{flat_map, map}
use Rattle.model.specs.Types.{Job}
use Rattle.model.specs.History.{view_of}
use Rattle.model.specs.Catalogue.{StreamJob}
use Rattle.model.specs.OwnMembers.{own_jobs}
use Rattle.owner_fold.specs.Files.{filed_jobs, filed_jobs_left}
use Rattle.owner_fold.specs.DocPlaces.{stream_job}
use Rattle.file_watch.specs.Circle.{DepPlace, sooner_of, soonest}
use Rattle.file_watch.specs.Probes.{due_at}
use Rattle.file_watch.proofs.Members.{all_jobs}
use Rattle.file_watch.proofs.Soonest.{one_further}
use Rattle.file_watch.proofs.probes.soonest_of_jobs.Goals as goal

pub loop-parent-init : goal.loop-parent-init
loop-parent-init c =
    let V = view_of c.args.o.now in
    let all : filed_jobs_left c.into_iter-parent-iterator.result ≡ filed_jobs V c.args.w =
    ap filed_jobs_left c.into_iter-parent-iterator.ensures.into_iter_gives ∙ c.filed_jobs-parent-items.ensures
    in
    ap (soonest c.args.last.now) (all_jobs V c.args.w (filed_jobs_left c.into_iter-parent-iterator.result) all)

pub loop-parent-preserved : goal.loop-parent-preserved
loop-parent-preserved c =
    let V = view_of c.args.o.now in
    let p : StreamJob = stream_job c.in-Some._parent.now c.in-Some.doc.now in
    let due : StreamJob → List DepPlace = λ (p : StreamJob). due_at V c.args.w (Job p.doc.no) in
    let rest : List StreamJob = filed_jobs_left c.next.new.self in
    let all : Option DepPlace =
    soonest c.args.last.now (flat_map (due_at V c.args.w) (map (λ (p : StreamJob). Job p.doc.no) (own_jobs V c.args.w)))
    in
    one_further c.args.last.now due p rest all c.loop-parent.so_far c.soonest_at-found.result
    c.soonest_at-found.ensures
    (subst
    (λ (l : List StreamJob).
    all ≡ sooner_of c.args.last.now c.loop-parent.so_far (soonest c.args.last.now (flat_map due l)))
    c.in-Some.ensures.steps c.loop-parent.invariant)
    ∙ ap (λ (a : Option DepPlace). sooner_of c.args.last.now a (soonest c.args.last.now (flat_map due rest)))
    (sym c.sooner_of-so_far.ensures)
