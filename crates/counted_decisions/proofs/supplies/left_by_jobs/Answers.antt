use Rattle.std.proofs.Common.{◌∙◌, List, ap, cond, sym}
use Rattle.std.specs.List.{list_any}
use Rattle.std.specs.Prelude.{sum_by}
use Rattle.model.specs.Types.{Events, Job}
use Rattle.model.specs.History.{view_of}
use Rattle.model.specs.Catalogue.{StreamJob}
use Rattle.model.specs.Dependencies.{units}
use Rattle.owner_fold.specs.Holders.{open_left}
use Rattle.owner_fold.specs.DocPlaces.{stream_job}
use Rattle.counted_facts.specs.Subjects.{brings}
use Rattle.counted_decisions.specs.Sights.{seen_in}
use Rattle.counted_decisions.specs.Units.{holding_jobs, left_of}
use Rattle.counted_decisions.proofs.Holding.{job_units_seen}
use Rattle.counted_decisions.proofs.Leaving.{walk_end, walk_none, walk_some}
use Rattle.counted_decisions.proofs.Sighted.{own_seen, seen_grows}
use Rattle.counted_decisions.proofs.supplies.left_by_jobs.Goals as goal

pub loop-parent-init : goal.loop-parent-init
loop-parent-init c =
    ap (left_of c.args.free)
    (job_units_seen (seen_in c.args.sight.now) (view_of c.args.sight.now.owners.now)
    (seen_grows c.args.sight.now.owners.now c.args.sight.now.seen.now) c.args.w
    (own_seen c.args.sight.now.owners.now c.args.sight.now.seen.now c.args.w c.requires.own) c.args.r
    ∙ ap (λ (l : List StreamJob). sum_by (λ (p : StreamJob).
    cond (list_any (brings p.parent.no) (seen_in c.args.sight.now (Events 0)))
    (units (view_of c.args.sight.now.owners.now) c.args.r (Job p.doc.no)) 0) l)
    (sym (ap open_left c.into_iter-parent-iterator.ensures.into_iter_gives ∙ c.open_launches-parent-items.ensures)))

pub returns-in-None-left_by_job : goal.returns-in-None-left_by_job
returns-in-None-left_by_job c =
    walk_none
    (λ (p : StreamJob).
    cond (list_any (brings p.parent.no) (seen_in c.args.sight.now (Events 0)))
    (units (view_of c.args.sight.now.owners.now) c.args.r (Job p.doc.no)) 0)
    (left_of c.args.free
    (sum_by (λ (p : StreamJob). units (seen_in c.args.sight.now) c.args.r (Job p.doc.no))
    (holding_jobs (seen_in c.args.sight.now) c.args.w)))
    c.left_by_job.result c.loop-parent.left (open_left c.loop-parent.parent-iterator) (open_left c.next.new.self)
    (stream_job c.in-Some.parent.now c.in-Some.doc.now) c.loop-parent.invariant c.in-Some.ensures.steps
    c.left_by_job.ensures c.in-None-left_by_job.is

pub loop-parent-preserved : goal.loop-parent-preserved
loop-parent-preserved c =
    walk_some
    (λ (p : StreamJob).
    cond (list_any (brings p.parent.no) (seen_in c.args.sight.now (Events 0)))
    (units (view_of c.args.sight.now.owners.now) c.args.r (Job p.doc.no)) 0)
    (left_of c.args.free
    (sum_by (λ (p : StreamJob). units (seen_in c.args.sight.now) c.args.r (Job p.doc.no))
    (holding_jobs (seen_in c.args.sight.now) c.args.w)))
    c.left_by_job.result c.loop-parent.left c.in-Some-left_by_job.next (open_left c.loop-parent.parent-iterator)
    (open_left c.next.new.self) (stream_job c.in-Some.parent.now c.in-Some.doc.now) c.loop-parent.invariant
    c.in-Some.ensures.steps c.left_by_job.ensures c.in-Some-left_by_job.is

pub returns : goal.returns
returns c =
    walk_end
    (λ (p : StreamJob).
    cond (list_any (brings p.parent.no) (seen_in c.args.sight.now (Events 0)))
    (units (view_of c.args.sight.now.owners.now) c.args.r (Job p.doc.no)) 0)
    (left_of c.args.free
    (sum_by (λ (p : StreamJob). units (seen_in c.args.sight.now) c.args.r (Job p.doc.no))
    (holding_jobs (seen_in c.args.sight.now) c.args.w)))
    c.loop-parent.left (open_left c.loop-parent.parent-iterator) c.loop-parent.invariant c.in-None.ensures.steps.0
