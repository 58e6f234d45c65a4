use Rattle.std.proofs.Common.{◌∙◌, List, ap, sym}
use Rattle.std.specs.Prelude.{◌==◌}
use Rattle.model.specs.Types.{Job}
use Rattle.model.specs.History.{view_of}
use Rattle.model.specs.Catalogue.{StreamJob, is_member}
use Rattle.owner_fold.specs.Times.{timed_jobs_left}
use Rattle.owner_fold.specs.DocPlaces.{stream_job}
use Rattle.batchman_core.specs.Reached.{is_any_reached_of}
use Rattle.batchman_core.proofs.Times.{reached_here, reached_later, objects_of}
use Rattle.batchman_core.proofs.Timed.{jobs_at_first}
use Rattle.batchman_core.proofs.clocks.is_time_of_jobs_reached.Goals as goal

pub loop-parent-init : goal.loop-parent-init
loop-parent-init c =
    jobs_at_first (view_of c.args.o.now) c.args.w c.args.now c.args.t (timed_jobs_left c.into_iter-parent-iterator.result)
    (ap timed_jobs_left c.into_iter-parent-iterator.ensures.into_iter_gives ∙ c.timed_jobs-parent-items.ensures)

pub returns-then-is_time_of_job_reached : goal.returns-then-is_time_of_job_reached
returns-then-is_time_of_job_reached c =
    let V = view_of c.args.o.now in
    sym
    (c.loop-parent.invariant
    ∙ ap
    (λ (l : List StreamJob).
    is_any_reached_of V c.args.now c.args.t
    (objects_of (λ (p : StreamJob). p.doc.ws == c.args.w) (λ (p : StreamJob). is_member V p.parent.no)
    (λ (p : StreamJob). Job p.doc.no) l))
    c.in-Some.ensures.steps
    ∙ reached_here V c.args.now c.args.t (λ (p : StreamJob). p.doc.ws == c.args.w)
    (λ (p : StreamJob). is_member V p.parent.no) (λ (p : StreamJob). Job p.doc.no)
    (stream_job c.in-Some.parent.now c.in-Some.doc.now) (timed_jobs_left c.next.new.self)
    (sym c.is_time_of_job_reached.ensures ∙ c.if-is_time_of_job_reached.true))

pub loop-parent-preserved : goal.loop-parent-preserved
loop-parent-preserved c =
    let V = view_of c.args.o.now in
    c.loop-parent.invariant
    ∙ ap
    (λ (l : List StreamJob).
    is_any_reached_of V c.args.now c.args.t
    (objects_of (λ (p : StreamJob). p.doc.ws == c.args.w) (λ (p : StreamJob). is_member V p.parent.no)
    (λ (p : StreamJob). Job p.doc.no) l))
    c.in-Some.ensures.steps
    ∙ reached_later V c.args.now c.args.t (λ (p : StreamJob). p.doc.ws == c.args.w)
    (λ (p : StreamJob). is_member V p.parent.no) (λ (p : StreamJob). Job p.doc.no)
    (stream_job c.in-Some.parent.now c.in-Some.doc.now) (timed_jobs_left c.next.new.self)
    (sym c.is_time_of_job_reached.ensures ∙ c.if-is_time_of_job_reached.false)
