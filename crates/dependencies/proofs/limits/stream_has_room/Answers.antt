use Rattle.std.proofs.Common.{◌∙◌, ◌-◌, arith, nat_lt, sym}
use Rattle.std.specs.Prelude.{◌==◌, filter}
use Rattle.model.specs.History.{view_of}
use Rattle.model.specs.Catalogue.{StreamJob, jobs_of}
use Rattle.model.specs.Readiness.{open_launch_count}
use Rattle.owner_fold.specs.DocPlaces.{stream_job}
use Rattle.owner_fold.specs.Holders.{open_left}
use Rattle.dependencies.proofs.Both.{no_room, room_kept, room_less}
use Rattle.dependencies.proofs.limits.stream_has_room.Goals as goal

pub returns-then-room-eq0 : goal.returns-then-room-eq0
returns-then-room-eq0 c =
    sym
    (no_room (λ (p : StreamJob). p.parent.no == c.args.s)
    (stream_job c.in-Some.parent.now c.in-Some.field-0-1.now) (open_left c.loop-parent.parent-iterator)
    (open_left c.next.new.self) c.loop-parent.room
    (nat_lt (open_launch_count (view_of c.args.o.now) c.args.w
    (filter (λ (p : StreamJob). p.parent.no == c.args.s) (jobs_of (view_of c.args.o.now) c.args.w))) c.args.limit)
    c.in-Some.ensures.steps (sym c.eq.ensures ∙ c.if-eq.true) (omega arith) c.loop-parent.invariant)

pub loop-parent-preserved-then-eq : goal.loop-parent-preserved-then-eq
loop-parent-preserved-then-eq c =
    room_less (λ (p : StreamJob). p.parent.no == c.args.s)
    (stream_job c.in-Some.parent.now c.in-Some.field-0-1.now) (open_left c.loop-parent.parent-iterator)
    (open_left c.next.new.self) c.loop-parent.room (c.loop-parent.room - 1)
    (nat_lt (open_launch_count (view_of c.args.o.now) c.args.w
    (filter (λ (p : StreamJob). p.parent.no == c.args.s) (jobs_of (view_of c.args.o.now) c.args.w))) c.args.limit)
    c.in-Some.ensures.steps (sym c.eq.ensures ∙ c.if-eq.true) (omega arith) c.loop-parent.invariant

pub loop-parent-preserved : goal.loop-parent-preserved
loop-parent-preserved c =
    room_kept (λ (p : StreamJob). p.parent.no == c.args.s)
    (stream_job c.in-Some.parent.now c.in-Some.field-0-1.now) (open_left c.loop-parent.parent-iterator)
    (open_left c.next.new.self) c.loop-parent.room
    (nat_lt (open_launch_count (view_of c.args.o.now) c.args.w
    (filter (λ (p : StreamJob). p.parent.no == c.args.s) (jobs_of (view_of c.args.o.now) c.args.w))) c.args.limit)
    c.in-Some.ensures.steps (sym c.eq.ensures ∙ c.if-eq.false) c.loop-parent.invariant
