use Rattle.std.proofs.Common.{◌-◌, arith, nat_lt, sym}
use Rattle.model.specs.History.{view_of}
use Rattle.model.specs.Catalogue.{jobs_of}
use Rattle.model.specs.Readiness.{open_launch_count}
use Rattle.owner_fold.specs.Holders.{open_left}
use Rattle.dependencies.proofs.Both.{room_full, room_taken}
use Rattle.dependencies.proofs.limits.has_room.Goals as goal

pub returns-then-room-eq0 : goal.returns-then-room-eq0
returns-then-room-eq0 c =
    sym
    (room_full (open_left c.loop.iterator') (open_left c.next.new.self) c.loop.room
    (nat_lt (open_launch_count (view_of c.args.o.now) c.args.w (jobs_of (view_of c.args.o.now) c.args.w)) c.args.limit)
    c.in-Some.ensures.steps (omega arith) c.loop.invariant)

pub loop-preserved : goal.loop-preserved
loop-preserved c =
    room_taken (open_left c.loop.iterator') (open_left c.next.new.self) c.loop.room (c.loop.room - 1)
    (nat_lt (open_launch_count (view_of c.args.o.now) c.args.w (jobs_of (view_of c.args.o.now) c.args.w)) c.args.limit)
    c.in-Some.ensures.steps (omega arith) c.loop.invariant
