use Rattle.std.proofs.Common.{Err, Option, ap, inl, inr, subst, sym}
use Rattle.outside.specs.Stops.{LeavesOnly}
use Rattle.message_file.specs.Attaching.{LeftAttaching}
use Rattle.message_file.specs.State.{kept_in, KeepsOf, KeptLeft}
use Rattle.outside.specs.Kept.{Bodies}
use Rattle.node_restart.specs.Stopping.{KeptSince, StayOwn}
use Rattle.node_restart.proofs.Fronts.{own_room}
use Rattle.node_restart.proofs.Stopping.{attached_own, held_restarts, kept_is_file, kept_left, read_left, read_opens, read_own, same_refused, wrong_refused}
use Rattle.node_restart.proofs.restarts.restart_node.Goals as goal

pub agent_of-requires-clause-room : goal.agent_of-requires-clause-room
agent_of-requires-clause-room g c =
    let D = g.D.Disk in
    let file = c.in-Ok.file in
    own_room c.args.me file.count (D.seen file.disk) (D.left_since file.disk (D.moment file.disk)) c.in-Ok.ensures.opens

pub returns-in-Ok-agent_of-clause-restarts : goal.returns-in-Ok-agent_of-clause-restarts
returns-in-Ok-agent_of-clause-restarts g c =
    let D = g.D.Disk in
    let file = c.in-Ok.file in
    held_restarts c.args.net c.args.me c.in-Ok-agent_of.agent.kept (D.seen c.args.disk)
    (kept_in (D.seen file.disk) file.count) c.in-Ok.ensures.kept c.in-Ok-agent_of.ensures.held

pub returns-in-Ok-agent_of-clause-any_moment : goal.returns-in-Ok-agent_of-clause-any_moment
returns-in-Ok-agent_of-clause-any_moment g c =
    let D = g.D.Disk in
    let file = c.in-Ok.file in
    let left = LeftAttaching c.args.me (D.seen c.args.disk) (D.may_leave c.args.disk) in
    read_left D.moment D.left_since c.args.disk file.disk c.agent_of.new.keeper.disk (KeptLeft left)
    (kept_left D.moment D.left_since c.args.disk file.disk left c.in-Ok.ensures.any_moment) c.agent_of.ensures.reads.later
    c.agent_of.ensures.reads.since

pub returns-in-Ok-agent_of-clause-own : goal.returns-in-Ok-agent_of-clause-own
returns-in-Ok-agent_of-clause-own g c =
    let D = g.D.Disk in
    let file = c.in-Ok.file in
    read_own D.moment D.left_since c.args.me D.seen c.args.disk file c.agent_of.new.keeper c.in-Ok.ensures.owner
    c.in-Ok.ensures.opens c.agent_of.ensures.reads.opens c.in-Ok.ensures.kept c.agent_of.ensures.reads.kept
    c.in-Ok.ensures.any_moment.later
    (attached_own D.moment D.left_since c.args.me D.seen D.may_leave g.met.D.Disk.counts_now c.args.disk file.disk
    c.in-Ok.ensures.any_moment)

pub returns-in-Ok-agent_of-clause-owner : goal.returns-in-Ok-agent_of-clause-owner
returns-in-Ok-agent_of-clause-owner g c =
    let D = g.D.Disk in
    (read_opens D.moment D.left_since c.args.me D.seen c.args.disk c.in-Ok.file c.agent_of.new.keeper c.in-Ok.ensures.owner
    c.in-Ok.ensures.opens c.agent_of.ensures.reads.opens D.may_leave g.met.D.Disk.counts_now g.met.D.Disk.only_now
    c.agent_of.ensures.reads.later).0

pub returns-in-Ok-agent_of-clause-opens : goal.returns-in-Ok-agent_of-clause-opens
returns-in-Ok-agent_of-clause-opens g c =
    let D = g.D.Disk in
    (read_opens D.moment D.left_since c.args.me D.seen c.args.disk c.in-Ok.file c.agent_of.new.keeper c.in-Ok.ensures.owner
    c.in-Ok.ensures.opens c.agent_of.ensures.reads.opens D.may_leave g.met.D.Disk.counts_now g.met.D.Disk.only_now
    c.agent_of.ensures.reads.later).1

pub returns-in-Err-agent_of-clause-refused : goal.returns-in-Err-agent_of-clause-refused
returns-in-Err-agent_of-clause-refused g c =
    let D = g.D.Disk in
    let file = c.in-Ok.file in
    λ place is.
    wrong_refused c.args.net c.args.me place (D.seen c.args.disk) (kept_in (D.seen file.disk) file.count)
    c.in-Ok.ensures.kept (c.in-Err-agent_of.ensures.wrong place (ap Err is))

pub returns-in-Err-agent_of-clause-untouched : goal.returns-in-Err-agent_of-clause-untouched
returns-in-Err-agent_of-clause-untouched g c =
    let D = g.D.Disk in
    let file = c.in-Ok.file in
    λ place is.
    kept_is_file c.args.me place (D.seen c.args.disk) (D.seen c.detach.result) (kept_in (D.seen file.disk) file.count)
    c.in-Ok.ensures.kept

pub returns-in-Err-agent_of-clause-same_kept : goal.returns-in-Err-agent_of-clause-same_kept
returns-in-Err-agent_of-clause-same_kept g c =
    let D = g.D.Disk in
    let later = c.agent_of.new.keeper in
    λ other. inr (
      later.count,
      subst (λ (d : g.row.D.Denot). KeepsOf c.args.me (D.seen c.args.disk) (kept_in (D.seen d) later.count))
          (sym c.detach.ensures)
          (subst (λ (o : Option Bodies). KeepsOf c.args.me (D.seen c.args.disk) o) (sym c.agent_of.ensures.reads.kept)
          c.in-Ok.ensures.kept),
    )

pub returns-in-Err-clause-same_kept : goal.returns-in-Err-clause-same_kept
returns-in-Err-clause-same_kept g c =
    let D = g.D.Disk in
    λ other. inl
    (same_refused c.in-Err.refused.fault (D.seen c.args.disk) (D.seen c.in-Err.refused.disk)
    (λ is. other (c.not_attached.ensures.is_disk is)) c.in-Err.ensures.untouched)

pub returns-in-Err-agent_of-clause-any_moment_err : goal.returns-in-Err-agent_of-clause-any_moment_err
returns-in-Err-agent_of-clause-any_moment_err g c =
    let D = g.D.Disk in
    let file = c.in-Ok.file in
    let left = LeftAttaching c.args.me (D.seen c.args.disk) (D.may_leave c.args.disk) in
    subst (λ (d : g.row.D.Denot). LeavesOnly D.moment (KeptSince D.left_since) c.args.disk d (KeptLeft left))
    (sym c.detach.ensures)
    (read_left D.moment D.left_since c.args.disk file.disk c.agent_of.new.keeper.disk (KeptLeft left)
    (kept_left D.moment D.left_since c.args.disk file.disk left c.in-Ok.ensures.any_moment) c.agent_of.ensures.reads.later
    c.agent_of.ensures.reads.since)

pub returns-in-Err-agent_of-clause-own_err : goal.returns-in-Err-agent_of-clause-own_err
returns-in-Err-agent_of-clause-own_err g c =
    let D = g.D.Disk in
    let file = c.in-Ok.file in
    subst (λ (d : g.row.D.Denot). StayOwn c.args.me D.moment D.seen D.left_since c.args.disk d) (sym c.detach.ensures)
    (read_own D.moment D.left_since c.args.me D.seen c.args.disk file c.agent_of.new.keeper c.in-Ok.ensures.owner
    c.in-Ok.ensures.opens c.agent_of.ensures.reads.opens c.in-Ok.ensures.kept c.agent_of.ensures.reads.kept
    c.in-Ok.ensures.any_moment.later
    (attached_own D.moment D.left_since c.args.me D.seen D.may_leave g.met.D.Disk.counts_now c.args.disk file.disk
    c.in-Ok.ensures.any_moment))

pub returns-in-Err-clause-own_err : goal.returns-in-Err-clause-own_err
returns-in-Err-clause-own_err g c =
    let D = g.D.Disk in
    attached_own D.moment D.left_since c.args.me D.seen D.may_leave g.met.D.Disk.counts_now c.args.disk c.in-Err.refused.disk
    c.in-Err.ensures.any_moment_err
