use Rattle.message_file.specs.Attaching.{LeftBeginning}
use Rattle.gated_puts.proofs.Tears.{moments_after, moments_between}
use Rattle.message_file.proofs.Beginning.{begin_left, begin_start}
use Rattle.message_file.proofs.attaches.begin.Goals as goal

pub returns-in_err-write_at-clause-any_moment : goal.returns-in_err-write_at-clause-any_moment
returns-in_err-write_at-clause-any_moment g c =
    let old = c.args.disk.now in
    let told = g.D.Disk.seen old in
    let left = g.D.Disk.may_leave old in
    moments_between g.D.Disk.moment g.D.Disk.left_since g.D.Disk.may_leave (g.met.D.Disk.only_now) (LeftBeginning told) _ old c.write_at.new.self c.write_at.new.self
    (begin_start told left c.requires.empty c.requires.durable) (begin_left told left c.requires.empty c.requires.durable) c.write_at.ensures.crash c.write_at.ensures.time

pub returns-clause-any_moment : goal.returns-clause-any_moment
returns-clause-any_moment g c =
    let old = c.args.disk.now in
    let told = g.D.Disk.seen old in
    let left = g.D.Disk.may_leave old in
    moments_after g.D.Disk.moment g.D.Disk.left_since g.D.Disk.may_leave (g.met.D.Disk.only_now) (LeftBeginning told) _ old c.write_at.new.self c.sync.new.self
    (begin_start told left c.requires.empty c.requires.durable) (begin_left told left c.requires.empty c.requires.durable) c.write_at.ensures.crash c.write_at.ensures.time
    c.sync.ensures.crash c.sync.ensures.time
