use Rattle.gated_puts.specs.Steps.{StandsOf}
use Rattle.gated_puts.proofs.Tears.{stage_left, stage_start, left_between, moments_after}
use Rattle.gated_puts.proofs.puts.stage.Goals as goal

pub returns-clause-any_moment : goal.returns-clause-any_moment
returns-clause-any_moment g c =
    let old = c.args.disk.now in
    let told = g.D.Disk.seen old in
    let ends = c.requires.settled in
    moments_after g.D.Disk.moment g.D.Disk.left_since g.D.Disk.may_leave (g.met.D.Disk.only_now) (StandsOf told) _ old c.write_at.new.self c.sync.new.self
    (stage_start told _ c.args.gate ends) (stage_left told _ c.args.gate _ ends) c.write_at.ensures.crash c.write_at.ensures.time
    c.sync.ensures.crash c.sync.ensures.time

pub returns-clause-left : goal.returns-clause-left
returns-clause-left g c =
    let old = c.args.disk.now in
    let told = g.D.Disk.seen old in
    let ends = c.requires.settled in
    λ file left. left_between g.D.Disk.moment g.D.Disk.left_since g.D.Disk.may_leave (g.met.D.Disk.only_now) (StandsOf told) _ old c.write_at.new.self c.sync.new.self
    (stage_start told _ c.args.gate ends) (stage_left told _ c.args.gate _ ends) c.write_at.ensures.crash c.write_at.ensures.time
    file (c.sync.ensures.crash file left)
