use Rattle.outside.specs.Files.{Told}
use Rattle.gated_puts.specs.Steps.{GatedOf, Opened}
use Rattle.gated_puts.proofs.Tears.{gate_left, gate_start, left_between, moments_between, moments_after, gate_told}
use Rattle.gated_puts.proofs.Tears.{gate_opened, gated_same, opened_gated}
use Rattle.std.proofs.Common.{sym, subst}
use Rattle.lemmas.proofs.Results.{on_err, on_ok}
use Rattle.gated_puts.proofs.puts.open_gate.Goals as goal

pub returns-in_err-write_at-clause-any_moment : goal.returns-in_err-write_at-clause-any_moment
returns-in_err-write_at-clause-any_moment g c =
    let old = c.args.disk.now in
    let told = g.D.Disk.seen old in
    let has = c.requires.staged in
    moments_between g.D.Disk.moment g.D.Disk.left_since g.D.Disk.may_leave (g.met.D.Disk.only_now) (GatedOf c.args.gate c.args.piece.now told) _ old c.write_at.new.self c.write_at.new.self
    (gate_start told _ c.args.gate c.args.piece.now has) (gate_left told _ c.args.gate c.args.piece.now has) c.write_at.ensures.crash c.write_at.ensures.time

pub returns-in_err-write_at-clause-left : goal.returns-in_err-write_at-clause-left
returns-in_err-write_at-clause-left g c =
    let old = c.args.disk.now in
    let told = g.D.Disk.seen old in
    let has = c.requires.staged in
    left_between g.D.Disk.moment g.D.Disk.left_since g.D.Disk.may_leave (g.met.D.Disk.only_now) (GatedOf c.args.gate c.args.piece.now told) _ old c.write_at.new.self c.write_at.new.self
    (gate_start told _ c.args.gate c.args.piece.now has) (gate_left told _ c.args.gate c.args.piece.now has) c.write_at.ensures.crash c.write_at.ensures.time

pub returns-in_err-write_at-clause-failed : goal.returns-in_err-write_at-clause-failed
returns-in_err-write_at-clause-failed g c =
    on_err c.from_residual.result (gate_told _ _ _ c.args.gate c.args.piece.now c.requires.staged c.in_err-write_at.ensures.failed)

pub returns-clause-opened : goal.returns-clause-opened
returns-clause-opened g c =
    on_ok c.sync.result (subst (λ o. Told (Opened c.args.gate c.args.piece.now) (g.D.Disk.seen c.args.disk.now) o) (sym c.sync.ensures.seen) (gate_opened _ _ _ c.args.gate c.args.piece.now c.requires.staged c.in_ok-write_at.ensures.written))

pub returns-clause-any_moment : goal.returns-clause-any_moment
returns-clause-any_moment g c =
    let old = c.args.disk.now in
    let told = g.D.Disk.seen old in
    let has = c.requires.staged in
    moments_after g.D.Disk.moment g.D.Disk.left_since g.D.Disk.may_leave (g.met.D.Disk.only_now) (GatedOf c.args.gate c.args.piece.now told) _ old c.write_at.new.self c.sync.new.self
    (gate_start told _ c.args.gate c.args.piece.now has) (gate_left told _ c.args.gate c.args.piece.now has) c.write_at.ensures.crash c.write_at.ensures.time
    c.sync.ensures.crash c.sync.ensures.time

pub returns-clause-left : goal.returns-clause-left
returns-clause-left g c =
    let old = c.args.disk.now in
    let told = g.D.Disk.seen old in
    let has = c.requires.staged in
    λ file left. left_between g.D.Disk.moment g.D.Disk.left_since g.D.Disk.may_leave (g.met.D.Disk.only_now) (GatedOf c.args.gate c.args.piece.now told) _ old c.write_at.new.self c.sync.new.self
    (gate_start told _ c.args.gate c.args.piece.now has) (gate_left told _ c.args.gate c.args.piece.now has) c.write_at.ensures.crash c.write_at.ensures.time
    file (c.sync.ensures.crash file left)

pub returns-clause-failed : goal.returns-clause-failed
returns-clause-failed g c =
    on_err c.sync.result (gated_same _ _ _ c.args.gate c.args.piece.now (opened_gated _ _ c.args.gate c.args.piece.now (gate_opened _ _ _ c.args.gate c.args.piece.now c.requires.staged c.in_ok-write_at.ensures.written)) c.sync.ensures.seen)
