use Rattle.lemmas.proofs.Results.{if_err}
use Rattle.model.specs.Types.{Take, Typed}
use Rattle.model.specs.World.{view_at}
use Rattle.recovery_watch.specs.Advice.{advice}
use Rattle.record_runs.specs.Lines.{advised, only}
use Rattle.record_runs.proofs.Tables.{advised_this, halts_as, leads_as, on_ok}
use Rattle.record_runs.proofs.lines.recover.Goals as goal

pub returns-in-Some-clause-taken : goal.returns-in-Some-clause-taken
returns-in-Some-clause-taken c =
    on_ok _ _ c.take_step.result
    (leads_as c.args.world.now c.take_step.new.world (λ x. advised c.args.w (advice (view_at x c.args.w) c.args.w))
    (λ x. only (Take c.args.w (Typed c.args.w c.in-Some.command)))
    (λ x s. advised_this c.args.w c.in-Some.command (advice (view_at x c.args.w) c.args.w) (c.in-Some.ensures x s)))
    c.take_step.ensures.taken

pub returns-in-Some-clause-stopped : goal.returns-in-Some-clause-stopped
returns-in-Some-clause-stopped c =
    if_err _ _ c.take_step.result
    (λ t. halts_as c.args.world.now (λ x. advised c.args.w (advice (view_at x c.args.w) c.args.w))
    (λ x. only (Take c.args.w (Typed c.args.w c.in-Some.command))) t
    (λ x s. advised_this c.args.w c.in-Some.command (advice (view_at x c.args.w) c.args.w) (c.in-Some.ensures x s)))
    c.take_step.ensures.stopped
