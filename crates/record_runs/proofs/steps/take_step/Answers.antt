use Rattle.record_runs.proofs.Ways.{step_halts, step_leads}
use Rattle.record_runs.proofs.steps.take_step.Goals as goal

pub returns-in-Ok-clause-taken : goal.returns-in-Ok-clause-taken
returns-in-Ok-clause-taken c = step_leads c.args.world.now c.step.new.self c.args.step.now c.in-Ok.ensures.taken

pub returns-in-Err-clause-stopped : goal.returns-in-Err-clause-stopped
returns-in-Err-clause-stopped c =
    step_halts c.args.world.now c.args.step.now c.in-Err.refused c.refusal_halt.result c.in-Err.ensures.refused
    c.refusal_halt.ensures
