use Rattle.lemmas.proofs.Results.{if_err}
use Rattle.record_runs.proofs.Tables.{handed_on, stop_halts, on_ok, no_stop, stop_leads}
use Rattle.record_runs.proofs.lines.stop_in.Goals as goal

pub returns-in_err-act-clause-stopped : goal.returns-in_err-act-clause-stopped
returns-in_err-act-clause-stopped c = λ day.
    handed_on _ c.in_err-act.field-0.0 c.from_residual.result c.from_residual.ensures.1
    (no_stop day c.args.world.now c.args.plans.now c.args.w c.args.kept c.args.one.now c.in_err-act.field-0.0 (c.in_err-act.ensures.not_made day))

pub returns-clause-taken : goal.returns-clause-taken
returns-clause-taken c = λ day.
    on_ok _ _ c.take_step.result
    (stop_leads day c.args.world.now c.take_step.new.world c.args.plans.now c.args.w c.args.kept c.args.one.now c.in_ok-act.act
    c.cut_short.result (c.in_ok-act.ensures.made day) c.cut_short.ensures.value)
    c.take_step.ensures.taken

pub returns-clause-stopped : goal.returns-clause-stopped
returns-clause-stopped c = λ day.
    if_err _ _ c.take_step.result
    (λ t. stop_halts day c.args.world.now c.args.plans.now c.args.w c.args.kept c.args.one.now c.in_ok-act.act c.cut_short.result t
    (c.in_ok-act.ensures.made day) c.cut_short.ensures.value)
    c.take_step.ensures.stopped
