use Rattle.std.proofs.Common.{map, sym, subst}
use Rattle.std.specs.Prelude.{IfErr, OnOk}
use Rattle.lemmas.proofs.Results.{if_err}
use Rattle.model.specs.Types.{Crash, Deliver}
use Rattle.model.specs.World.{view_at}
use Rattle.recovery_watch.specs.Advice.{advice}
use Rattle.record_script.specs.declared.StepForm.{StepForm}
use Rattle.record_script.specs.declared.StepForm.TheVariants as form
use Rattle.record_runs.specs.Lines.{advised, live_jobs, only, undelivered}
use Rattle.record_runs.specs.Runs.{take_line}
use Rattle.record_runs.specs.Taken.{HaltsFor, Leads}
use Rattle.record_runs.proofs.Tables.{crash_is, ends, flow_is, line_halts, line_leads, on_ok, reap_is, recover_is}
use Rattle.record_runs.proofs.lines.take_line.Goals as goal

pub returns-in-One-clause-stopped : goal.returns-in-One-clause-stopped
returns-in-One-clause-stopped c = λ day.
    subst (λ (f : StepForm). IfErr c.take_one.result
    (HaltsFor c.args.world.now (take_line day c.args.world.now.net c.args.plans.now f)))
    (sym c.in-One.is) (c.take_one.ensures.stopped day)

pub returns-in-CrashIn-clause-stopped : goal.returns-in-CrashIn-clause-stopped
returns-in-CrashIn-clause-stopped c = λ day.
    subst (λ (f : StepForm). IfErr c.stop_in.result
    (HaltsFor c.args.world.now (take_line day c.args.world.now.net c.args.plans.now f)))
    (sym c.in-CrashIn.is) (c.stop_in.ensures.stopped day)

pub returns-in-Flow-clause-taken : goal.returns-in-Flow-clause-taken
returns-in-Flow-clause-taken c = λ day.
    subst (λ (f : StepForm). OnOk c.flow.result
    (Leads c.args.world.now (take_line day c.args.world.now.net c.args.plans.now f) c.flow.new.world))
    (sym c.in-Flow.is)
    (on_ok _ _ c.flow.result
    (line_leads day c.args.world.now c.args.plans.now (form.Flow c.in-Flow.a c.in-Flow.b)
    (λ x. map (λ k. Deliver c.in-Flow.a c.in-Flow.b k) (undelivered x c.in-Flow.a c.in-Flow.b)) (λ x s. flow_is day c.args.world.now.net x c.args.plans.now c.in-Flow.a c.in-Flow.b)
    c.flow.new.world) c.flow.ensures.taken)

pub returns-in-Flow-clause-stopped : goal.returns-in-Flow-clause-stopped
returns-in-Flow-clause-stopped c = λ day.
    subst (λ (f : StepForm). IfErr c.flow.result
    (HaltsFor c.args.world.now (take_line day c.args.world.now.net c.args.plans.now f)))
    (sym c.in-Flow.is)
    (if_err _ _ c.flow.result
    (line_halts day c.args.world.now c.args.plans.now (form.Flow c.in-Flow.a c.in-Flow.b)
    (λ x. map (λ k. Deliver c.in-Flow.a c.in-Flow.b k) (undelivered x c.in-Flow.a c.in-Flow.b)) (λ x s. flow_is day c.args.world.now.net x c.args.plans.now c.in-Flow.a c.in-Flow.b)) c.flow.ensures.stopped)

pub returns-in-Reap-clause-taken : goal.returns-in-Reap-clause-taken
returns-in-Reap-clause-taken c = λ day.
    subst (λ (f : StepForm). OnOk c.reap.result
    (Leads c.args.world.now (take_line day c.args.world.now.net c.args.plans.now f) c.reap.new.world))
    (sym c.in-Reap.is)
    (on_ok _ _ c.reap.result
    (line_leads day c.args.world.now c.args.plans.now (form.Reap c.in-Reap.w c.in-Reap.code)
    (λ x. map (ends c.in-Reap.w c.in-Reap.code) (live_jobs x c.in-Reap.w)) (λ x s. reap_is day c.args.world.now.net x c.args.plans.now c.in-Reap.w c.in-Reap.code)
    c.reap.new.world) c.reap.ensures.taken)

pub returns-in-Reap-clause-stopped : goal.returns-in-Reap-clause-stopped
returns-in-Reap-clause-stopped c = λ day.
    subst (λ (f : StepForm). IfErr c.reap.result
    (HaltsFor c.args.world.now (take_line day c.args.world.now.net c.args.plans.now f)))
    (sym c.in-Reap.is)
    (if_err _ _ c.reap.result
    (line_halts day c.args.world.now c.args.plans.now (form.Reap c.in-Reap.w c.in-Reap.code)
    (λ x. map (ends c.in-Reap.w c.in-Reap.code) (live_jobs x c.in-Reap.w)) (λ x s. reap_is day c.args.world.now.net x c.args.plans.now c.in-Reap.w c.in-Reap.code)) c.reap.ensures.stopped)

pub returns-in-Crash-clause-taken : goal.returns-in-Crash-clause-taken
returns-in-Crash-clause-taken c = λ day.
    subst (λ (f : StepForm). OnOk c.take_step.result
    (Leads c.args.world.now (take_line day c.args.world.now.net c.args.plans.now f) c.take_step.new.world))
    (sym c.in-Crash.is)
    (on_ok _ _ c.take_step.result
    (line_leads day c.args.world.now c.args.plans.now (form.Crash c.in-Crash.w)
    (λ x. only (Crash c.in-Crash.w)) (λ x s. crash_is day c.args.world.now.net x c.args.plans.now c.in-Crash.w)
    c.take_step.new.world) c.take_step.ensures.taken)

pub returns-in-Crash-clause-stopped : goal.returns-in-Crash-clause-stopped
returns-in-Crash-clause-stopped c = λ day.
    subst (λ (f : StepForm). IfErr c.take_step.result
    (HaltsFor c.args.world.now (take_line day c.args.world.now.net c.args.plans.now f)))
    (sym c.in-Crash.is)
    (if_err _ _ c.take_step.result
    (line_halts day c.args.world.now c.args.plans.now (form.Crash c.in-Crash.w)
    (λ x. only (Crash c.in-Crash.w)) (λ x s. crash_is day c.args.world.now.net x c.args.plans.now c.in-Crash.w)) c.take_step.ensures.stopped)

pub returns-in-Recover-clause-taken : goal.returns-in-Recover-clause-taken
returns-in-Recover-clause-taken c = λ day.
    subst (λ (f : StepForm). OnOk c.recover.result
    (Leads c.args.world.now (take_line day c.args.world.now.net c.args.plans.now f) c.recover.new.world))
    (sym c.in-Recover.is)
    (on_ok _ _ c.recover.result
    (line_leads day c.args.world.now c.args.plans.now (form.Recover c.in-Recover.w)
    (λ x. advised c.in-Recover.w (advice (view_at x c.in-Recover.w) c.in-Recover.w)) (λ x s. recover_is day c.args.world.now.net x c.args.plans.now c.in-Recover.w)
    c.recover.new.world) c.recover.ensures.taken)

pub returns-in-Recover-clause-stopped : goal.returns-in-Recover-clause-stopped
returns-in-Recover-clause-stopped c = λ day.
    subst (λ (f : StepForm). IfErr c.recover.result
    (HaltsFor c.args.world.now (take_line day c.args.world.now.net c.args.plans.now f)))
    (sym c.in-Recover.is)
    (if_err _ _ c.recover.result
    (line_halts day c.args.world.now c.args.plans.now (form.Recover c.in-Recover.w)
    (λ x. advised c.in-Recover.w (advice (view_at x c.in-Recover.w) c.in-Recover.w)) (λ x s. recover_is day c.args.world.now.net x c.args.plans.now c.in-Recover.w)) c.recover.ensures.stopped)
