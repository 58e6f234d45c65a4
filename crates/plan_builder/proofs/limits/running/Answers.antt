use Rattle.std.proofs.Common.{Global, Vec, ℕ, ◌∙◌, ap, arith, sym}
use Rattle.run_cycles.specs.Runs.{runs}
use Rattle.run_cycles.proofs.Ranges.{put_day, skip_day}
use Rattle.plan_builder.proofs.Lists.{all_running}
use Rattle.plan_builder.proofs.limits.running.Goals as goal
use Rattle.plan_builder.proofs.limits.running.Goals.{then-runs_on+in_ok-push, else-runs_on}

pub loop-n-preserved : goal.loop-n-preserved
loop-n-preserved c =
    elim c.if-runs_on.branch [
      | then-runs_on+in_ok-push w ↦
          put_day (λ n. runs c.args.w.now n c.args.day) _ c.loop-n.n _ c.loop-n.streams.items c.if-runs_on.streams.items
          c.loop-n-test.true (sym c.runs_on.ensures ∙ w.if-runs_on.true)
          (ap (λ (v : Vec ℕ Global). v.items) w.streams-is ∙ w.in_ok-push.ensures.items) c.loop-n.invariant
      | else-runs_on w ↦
          rw w.streams-is
          (skip_day (λ n. runs c.args.w.now n c.args.day) _ c.loop-n.n _ c.loop-n.streams.items c.loop-n-test.true
          (sym c.runs_on.ensures ∙ w.if-runs_on.false) c.loop-n.invariant)
    ]

pub returns : goal.returns
returns c =
    all_running c.args.w.now c.args.day c.loop-n.n _ c.loop-n.streams.items c.loop-n-test.false c.loop-n.invariant
    (omega arith)
