use Rattle.std.specs.Prelude.{Err}
use Rattle.record_runs.specs.Causes.{no_moment}
use Rattle.record_runs.proofs.Coming.{no_days}
use Rattle.record_runs.proofs.runs.run_script.Goals as goal

pub returns-clause-end : goal.returns-clause-end
returns-clause-end c = λ day. c.run_days.ensures.end day (λ n answer none. absurd none)

pub returns-clause-otherwise : goal.returns-clause-otherwise
returns-clause-otherwise c = λ plans.
    c.run_days.ensures.otherwise (λ n. Err no_moment) (λ n answer none. absurd none) (no_days c.args.script plans)
