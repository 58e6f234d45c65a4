use Rattle.std.proofs.Common.{sym, ◌∙◌}
use Rattle.node_loop.specs.Runs.{running}
use Rattle.run_laws.specs.Launches.{launches_kept}
use Rattle.run_laws.proofs.Holding.{run_keeps, run_starts}
use Rattle.run_laws.proofs.Made.{IsReadyLaunch, made_ready}
use Rattle.run_laws.proofs.Repeating.{apart_at, launches_apart}
use Rattle.run_laws.proofs.laws.launches_are_started_once.Goals as goal

pub returns-clause-started : goal.returns-clause-started
returns-clause-started c = λ defs turns node trace end new runs.
    (run_starts defs turns (running node) trace end new runs).started

pub returns-clause-kept_first : goal.returns-clause-kept_first
returns-clause-kept_first c = λ defs turns node trace end new runs.
    (run_starts defs turns (running node) trace end new runs).kept_first

pub returns-clause-once : goal.returns-clause-once
returns-clause-once c = λ defs turns node trace end new runs front back launch split.
    apart_at (launches_kept node.me trace) front back launch
    (launches_apart node new.node trace end (run_keeps IsReadyLaunch made_ready defs turns (running node) trace end new runs))
    (sym (run_starts defs turns (running node) trace end new runs).started ∙ split)
