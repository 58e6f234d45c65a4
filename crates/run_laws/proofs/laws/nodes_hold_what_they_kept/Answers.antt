use Rattle.node_loop.specs.Runs.{running}
use Rattle.run_laws.proofs.Holding.{run_ends, run_holds}
use Rattle.run_laws.proofs.laws.nodes_hold_what_they_kept.Goals as goal

pub returns-clause-same : goal.returns-clause-same
returns-clause-same c = λ defs turns node trace end new runs.
    let it = run_ends defs turns (running node) trace end new runs in (it.me_, it.net_)

pub returns-clause-holds : goal.returns-clause-holds
returns-clause-holds c = λ defs turns node trace end new runs.
    let it = run_holds defs turns (running node) trace end new runs in (it.in_hand, it.holds, it.its_end)
