use Rattle.node_inputs.specs.Traces.{Event}
use Rattle.node_loop.specs.Runs.{running}
use Rattle.run_laws.proofs.Holding.{run_keeps}
use Rattle.run_laws.proofs.Made.{IsReadyLaunch, made_ready}
use Rattle.run_laws.proofs.laws.launches_are_ready.Goals as goal

pub returns-clause-ready : goal.returns-clause-ready
returns-clause-ready c = λ defs turns node trace end new runs front back e j n seen split feed body.
    ((run_keeps IsReadyLaunch made_ready defs turns (running node) trace end new runs).each front (Event.Keeps e) back split
    j n seen feed body).0

pub returns-clause-number : goal.returns-clause-number
returns-clause-number c = λ defs turns node trace end new runs front back e j n seen split feed body.
    ((run_keeps IsReadyLaunch made_ready defs turns (running node) trace end new runs).each front (Event.Keeps e) back split
    j n seen feed body).1
