use Rattle.node_inputs.specs.Traces.{Event}
use Rattle.node_loop.specs.Runs.{running}
use Rattle.run_laws.proofs.Holding.{run_ends}
use Rattle.run_laws.proofs.laws.nothing_follows_a_refusal.Goals as goal

pub returns : goal.returns
returns c = λ defs turns node trace end new runs front back e why split.
    (run_ends defs turns (running node) trace end new runs).each front (Event.Refuses e why) back split
