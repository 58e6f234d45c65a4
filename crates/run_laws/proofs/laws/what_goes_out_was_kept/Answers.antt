use Rattle.node_inputs.specs.Traces.{Event}
use Rattle.node_loop.specs.Runs.{running}
use Rattle.run_laws.proofs.Holding.{run_gives_out}
use Rattle.run_laws.proofs.laws.what_goes_out_was_kept.Goals as goal

pub returns-clause-starts : goal.returns-clause-starts
returns-clause-starts c = λ defs turns node trace end new runs front back call split.
    (run_gives_out defs turns (running node) trace end new runs).each front (Event.Starts call) back split

pub returns-clause-kills : goal.returns-clause-kills
returns-clause-kills c = λ defs turns node trace end new runs front back j n split.
    (run_gives_out defs turns (running node) trace end new runs).each front (Event.Kills j n) back split

pub returns-clause-sends : goal.returns-clause-sends
returns-clause-sends c = λ defs turns node trace end new runs front back call split.
    (run_gives_out defs turns (running node) trace end new runs).each front (Event.Sends call) back split
