use Rattle.counted_facts.proofs.LaunchTelling.{nothing_told}
use Rattle.counted_facts.proofs.launch_rows.ToldLaunches.new.Goals as goal

pub returns : goal.returns
returns c =
    nothing_told (record { counts = c.new.result; launched = c.new-2.result; ended = c.new-3.result }) c.new.ensures.empty
    c.new-2.ensures.empty c.new-3.ensures.empty
