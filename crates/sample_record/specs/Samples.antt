-- The record of a sample.
use Rattle.std.specs.Prelude.{ℕ, List, ◌++◌, codes}
use Rattle.sample_record.specs.Agents.{each}
use Rattle.sample_record.specs.Streams.{plan_part}
use Rattle.sample_record.specs.Rounds.{steps_part}

-- the network, the plan with so many jobs and drawn from this seed on, and the steps
unfoldable pub sample_of : ℕ → ℕ → List ℕ
sample_of jobs seed =
    codes "$NETWORK\nws M\n" ++ each (codes "ws A") (codes " M\n") ++ plan_part jobs seed ++ steps_part jobs
