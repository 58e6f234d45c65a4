-- The steps: the plan is made, the links go up, and then each round has a turn of the master and of each agent, the good
-- end of what runs, and all packets.
use Rattle.std.specs.Prelude.{ℕ, List, ◌++◌, ◌+◌, ◌*◌, flat_map, codes}
use Rattle.std.specs.Fmt.{decimal}
use Rattle.std.specs.List.{range_with_len}
use Rattle.sample_record.specs.Agents.{agents, each}

-- both ends of the link between the master and an agent
abbrev pub link_lines : ℕ → List ℕ
link_lines agent = codes "link M A" ++ decimal agent ++ codes "\nlink A" ++ decimal agent ++ codes " M\n"

abbrev pub turn_line : ℕ → ℕ → List ℕ
turn_line round agent = codes "turn A" ++ decimal agent ++ codes " " ++ decimal round ++ codes "\n"

-- a round, whose number is the reading of its turns
unfoldable pub round_part : ℕ → List ℕ
round_part round =
    codes "turn M " ++ decimal round ++ codes "\n" ++ flat_map (turn_line round) agents
    ++ each (codes "reap A") (codes " 0\n") ++ each (codes "flow A") (codes " M\n")
    ++ each (codes "flow M A") (codes "\n")

unfoldable pub steps_part : ℕ → List ℕ
steps_part jobs =
    codes "$STEPS\nnext\n" ++ flat_map link_lines agents ++ flat_map round_part (range_with_len 1 (2 * jobs + 20))
