use Rattle.std.proofs.Common.{ℕ, ◌<◌, ◌≡◌, false, get_or, length}
use Rattle.model.specs.Network.{are_neighbours}
use Rattle.agent_core.specs.Nodes.{present_in}
use Rattle.node_inputs.proofs.links.neighbours.Given as goal

abbrev pub invariant-loop-x : goal.invariant-loop-x
invariant-loop-x l =
    (length l.flags ≡ 256)
    × ((y : ℕ) → y < l.x → get_or l.flags y false ≡ are_neighbours (present_in l.agent) l.agent.me y)
