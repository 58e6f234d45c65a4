use Rattle.std.proofs.Common.{◌+◌, ◌<◌, ◌≡◌, ℕ, false, get_or, length, rules, slice_set, subst, sym}
use Rattle.model.specs.Network.{are_neighbours, node_count}
use Rattle.agent_core.specs.Nodes.{present_in, view_in}
use Rattle.agent_core.proofs.Holding.{present_inside}
use Rattle.node_inputs.proofs.Flagging.{flag_set}
use Rattle.node_inputs.proofs.links.neighbours.Goals as goal

pub neighbours-requires-clause-other : goal.neighbours-requires-clause-other
neighbours-requires-clause-other c =
    let inside : c.loop-x.x < node_count c.args.agent.now.net = search rules in
    subst (λ n. c.loop-x.x < node_count n) (sym c.net.ensures.value)
    (present_inside c.args.agent.now.net (view_in c.args.agent.now) c.loop-x.x inside)

pub loop-x-preserved : goal.loop-x-preserved
loop-x-preserved c =
    let few : c.loop-x.x < 256 = search rules in
    let at : c.from.result ≡ c.loop-x.x = search rules in
    let same : c.neighbours.result ≡ are_neighbours (present_in c.args.agent.now) c.args.agent.now.me c.loop-x.x = search rules in
    subst (λ i. (length (slice_set c.loop-x.flags i c.neighbours.result) ≡ 256) × ((y : ℕ) → y < c.loop-x.x + 1 → get_or (slice_set c.loop-x.flags i c.neighbours.result) y false ≡ are_neighbours (present_in c.args.agent.now) c.args.agent.now.me y)) (sym at)
    (flag_set c.loop-x.flags c.loop-x.x c.neighbours.result (λ y. are_neighbours (present_in c.args.agent.now) c.args.agent.now.me y) c.loop-x.invariant.0 few same c.loop-x.invariant.1)
