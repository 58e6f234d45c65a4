use Rattle.std.proofs.Common.{◌∙◌}
use Rattle.network_world.proofs.Showing.{all_parts}
use Rattle.network_world.proofs.worlds.World.parts.Goals as goal

pub returns : goal.returns
returns c = λ x old.
    all_parts c.args.self.now x c.in_ok-events.events c.in_ok-starts.starts c.in_ok-packets.packets c.in_ok-nodes.nodes
    old (c.in_ok-events.ensures ∙ c.history.ensures) (c.in_ok-starts.ensures ∙ c.starts.ensures)
    (c.in_ok-packets.ensures x old) (c.in_ok-nodes.ensures x old)
