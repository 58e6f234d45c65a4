use Rattle.std.proofs.Common.{◌∙◌, ap}
use Rattle.std.specs.Prelude.{option_and_then}
use Rattle.model.specs.Words.{nth}
use Rattle.network_world.specs.Stations.{Lane}
use Rattle.network_world.proofs.worlds.World.packet.Goals as goal

pub returns-in-Some : goal.returns-in-Some
returns-in-Some c =
    c.packet.ensures ∙ ap (option_and_then (λ (l : Lane). nth l.packets c.args.k)) c.in-Some.ensures

pub returns-in-None : goal.returns-in-None
returns-in-None c = ap (option_and_then (λ (l : Lane). nth l.packets c.args.k)) c.in-None.ensures
