use Rattle.network_world.proofs.Showing.{sound_here}
use Rattle.network_world.proofs.worlds.World.is_sound.Goals as goal

pub returns : goal.returns
returns c = sound_here c.args.self.now c.stands.ensures.world c.every_history_is_sound.ensures
