use Rattle.network_world.proofs.Showing.{few_entries_here, few_starts_here}
use Rattle.network_world.proofs.worlds.World.is_short.Goals as goal

pub returns-clause-entries : goal.returns-clause-entries
returns-clause-entries c =
    few_entries_here c.args.self.now c.stands.ensures.world c.worlds_make_few_entries.ensures.entries

pub returns-clause-starts : goal.returns-clause-starts
returns-clause-starts c =
    few_starts_here c.args.self.now c.stands.ensures.world c.worlds_make_few_entries.ensures.starts
