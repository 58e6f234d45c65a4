use Rattle.network_tree.proofs.Trees.{few}
use Rattle.history_script.proofs.reading.read_behind.Goals as goal

pub read_rows-requires-clause-small : goal.read_rows-requires-clause-small
read_rows-requires-clause-small c = (few c.args.net c.requires.accepted).1
