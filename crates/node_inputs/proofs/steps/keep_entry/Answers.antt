use Rattle.node_inputs.proofs.Taking.{did_keep_none}
use Rattle.node_inputs.proofs.steps.keep_entry.Goals as goal

pub returns-in-None-clause-does : goal.returns-in-None-clause-does
returns-in-None-clause-does g c = λ node told. did_keep_none g.K.Keeper.spent c.args.kept.now c.in-None.is node c.args.keeper.now told c.requires.ready
