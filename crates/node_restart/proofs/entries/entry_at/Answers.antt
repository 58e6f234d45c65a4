use Rattle.node_restart.proofs.Fronts.{found_at}
use Rattle.node_restart.proofs.entries.entry_at.Goals as goal

pub returns-clause-found : goal.returns-clause-found
returns-clause-found g c =
    found_at (g.K.Keeper.kept c.args.keeper.now) c.args.number c.in_ok-body.body c.as_slice.result.now
    c.in_ok-entry_of.field-0 c.requires.room c.in_ok-body.ensures.body c.as_slice.ensures c.in_ok-entry_of.ensures.found
