use Rattle.std.proofs.Common.{None, subst, sym}
use Rattle.node_inputs.specs.Doings.{Does}
use Rattle.node_inputs.specs.Inputs.{Tell}
use Rattle.node_inputs.proofs.Doing.{did_outside, out_nothing}
use Rattle.node_inputs.proofs.inputs.tell.Goals as goal

pub returns-in-None-clause-does : goal.returns-in-None-clause-does
returns-in-None-clause-does g c = λ told.
    subst (λ s. Does g.K.Keeper.kept g.K.Keeper.size g.K.Keeper.faults g.K.Keeper.moment g.K.Keeper.may_leave g.K.Keeper.left_since g.K.Keeper.opens_since (Tell s) c.args.agent.now c.args.agent.now c.args.keeper.now c.args.keeper.now told told None) (sym c.in-None.is)
    (did_outside g.K.Keeper.spent c.args.keeper.now c.requires.ready (out_nothing c.args.agent.now told))
