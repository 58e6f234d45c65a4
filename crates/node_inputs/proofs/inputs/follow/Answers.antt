use Rattle.std.proofs.Common.{List, subst}
use Rattle.model.specs.Types.{Out}
use Rattle.node_inputs.specs.Doings.{Does, end_of}
use Rattle.node_inputs.specs.Inputs.{Give}
use Rattle.node_inputs.specs.Tellings.{told_by}
use Rattle.node_inputs.proofs.Doing.{did_outside, did_then}
use Rattle.node_inputs.proofs.inputs.follow.Goals as goal

pub returns-clause-does : goal.returns-clause-does
returns-clause-does g c = λ old clock files told same.
    did_then
    (did_outside g.K.Keeper.spent c.args.keeper.now c.requires.ready (c.raise_new.ensures old (g.J.Spawner.calls c.args.jobs.now) clock files told same))
    (subst (λ (o : List Out). Does g.K.Keeper.kept g.K.Keeper.size g.K.Keeper.faults g.K.Keeper.moment g.K.Keeper.may_leave g.K.Keeper.left_since g.K.Keeper.opens_since
    (Give o) c.args.agent.now c.give.new.agent c.args.keeper.now c.give.new.keeper (told_by (g.L.Link.calls c.raise_new.new.link) (g.J.Spawner.calls c.args.jobs.now) clock files)
    (told_by (g.L.Link.calls c.give.new.link) (g.J.Spawner.calls c.give.new.jobs) clock files) (end_of c.give.result)) c.as_slice.ensures (c.give.ensures.does clock files))
