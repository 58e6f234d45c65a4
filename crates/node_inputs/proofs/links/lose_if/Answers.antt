use Rattle.std.proofs.Common.{◌≡◌, ◌∙◌, false, get_or, rules, sym}
use Rattle.node_inputs.specs.Inputs.{Lose, is_lost}
use Rattle.node_inputs.specs.Tellings.{told_by}
use Rattle.node_inputs.proofs.Choosing.{out_if_false}
use Rattle.node_inputs.proofs.Doing.{did_outside, out_nothing}
use Rattle.node_inputs.proofs.links.lose_if.Goals as goal

pub returns-else-is_flagged-clause-does : goal.returns-else-is_flagged-clause-does
returns-else-is_flagged-clause-does g c = λ all jobs clock files told.
    let flag : get_or c.args.lost.now c.args.x false ≡ false = search rules in
    did_outside g.K.Keeper.spent c.args.keeper.now c.requires.ready
    (out_if_false (Lose c.args.x) (is_lost all c.args.x) (sym (told c.args.x c.requires.few) ∙ flag)
    (out_nothing c.args.agent.now (told_by (g.L.Link.calls c.args.link.now) jobs clock files)))
