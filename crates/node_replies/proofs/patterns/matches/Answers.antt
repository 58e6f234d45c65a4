use Rattle.std.proofs.Common.{ap, arith, drop, length, ◌-◌, ◌∙◌, List, ℕ}
use Rattle.node_replies.proofs.Rests.{at_whole, behind_first, length-matches_of_rests}
use Rattle.node_replies.specs.Patterns.{matches_of_rests}
use Rattle.node_replies.proofs.patterns.matches.Goals as goal

pub add_first-requires-clause-behind : goal.add_first-requires-clause-behind
add_first-requires-clause-behind c =
    c.as_mut_slice.ensures.value ∙ c.loop-passed.invariant
    ∙ ap (λ (ps : List ℕ). matches_of_rests ps c.args.text.now)
    (behind_first c.args.pattern.now c.loop-passed.passed c.loop-passed-test.true)

pub index-requires : goal.index-requires
index-requires c =
    omega (arith, ap length c.loop-passed.invariant, length-matches_of_rests (drop (length c.args.pattern.now - c.loop-passed.passed) c.args.pattern.now) c.args.text.now)

pub returns : goal.returns
returns c =
    c.index.ensures
    ∙ at_whole c.args.pattern.now c.args.text.now c.loop-passed.answers.items c.loop-passed.passed _
    c.loop-passed-test.false c.loop-passed.invariant
