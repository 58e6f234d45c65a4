use Rattle.std.proofs.Common.{ap, length, set, List, Bool, true, ◌∙◌}
use Rattle.node_replies.proofs.Rests.{last_alone}
use Rattle.node_replies.proofs.patterns.of_no_pattern.Goals as goal

pub returns : goal.returns
returns c =
    ap (λ (l : List Bool). set l (length c.args.text.now) true)
    (c.in_ok-answers.ensures.items_if_clones_equal (λ y e. e))
    ∙ last_alone c.args.text.now
