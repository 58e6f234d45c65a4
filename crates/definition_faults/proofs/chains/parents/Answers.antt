use Rattle.std.proofs.Common.{◌++◌, ◌∙◌, ◌∷◌, [], sym}
use Rattle.model_laws.proofs.Numbers.{map_below_more}
use Rattle.definition_faults.specs.Chains.{parent_of}
use Rattle.definition_faults.proofs.chains.parents.Goals as goal

pub loop-i-preserved : goal.loop-i-preserved
loop-i-preserved c =
    c.in_ok-push.ensures.items
    ∙ ((λ j. c.loop-i.invariant j ++ c.parent_of.ensures j ∷ [])
    ∙ sym (map_below_more (parent_of c.args.names.now) c.loop-i.i))
