use Rattle.std.proofs.Common.{◌++◌, ◌∙◌, ◌∷◌, [], ap, sym}
use Rattle.model_laws.proofs.Numbers.{below_more}
use Rattle.definition_faults.proofs.chains.own_places.Goals as goal

pub loop-i-preserved : goal.loop-i-preserved
loop-i-preserved c =
    c.in_ok-push.ensures.items
    ∙ (ap (λ l. l ++ c.loop-i.i ∷ []) c.loop-i.invariant ∙ sym (below_more c.loop-i.i))
