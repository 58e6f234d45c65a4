use Rattle.std.proofs.Common.{◌∙◌, ◌++◌, [], ◌∷◌, ap, append_assoc}
use Rattle.composer_parser.proofs.batches.append.Goals as goal

pub loop-item-preserved : goal.loop-item-preserved
loop-item-preserved g c =
    c.in_ok-push.ensures.ok ∙ ap (λ xs. xs ++ c.in-Some.item ∷ []) c.loop-item.invariant
    ∙ append_assoc c.args.all.now c.loop-item.yielded (c.in-Some.item ∷ [])
