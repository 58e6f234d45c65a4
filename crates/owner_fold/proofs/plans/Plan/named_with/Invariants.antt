use Rattle.std.proofs.Common.{◌≡◌, ◌++◌, map, take}
use Rattle.model.specs.Types.{StreamDoc}
use Rattle.owner_fold.proofs.plans.Plan.named_with.Given as goal

abbrev pub invariant-loop-doc : goal.invariant-loop-doc
invariant-loop-doc l =
    l.named ≡ l.initial.named ++ map (λ (d : StreamDoc). d.no) (take l.doc-index l.doc-items)
