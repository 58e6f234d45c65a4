use Rattle.std.proofs.Common.{◌++◌, ◌∙◌, ◌∷◌, [], ap, get_or}
use Rattle.std.proofs.lemmas.List.{get_or_default}
use Rattle.definition_faults.specs.Chains.{place_in}
use Rattle.lemmas.proofs.Lists.{mapped_more}
use Rattle.definition_faults.proofs.chains.through.Goals as goal

pub loop-place-preserved : goal.loop-place-preserved
loop-place-preserved c =
    let places = c.args.places.now in
    let i = c.loop-place.place-index in
    let place = get_or places i 0 in
    mapped_more (place_in c.args.steps.now) places i place _ c.loop-place.further.items c.push.new.self.items
    c.loop-place-test.true (get_or_default places i 0 place c.loop-place-test.true)
    (c.in_ok-push.ensures.items ∙ ap (λ y. c.loop-place.further.items ++ y ∷ []) c.place_in.ensures)
    c.loop-place.invariant
