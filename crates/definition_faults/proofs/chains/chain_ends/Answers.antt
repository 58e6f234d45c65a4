use Rattle.std.proofs.Common.{◌∙◌, ap, length, map}
use Rattle.lemmas.proofs.Lists.{take_whole}
use Rattle.model.specs.Words.{below}
use Rattle.definition_faults.specs.Chains.{is_top}
use Rattle.definition_faults.proofs.Climbs.{tops_climbed}
use Rattle.definition_faults.proofs.chains.chain_ends.Goals as goal

pub returns : goal.returns
returns c =
    let d = c.args.names.now in
    c.loop-place.invariant
    ∙ (ap (map (is_top d)) (take_whole c.as_slice-places.result.now c.loop-place.place-index c.loop-place-test.false)
    ∙ (ap (map (is_top d)) (c.as_slice-places.ensures.value ∙ c.in_ok-climbed.ensures)
    ∙ tops_climbed d (length d.domains) (below (length d.domains))))
