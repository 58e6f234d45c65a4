use Rattle.std.proofs.Common.{List, refl, subst, ◌∙◌}
use Rattle.model.specs.Types.{Entry}
use Rattle.model.specs.StepFaults.{is_outside}
use Rattle.owner_fold.specs.Sets.{AreSetsOf}
use Rattle.owner_fold.proofs.Coded.{given_streams_found}
use Rattle.owner_fold.proofs.holdings.Owners.filed_stream_codes.Goals as goal

pub returns : goal.returns
returns c =
    given_streams_found c.args.self.now c.self.inside.sets
    (subst (λ (l : List Entry). AreSetsOf l c.self.inside.sets) c.self.view_is c.self.invariant.sets) c.args.w
    c.from.result c.of.result.now c.self.inside.sets.filed.streams (c.from.ensures ∙ c.w.view_is) c.of.ensures.codes
    c.of.ensures.rising is_outside c.self.inside.sets.filed
    (subst (λ (l : List Entry). AreSetsOf l c.self.inside.sets) c.self.view_is c.self.invariant.sets).filed
    refl
