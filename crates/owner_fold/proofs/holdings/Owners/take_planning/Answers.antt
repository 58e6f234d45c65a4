use Rattle.std.proofs.Common.{[], ◌++◌, ◌∷◌, Err, List, Ok, Result, subst, ◌∙◌}
use Rattle.std.specs.Prelude.{OnErr}
use Rattle.model.specs.Types.{Entry}
use Rattle.owner_fold.specs.Plans.{IsPlanOf}
use Rattle.owner_fold.proofs.Beside.{beside_planned, beside_same}
use Rattle.owner_fold.proofs.holdings.Owners.take_planning.Goals as goal

pub pairs_of-requires : goal.pairs_of-requires
pairs_of-requires c =
    subst (λ (l : List Entry). IsPlanOf (l ++ c.args.e ∷ []) c.in_ok-plan.plan) c.entries.ensures.list
    c.in_ok-plan.ensures

pub works_of-requires : goal.works_of-requires
works_of-requires c =
    subst (λ (l : List Entry). IsPlanOf (l ++ c.args.e ∷ []) c.in_ok-plan.plan) c.entries.ensures.list
    c.in_ok-plan.ensures

pub invariant_of-self : goal.invariant_of-self
invariant_of-self c =
    beside_same c.self.inside.kept c.take_own.new.self c.self.inside.plan c.self.inside.sets c.self.inside.pairs
    c.self.inside.works c.self.inside.ordered c.in_err-take_own.ensures.err c.self.invariant

pub invariant_of-self-2 : goal.invariant_of-self-2
invariant_of-self-2 c =
    beside_planned c.self.inside.kept c.take_own.new.self c.args.e c.in_ok-plan.plan c.in_ok-sets.sets c.in_ok-pairs.pairs
    c.in_ok-works.works c.self.inside.ordered c.requires.planning
    (subst (λ (l : List Entry). IsPlanOf (l ++ c.args.e ∷ []) c.in_ok-plan.plan) c.entries.ensures.list
    c.in_ok-plan.ensures)
    c.in_ok-sets.ensures c.in_ok-pairs.ensures c.in_ok-works.ensures c.self.invariant.ordered c.in_ok-take_own.ensures.ok

on_err : {T E P : Type 0} (r : Result T E) → P → OnErr r P
on_err (Ok x) p = tt
on_err (Err x) p = p

pub returns-in_err-take_own-clause-err : goal.returns-in_err-take_own-clause-err
returns-in_err-take_own-clause-err c = on_err _ (c.in_err-take_own.ensures.err ∙ c.self.view_is)
