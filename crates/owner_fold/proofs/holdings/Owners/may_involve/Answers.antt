use Rattle.std.proofs.Common.{sym, ◌∙◌}
use Rattle.grouped_places.specs.Codes.{code}
use Rattle.model.specs.Words.{has}
use Rattle.owner_fold.proofs.Pairing.{cites_not, works_not}
use Rattle.owner_fold.proofs.holdings.Owners.may_involve.Goals as goal

pub returns-clause-works : goal.returns-clause-works
returns-clause-works c h =
    works_not c.self.inside.kept c.args.self.now c.self.inside.pairs c.args.v c.args.x c.self.view_is c.self.invariant.pairs
    (sym (λ j. has c.self.inside.pairs (code ((c.from.ensures ∙ c.v.view_is) j) ((c.from-2.ensures ∙ c.x.view_is) j)))
    ∙ sym c.has.ensures ∙ h)

pub returns-clause-cites : goal.returns-clause-cites
returns-clause-cites c h =
    cites_not c.self.inside.kept c.args.self.now c.self.inside.pairs c.args.v c.args.x c.self.view_is c.self.invariant.pairs
    (sym (λ j. has c.self.inside.pairs (code ((c.from.ensures ∙ c.v.view_is) j) ((c.from-2.ensures ∙ c.x.view_is) j)))
    ∙ sym c.has.ensures ∙ h)
