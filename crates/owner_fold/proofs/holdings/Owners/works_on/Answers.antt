use Rattle.std.proofs.Common.{ap, arith, ◌∙◌}
use Rattle.grouped_places.specs.Codes.{code}
use Rattle.model.specs.Words.{has}
use Rattle.model.specs.History.{view_of}
use Rattle.model.specs.Forwarding.{works_on}
use Rattle.owner_fold.proofs.holdings.Owners.works_on.Goals as goal

pub returns : goal.returns
returns c =
    c.has.ensures
    ∙ (λ j. has c.self.inside.works (code ((c.from.ensures ∙ c.v.view_is) j) ((c.from-2.ensures ∙ c.x.view_is) j)))
    ∙ c.self.invariant.works c.args.v c.args.x (omega arith)
    ∙ ap (λ l. works_on (view_of l) c.args.v c.args.x) c.self.view_is
