use Rattle.std.proofs.Common.{ap, ◌∙◌}
use Rattle.model.specs.Catalogue.{is_member}
use Rattle.model.specs.History.{view_of}
use Rattle.owner_fold.proofs.Finding.{member_found}
use Rattle.owner_fold.proofs.holdings.Owners.is_member.Goals as goal

pub returns : goal.returns
returns c =
    c.is_some.ensures
    ∙ member_found c.self.inside.kept c.args.self.now c.self.inside.plan c.s.inside.0 c.place.result c.self.invariant.plan
    c.self.view_is c.place.ensures
    ∙ ap (λ n. is_member (view_of c.args.self.now) n) c.s.view_is
