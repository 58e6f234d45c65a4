use Rattle.std.proofs.Common.{List, sym, ap, ◌∙◌}
use Rattle.model.specs.Types.{Entry}
use Rattle.owner_rows.specs.Standing.{has_issued as any_issued}
use Rattle.owner_rows.proofs.Standing.{none_issued}
use Rattle.owner_rows.proofs.kept.Kept.has_issued.Goals as goal

pub returns : goal.returns
returns c =
    let told = c.has_issued.ensures ∙ c.self.invariant.places.issuers c.args.a
    ∙ ap (λ (l : List Entry). any_issued l c.args.a) c.self.view_is in
    record { issued = told; nothing = λ none_ w. none_issued c.args.self.now c.args.a w (sym told ∙ none_) }
