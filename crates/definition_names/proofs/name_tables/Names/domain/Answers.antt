use Rattle.std.proofs.Common.{◌∙◌}
use Rattle.definition_names.specs.Names.{domain_at}
use Rattle.definition_names.proofs.name_tables.Names.domain.Goals as goal

pub returns : goal.returns
returns c =
    c.copied.ensures
    ∙ (c.get.ensures.value ∙ (c.self.invariant.alone_.domains_ c.args.name.now ∙ (λ j. domain_at (c.self.view_is j) c.args.name.now)))
