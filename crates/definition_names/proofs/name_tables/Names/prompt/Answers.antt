use Rattle.std.proofs.Common.{◌∙◌}
use Rattle.definition_names.specs.Names.{prompt_at}
use Rattle.definition_names.proofs.name_tables.Names.prompt.Goals as goal

pub returns : goal.returns
returns c =
    c.copied.ensures
    ∙ (c.get.ensures.value ∙ (c.self.invariant.alone_.prompts_ c.args.name.now ∙ (λ j. prompt_at (c.self.view_is j) c.args.name.now)))
