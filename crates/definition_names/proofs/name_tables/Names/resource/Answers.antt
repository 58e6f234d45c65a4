use Rattle.std.proofs.Common.{◌∙◌}
use Rattle.definition_names.specs.Names.{resource_at}
use Rattle.definition_names.proofs.name_tables.Names.resource.Goals as goal

pub returns : goal.returns
returns c =
    c.copied.ensures
    ∙ (c.get.ensures.value
    ∙ (c.self.invariant.placed_.resources_ c.args.ws.now c.args.name.now ∙ (λ j. resource_at (c.self.view_is j) c.args.ws.now c.args.name.now)))
