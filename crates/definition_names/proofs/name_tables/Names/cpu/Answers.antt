use Rattle.std.proofs.Common.{◌∙◌}
use Rattle.definition_names.specs.Names.{cpu_at}
use Rattle.definition_names.proofs.name_tables.Names.cpu.Goals as goal

pub returns : goal.returns
returns c =
    c.copied.ensures
    ∙ (c.get.ensures.value ∙ (c.self.invariant.alone_.cpus_ c.args.name.now ∙ (λ j. cpu_at (c.self.view_is j) c.args.name.now)))
