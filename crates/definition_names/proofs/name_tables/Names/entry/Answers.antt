use Rattle.std.proofs.Common.{◌∙◌}
use Rattle.definition_names.specs.Streams.{entry_of}
use Rattle.definition_names.proofs.name_tables.Names.entry.Goals as goal

pub returns : goal.returns
returns c =
    c.copied.ensures
    ∙ (c.get.ensures.value
    ∙ (c.self.invariant.entries_ c.args.stream c.args.name.now
    ∙ (λ j. entry_of (c.self.view_is j) c.args.stream c.args.name.now)))
