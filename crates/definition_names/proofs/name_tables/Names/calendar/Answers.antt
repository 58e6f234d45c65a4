use Rattle.std.proofs.Common.{◌∙◌}
use Rattle.definition_names.specs.Names.{calendar_at}
use Rattle.definition_names.proofs.name_tables.Names.calendar.Goals as goal

pub returns : goal.returns
returns c =
    c.copied.ensures
    ∙ (c.get.ensures.value ∙ (c.self.invariant.alone_.calendars_ c.args.name.now ∙ (λ j. calendar_at (c.self.view_is j) c.args.name.now)))
