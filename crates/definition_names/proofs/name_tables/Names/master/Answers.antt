use Rattle.std.proofs.Common.{◌∙◌}
use Rattle.definition_names.specs.Stations.{master_of}
use Rattle.definition_names.proofs.name_tables.Names.master.Goals as goal

pub returns : goal.returns
returns c = c.self.invariant.master_ ∙ (λ j. master_of (c.self.view_is j))
