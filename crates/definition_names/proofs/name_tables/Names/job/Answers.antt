use Rattle.std.proofs.Common.{◌∙◌}
use Rattle.definition_names.specs.Names.{job_at}
use Rattle.definition_names.proofs.name_tables.Names.job.Goals as goal

pub returns : goal.returns
returns c =
    c.copied.ensures
    ∙ (c.get.ensures.value
    ∙ (c.self.invariant.placed_.jobs_ c.args.ws.now c.args.name.now ∙ (λ j. job_at (c.self.view_is j) c.args.ws.now c.args.name.now)))
