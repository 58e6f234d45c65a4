use Rattle.std.proofs.Common.{◌∙◌}
use Rattle.composer_print.specs.Scopes.{has_name}
use Rattle.composer_print.proofs.jobs.Jobs.has.Goals as goal

pub returns : goal.returns
returns c =
    c.contains.ensures
    ∙ (c.self.invariant c.args.name.now ∙ (λ j. has_name (c.self.view_is j) c.args.name.now))
