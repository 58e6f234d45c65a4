use Rattle.std.proofs.Common.{◌∙◌}
use Rattle.model.specs.History.{view_of}
use Rattle.ready_index.proofs.Ending.{first_ends}
use Rattle.ready_index.proofs.ends.Ends.lowest.Goals as goal

pub returns : goal.returns
returns c =
    λ knows.
    c.first_to_end.ensures.first
    ∙ first_ends (view_of c.args.o.now) c.args.w c.args.self.now.streams c.first_to_end.ensures.ordered knows
