use Rattle.std.proofs.Common.{◌∙◌}
use Rattle.model.specs.History.{view_of}
use Rattle.ready_index.proofs.Releasing.{first_releases}
use Rattle.ready_index.proofs.releases.Releases.lowest.Goals as goal

pub returns : goal.returns
returns c =
    λ knows.
    c.first_to_release.ensures.first
    ∙ first_releases c.args.net.now (view_of c.args.o.now) c.args.w c.args.self.now c.first_to_release.ensures.ordered
    knows
