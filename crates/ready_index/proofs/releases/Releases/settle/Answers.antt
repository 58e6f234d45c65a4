use Rattle.std.proofs.Common.{◌∙◌, sym}
use Rattle.model.specs.History.{view_of}
use Rattle.ready_index.proofs.Releasing.{stream_settled}
use Rattle.ready_index.proofs.releases.Releases.settle.Goals as goal

pub returns-then-not-waits_here : goal.returns-then-not-waits_here
returns-then-not-waits_here c =
    stream_settled (view_of c.args.o.now) c.args.w c.args.number c.args.self.now c.remove.new.self
    (sym c.waits_here.ensures ∙ c.if-not-waits_here.true) c.remove.ensures
