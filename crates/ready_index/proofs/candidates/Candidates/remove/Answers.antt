use Rattle.std.proofs.Common.{◌∙◌, ap}
use Rattle.ready_index.specs.Lists.{without}
use Rattle.ready_index.proofs.Keys.{key_taken}
use Rattle.ready_index.proofs.candidates.Candidates.remove.Goals as goal

pub returns : goal.returns
returns c =
    c.remove.ensures.keys ∙ key_taken c.self.inside.places.keys c.args.place
    ∙ ap (without c.args.place) c.self.view_is
