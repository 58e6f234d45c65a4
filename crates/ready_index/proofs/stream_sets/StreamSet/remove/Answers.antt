use Rattle.std.proofs.Common.{◌∙◌, ap}
use Rattle.ready_index.specs.Lists.{without}
use Rattle.ready_index.proofs.Keys.{key_taken}
use Rattle.ready_index.proofs.stream_sets.StreamSet.remove.Goals as goal

pub returns : goal.returns
returns c =
    c.remove.ensures.keys ∙ key_taken c.self.inside.numbers.keys c.args.number
    ∙ ap (without c.args.number) c.self.view_is
