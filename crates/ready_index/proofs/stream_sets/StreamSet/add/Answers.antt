use Rattle.std.proofs.Common.{◌∙◌, ap}
use Rattle.model_laws.proofs.Keys.{key_inserted}
use Rattle.model.specs.Words.{insert_once}
use Rattle.ready_index.proofs.stream_sets.StreamSet.add.Goals as goal

pub returns : goal.returns
returns c =
    c.in_ok-insert.ensures.keys ∙ key_inserted c.self.inside.numbers.keys c.args.number
    ∙ ap (insert_once c.args.number) c.self.view_is
