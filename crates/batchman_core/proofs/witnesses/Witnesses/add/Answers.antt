use Rattle.std.proofs.Common.{◌∙◌, ℕ, ap}
use Rattle.model_laws.proofs.Keys.{key_inserted}
use Rattle.model.specs.Words.{insert_once}
use Rattle.batchman_core.proofs.witnesses.Witnesses.add.Goals as goal

pub returns : goal.returns
returns c =
    c.in_ok-insert.ensures.keys ∙ key_inserted c.self.inside.numbers.keys c.w.inside.0
    ∙ ap (λ (k : ℕ). insert_once k c.self.inside.numbers.keys) c.w.view_is
    ∙ ap (insert_once c.args.w) c.self.view_is
