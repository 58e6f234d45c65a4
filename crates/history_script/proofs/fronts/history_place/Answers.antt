use Rattle.std.proofs.Common.{◌∙◌, ℕ, List, Bor}
use Rattle.record_script.proofs.Viewed.{position_viewed}
use Rattle.history_script.specs.Fronts.{is_history}
use Rattle.history_script.proofs.fronts.history_place.Goals as goal

pub returns-clause-place : goal.returns-clause-place
returns-clause-place c =
    c.place_among.ensures.place ∙ position_viewed is_history (λ (x : Bor (List ℕ)). x.now) c.args.texts.now
