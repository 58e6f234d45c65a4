-- One count more.
use Rattle.std.proofs.Common.{◌≡◌, ◌∙◌, ◌∷◌, ◌++◌, ◌+◌, [], ℕ, List, ap, map}
use Rattle.std.proofs.lemmas.List.{map-append}
use Rattle.model_laws.proofs.Numbers.{below_more}
use Rattle.model.specs.Words.{below}
use Rattle.symphony_view.specs.Counts.{count_of, counts}

pub counted_more : (places : List ℕ) (k : ℕ) → counts (k + 1) places ≡ counts k places ++ count_of places k ∷ []
counted_more places k =
    ap (map (count_of places)) (below_more k) ∙ map-append (count_of places) (below k) (k ∷ [])
