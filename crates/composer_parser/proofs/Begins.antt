-- With which tokens statements begin.
use Rattle.std.proofs.Common.{◌≡◌, ◌||◌, ℕ, List, [], ◌∷◌, refl, ap}
use Rattle.std.specs.List.{list_any}
use Rattle.base_types.specs.declared.reports.Token.{Token}
use Rattle.composer_parser.specs.Tokens.{all_spelled, spelled}
use Rattle.composer_parser.specs.Faults.{is_word_of, first_words}

pub any_spelled : (text : List ℕ) (ts : List Token)
    → list_any (is_word_of first_words) (all_spelled text ts) ≡ list_any (λ t. is_word_of first_words (spelled text t)) ts
any_spelled text [] = refl
any_spelled text (t ∷ ts) = ap (λ b. is_word_of first_words (spelled text t) || b) (any_spelled text ts)
