-- What holds of some item of a list, told by the place of one.
use Rattle.std.proofs.Common.{[], ℕ, zero, suc, ◌∙◌, ◌∷◌, ◌≡◌, Bool, List, None, Option, Some, ap, false}
use Rattle.std.proofs.Common.{filter_map, true}
use Rattle.std.specs.List.{cons_option, list_any}
use Rattle.std.specs.Option.{option_map_or}
use Rattle.std.specs.Prelude.{slice_get}
use Rattle.lemmas.proofs.Booleans.{or_made_left, or_made_right}
use Rattle.lemmas.proofs.Options.{some_same}
use Rattle.model.specs.Types.{StreamDoc}
use Rattle.model.specs.History.{View}
use Rattle.model.specs.Catalogue.{stream}

-- one item is enough
pub any_at : {X : Type 0} (test : X → Bool) (xs : List X) (i : ℕ) (x : X) → slice_get xs i ≡ Some x → test x ≡ true
    → list_any test xs ≡ true
any_at test [] i x there yes_ = absurd (nothing there)
  where
    nothing : None ≡ Some x → ⊥
    nothing e = cc
any_at test (y ∷ xs) zero x there yes_ =
    or_made_left (test y) (list_any test xs) (ap test (some_same y x there) ∙ yes_)
any_at test (y ∷ xs) (suc i) x there yes_ =
    or_made_right (test y) (list_any test xs) (any_at test xs i x there yes_)

-- the same of the streams that a catalogue has of these numbers
pub any_known_at : (V : View) (test : StreamDoc → Bool) (numbers : List ℕ) (i s : ℕ) → slice_get numbers i ≡ Some s
    → option_map_or test (stream V s) false ≡ true → list_any test (filter_map (stream V) numbers) ≡ true
any_known_at V test [] i s there yes_ = absurd (nothing there)
  where
    nothing : None ≡ Some s → ⊥
    nothing e = cc
any_known_at V test (n ∷ numbers) zero s there yes_ =
    front (stream V n) (ap (λ (k : ℕ). option_map_or test (stream V k) false) (some_same n s there) ∙ yes_)
  where
    front : (o : Option StreamDoc) → option_map_or test o false ≡ true
        → list_any test (cons_option o (filter_map (stream V) numbers)) ≡ true
    front None e = absurd (let apart : false ≡ true = e in cc)
    front (Some d) e = or_made_left (test d) (list_any test (filter_map (stream V) numbers)) e
any_known_at V test (n ∷ numbers) (suc i) s there yes_ =
    behind (stream V n) (any_known_at V test numbers i s there yes_)
  where
    behind : (o : Option StreamDoc) → list_any test (filter_map (stream V) numbers) ≡ true
        → list_any test (cons_option o (filter_map (stream V) numbers)) ≡ true
    behind None e = e
    behind (Some d) e = or_made_right (test d) (list_any test (filter_map (stream V) numbers)) e
