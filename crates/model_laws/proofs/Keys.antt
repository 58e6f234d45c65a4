-- What a map of numbers has as keys.
use Rattle.std.proofs.Common.{List, [], ap, cond, refl, ℕ, ◌∙◌, ◌∷◌, ◌≡◌}
use Rattle.std.specs.BTreeSet.{insert_key}
use Rattle.std.specs.Ordering.{nat_cmp}
use Rattle.std.specs.Prelude.{nat_lt, ◌==◌}
use Rattle.lemmas.proofs.Numbers.{key_compared}
use Rattle.model.specs.Words.{insert_once}

-- a key that is put into a map of numbers is put once
pub key_inserted : (ks : List ℕ) (k : ℕ) → insert_key nat_cmp ks k ≡ insert_once k ks
key_inserted [] k = refl
key_inserted (x ∷ xs) k =
    key_compared k x (k ∷ x ∷ xs) (x ∷ xs) (x ∷ insert_key nat_cmp xs k)
    ∙ ap (λ (l : List ℕ). cond (k == x) (x ∷ xs) (cond (nat_lt k x) (k ∷ x ∷ xs) (x ∷ l))) (key_inserted xs k)
