-- Keys of a set, by what is seen of them.
use Rattle.std.proofs.Common.{◌≡◌, ◌+◌, ℕ, Bool, false, not, List, [], ◌∷◌, ◌++◌, Option, Some, None, map, length, refl, ap, sym, ◌∙◌, cond, if◌then◌else◌}
use Rattle.std.specs.Prelude.{nat_lt}
use Rattle.std.specs.List.{list_any, position, position_or_len}
use Rattle.std.proofs.lemmas.List.{length-map, map-append}

place_viewed : {A B : Type 0} (p : A → Bool) (view : B → A) (ks : List B)
    → position_or_len (λ (k : B). p (view k)) ks ≡ position_or_len p (map view ks)
place_viewed p view [] = refl
place_viewed p view (k ∷ ks) = ap (λ n. cond (not (p (view k))) (1 + n) 0) (place_viewed p view ks)

abbrev found : ℕ → ℕ → Option ℕ
found place_ count = cond (nat_lt place_ count) (Some place_) None

pub position_viewed : {A B : Type 0} (p : A → Bool) (view : B → A) (ks : List B)
    → position (λ (k : B). p (view k)) ks ≡ position p (map view ks)
position_viewed p view ks =
    ap (λ n. found n (length ks)) (place_viewed p view ks)
    ∙ ap (found (position_or_len p (map view ks))) (sym (length-map ks view))

-- one more key
pub add_viewed : {A B : Type 0} (eq : A → A → Bool) (view : B → A) (m : B) (ks new : List B)
    → list_any (λ (k : B). eq (view m) (view k)) ks ≡ false
    → new ≡ (if list_any (λ (k : B). eq (view m) (view k)) ks then ks else ks ++ m ∷ [])
    → map view new ≡ map view ks ++ view m ∷ []
add_viewed eq view m ks new other is =
    ap (map view) (is ∙ ap (λ b. if b then ks else ks ++ m ∷ []) other) ∙ map-append view ks (m ∷ [])
