-- Names and keys in lists, one element more.
use Rattle.std.proofs.Common.{◌≡◌, Bool, false, ◌||◌, List, [], ◌∷◌, ◌++◌, Option, Some, None, refl, ap, ◌∙◌}
use Rattle.std.specs.Prelude.{filter_map}
use Rattle.std.specs.List.{list_any, cons_option}
use Rattle.std.proofs.lemmas.List.Folds.{list_any-append}
use Rattle.std.proofs.lemmas.List.Elements.{filter_map-append}
use Rattle.lemmas.proofs.Booleans.{or_false}

-- whether what is there passes
abbrev pub passes : {A : Type 0} → (A → Bool) → Option A → Bool
passes p None = false
passes p (Some a) = p a

pub any_of_cons : {A : Type 0} (p : A → Bool) (o : Option A) (xs : List A)
    → list_any p (cons_option o xs) ≡ (passes p o || list_any p xs)
any_of_cons p None xs = refl
any_of_cons p (Some a) xs = refl

pub any_of_one : {A : Type 0} (p : A → Bool) (o : Option A) → list_any p (cons_option o []) ≡ passes p o
any_of_one p None = refl
any_of_one p (Some a) = or_false (p a)

pub picked_more : {A B : Type 0} (f : A → Option B) (p : B → Bool) (xs : List A) (a : A)
    → list_any p (filter_map f (xs ++ a ∷ [])) ≡ (list_any p (filter_map f xs) || passes p (f a))
picked_more f p xs a =
    ap (list_any p) (filter_map-append f xs (a ∷ []))
    ∙ list_any-append p (filter_map f xs) (cons_option (f a) [])
    ∙ ap (λ b. list_any p (filter_map f xs) || b) (any_of_one p (f a))
