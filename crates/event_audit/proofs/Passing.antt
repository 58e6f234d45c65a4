-- What a walk has left to tell, one item further: of what a function gives of each item, and of lists that are joined.
use Rattle.std.proofs.Common.{[], ℕ, ◌&&◌, ◌+◌, ◌++◌, ◌∙◌, ◌∷◌, ◌≡◌, ◌≤◌, ◌||◌, Bool, List, None, Option, Some, ap}
use Rattle.std.proofs.Common.{cond, drop, false, filter_map, find, length, reverse, take, true}
use Rattle.std.proofs.lemmas.List.{reverse-append}
use Rattle.std.proofs.lemmas.List.Elements.{filter_map-append}
use Rattle.std.proofs.lemmas.List.Folds.{list_all-append}
use Rattle.std.specs.List.{cons_option, list_all, list_any}
use Rattle.std.specs.Prelude.{flat_map, slice_get}
use Rattle.lemmas.proofs.Lists.{drop_at_end, take_further}
use Rattle.event_audit.proofs.Behind.{left_some}

module _ {X Y : Type 0} (f : X → Option Y) where
  -- an item that gives nothing, and one that gives something
  pub skipped : (xs : List X) (i : ℕ) (x : X) → slice_get xs i ≡ Some x → f x ≡ None
      → filter_map f (drop i xs) ≡ filter_map f (drop (i + 1) xs)
  skipped xs i x there e =
      ap (λ (l : List X). filter_map f l) (left_some xs i x there)
      ∙ ap (λ (o : Option Y). cons_option o (filter_map f (drop (i + 1) xs))) e

  pub given : (xs : List X) (i : ℕ) (x : X) (y : Y) → slice_get xs i ≡ Some x → f x ≡ Some y
      → filter_map f (drop i xs) ≡ y ∷ filter_map f (drop (i + 1) xs)
  given xs i x y there e =
      ap (λ (l : List X). filter_map f l) (left_some xs i x there)
      ∙ ap (λ (o : Option Y). cons_option o (filter_map f (drop (i + 1) xs))) e

  pub none_given : (xs : List X) (i : ℕ) → length xs ≤ i → filter_map f (drop i xs) ≡ []
  none_given xs i h = ap (λ (l : List X). filter_map f l) (drop_at_end xs i h)

  taken_more : (xs : List X) (i : ℕ) (x : X) (o : Option Y) → slice_get xs i ≡ Some x → f x ≡ o
      → filter_map f (take (i + 1) xs) ≡ filter_map f (take i xs) ++ cons_option o []
  taken_more xs i x o there e =
      ap (λ (l : List X). filter_map f l) (take_further xs i x there)
      ∙ filter_map-append f (take i xs) (x ∷ [])
      ∙ ap (λ (p : Option Y). filter_map f (take i xs) ++ cons_option p []) e

  -- the last that passes a test, one item further
  pub last_skipped : (test : Y → Bool) (xs : List X) (i : ℕ) (x : X) → slice_get xs i ≡ Some x → f x ≡ None
      → find test (reverse (filter_map f (take (i + 1) xs))) ≡ find test (reverse (filter_map f (take i xs)))
  last_skipped test xs i x there e =
      ap (λ (l : List Y). find test (reverse l)) (taken_more xs i x None there e)
      ∙ ap (λ (l : List Y). find test l) (reverse-append (filter_map f (take i xs)) [])

  last_more : (test : Y → Bool) (xs : List X) (i : ℕ) (x : X) (y : Y) → slice_get xs i ≡ Some x → f x ≡ Some y
      → find test (reverse (filter_map f (take (i + 1) xs)))
      ≡ find test (y ∷ reverse (filter_map f (take i xs)))
  last_more test xs i x y there e =
      ap (λ (l : List Y). find test (reverse l)) (taken_more xs i x (Some y) there e)
      ∙ ap (λ (l : List Y). find test l) (reverse-append (filter_map f (take i xs)) (y ∷ []))

  pub last_found : (test : Y → Bool) (xs : List X) (i : ℕ) (x : X) (y : Y) → slice_get xs i ≡ Some x
      → f x ≡ Some y → test y ≡ true → find test (reverse (filter_map f (take (i + 1) xs))) ≡ Some y
  last_found test xs i x y there e yes_ =
      last_more test xs i x y there e
      ∙ ap (λ (b : Bool). cond b (Some y) (find test (reverse (filter_map f (take i xs))))) yes_

  pub last_passed : (test : Y → Bool) (xs : List X) (i : ℕ) (x : X) (y : Y) → slice_get xs i ≡ Some x
      → f x ≡ Some y → test y ≡ false
      → find test (reverse (filter_map f (take (i + 1) xs))) ≡ find test (reverse (filter_map f (take i xs)))
  last_passed test xs i x y there e not_ =
      last_more test xs i x y there e
      ∙ ap (λ (b : Bool). cond b (Some y) (find test (reverse (filter_map f (take i xs))))) not_

  -- whether one of them passes a test
  pub any_skipped : (test : Y → Bool) (xs : List X) (i : ℕ) (x : X) → slice_get xs i ≡ Some x → f x ≡ None
      → list_any test (filter_map f (drop i xs)) ≡ list_any test (filter_map f (drop (i + 1) xs))
  any_skipped test xs i x there e = ap (λ (l : List Y). list_any test l) (skipped xs i x there e)

  pub any_given : (test : Y → Bool) (xs : List X) (i : ℕ) (x : X) (y : Y) → slice_get xs i ≡ Some x → f x ≡ Some y
      → list_any test (filter_map f (drop i xs)) ≡ (test y || list_any test (filter_map f (drop (i + 1) xs)))
  any_given test xs i x y there e = ap (λ (l : List Y). list_any test l) (given xs i x y there e)

-- whether all of the lists that items have pass a test
pub all_given : {X Y : Type 0} (f : X → List Y) (test : Y → Bool) (xs : List X) (i : ℕ) (x : X)
    → slice_get xs i ≡ Some x
    → list_all test (flat_map f (drop i xs)) ≡ (list_all test (f x) && list_all test (flat_map f (drop (i + 1) xs)))
all_given {X} {Y} f test xs i x there =
    ap (λ (l : List X). list_all test (flat_map f l)) (left_some xs i x there)
    ∙ list_all-append test (f x) (flat_map f (drop (i + 1) xs))
