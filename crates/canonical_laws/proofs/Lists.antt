-- What holds of lists of faults, and of lists that are made of others item by item.
use Rattle.std.proofs.Common.{◌≡◌, ℕ, zero, suc, ◌+◌, ◌||◌, Bool, true, false, cond, List, [], ◌∷◌, ◌++◌, map, drop}
use Rattle.std.proofs.Common.{flat_map, filter_map, Option, Some, None}
use Rattle.std.proofs.Common.{refl, ap, sym, ◌∙◌, add-one, slice_get}
use Rattle.std.proofs.lemmas.List.{map-append}
use Rattle.std.specs.List.{cons_option, enumerate_from, position_from, list_any}
use Rattle.lemmas.proofs.Booleans.{neither}
use Rattle.definition_faults.specs.Orders.{faults_at}
use Rattle.definition_faults.specs.declared.Kind.{Kind}
use Rattle.workload_defs.proofs.Lists.{both_empty}

-- one holds where the other does
abbrev pub Both : Type 0 → Type 0 → Type 0
Both A B = (A → B) × (B → A)

-- Lists that are made of others item by item.

pub kept : {A B C : Type 0} (f : B → C) (f0 : A → C) (g : A → B) → ((x : A) → f (g x) ≡ f0 x) → (xs : List A)
    → map f (map g xs) ≡ map f0 xs
kept f f0 g h [] = refl
kept f f0 g h (x ∷ xs) = λ i. h x i ∷ kept f f0 g h xs i

pub at_place : {A C B : Type 0} (f : A → C) (F' : Option C → B) (F : Option A → B) → F' None ≡ F None
    → ((x : A) → F' (Some (f x)) ≡ F (Some x)) → (xs : List A) (n : ℕ)
    → F' (slice_get (map f xs) n) ≡ F (slice_get xs n)
at_place f F' F none some [] n = none
at_place f F' F none some (x ∷ xs) zero = some x
at_place f F' F none some (x ∷ xs) (suc n) = at_place f F' F none some xs n

pub position_same : {A B : Type 0} (t' : B → Bool) (t : A → Bool) (f : A → B) → ((x : A) → t' (f x) ≡ t x)
    → (i : ℕ) (xs : List A)
    → position_from t' i (map f xs) ≡ position_from t i xs
position_same t' t f h i [] = refl
position_same t' t f h i (x ∷ xs) = λ j. cond (h x j) (Some i) (position_same t' t f h (i + 1) xs j)

pub any_same : {A B : Type 0} (t' : B → Bool) (t : A → Bool) (f : A → B) → ((x : A) → t' (f x) ≡ t x) → (xs : List A)
    → list_any t' (map f xs) ≡ list_any t xs
any_same t' t f h [] = refl
any_same t' t f h (x ∷ xs) = λ j. h x j || any_same t' t f h xs j

-- what passes no test has no first place
pub no_position : {A : Type 0} (t : A → Bool) (i : ℕ) (xs : List A) → list_any t xs ≡ false
    → position_from t i xs ≡ None
no_position t i [] e = refl
no_position t i (x ∷ xs) e =
    let t2 = neither (t x) (list_any t xs) e in
    ap (λ b. cond b (Some i) (position_from t (i + 1) xs)) t2.0 ∙ no_position t (i + 1) xs t2.1

-- what is left begins with the item at its place
left_at : {A : Type 0} (all : List A) (k : ℕ) (x : A) (xs : List A) → drop k all ≡ x ∷ xs
    → (slice_get all k ≡ Some x) × (drop (k + 1) all ≡ xs)
left_at [] zero x xs e = cc
left_at [] (suc k) x xs e = cc
left_at {A = A} (y ∷ ys) zero x xs e =
    let same : y ≡ x = cc in
    let rest : ys ≡ xs = cc in
    (ap (λ (z : A). Some z) same, ap (λ (n : ℕ). drop n (y ∷ ys)) (add-one 0) ∙ rest)
left_at (y ∷ ys) (suc k) x xs e =
    let t = left_at ys k x xs e in
    (t.0, ap (λ n. drop n (y ∷ ys)) (add-one (suc k)) ∙ sym (ap (λ n. drop n ys) (add-one k)) ∙ t.1)

-- Lists without an item.

pub append_then : {A B : Type 0} (a b : List A) (c d : List B) → Both (a ≡ []) (c ≡ [])
    → (a ≡ [] → Both (b ≡ []) (d ≡ []))
    → Both (a ++ b ≡ []) (c ++ d ≡ [])
append_then a b c d p q = (
  λ e. let t = both_empty a b e in λ i. p.0 t.0 i ++ (q t.0).0 t.1 i,
  λ e.
      let t = both_empty c d e in
      let front = p.1 t.0 in
      λ i. front i ++ (q front).1 t.1 i,
)

pub append_both : {A B : Type 0} (a b : List A) (c d : List B) → Both (a ≡ []) (c ≡ []) → Both (b ≡ []) (d ≡ [])
    → Both (a ++ b ≡ []) (c ++ d ≡ [])
append_both a b c d p q = append_then a b c d p (λ e. q)

-- items with their places
pub pieces_both : {X Y C : Type 0} (f : ℕ × X → List C) (g : ℕ × Y → List C) (m : X → Y) (all : List X)
    → ((k : ℕ) (x : X) → slice_get all k ≡ Some x → Both (f (k, x) ≡ []) (g (k, m x) ≡ [])) → (k : ℕ) (xs : List X)
    → drop k all ≡ xs → Both (flat_map f (enumerate_from k xs) ≡ []) (flat_map g (enumerate_from k (map m xs)) ≡ [])
pieces_both f g m all h k [] at = (λ e. refl, λ e. refl)
pieces_both f g m all h k (x ∷ xs) at =
    let t = left_at all k x xs at in
    append_both (f (k, x)) (flat_map f (enumerate_from (k + 1) xs)) (g (k, m x))
    (flat_map g (enumerate_from (k + 1) (map m xs)))
    (h k x t.0) (pieces_both f g m all h (k + 1) xs t.1)

-- items without places
pub lists_both : {X Y C : Type 0} (f : X → List C) (g : Y → List C) (m : X → Y)
    → ((x : X) → Both (f x ≡ []) (g (m x) ≡ []))
    → (xs : List X) → Both (flat_map f xs ≡ []) (flat_map g (map m xs) ≡ [])
lists_both f g m h [] = (λ e. refl, λ e. refl)
lists_both f g m h (x ∷ xs) =
    append_both (f x) (flat_map f xs) (g (m x)) (flat_map g (map m xs)) (h x) (lists_both f g m h xs)

-- a table tells nothing at a line where it tells nothing at another
lined : (l m : ℕ) (rows : List (Bool × Kind)) → faults_at l rows ≡ [] → faults_at m rows ≡ []
lined l m [] e = refl
lined l m ((true, k) ∷ rows) e = cc
lined l m ((false, k) ∷ rows) e = lined l m rows e

pub tables_both : (l m : ℕ) (rows other : List (Bool × Kind)) → other ≡ rows
    → Both (faults_at l rows ≡ []) (faults_at m other ≡ [])
tables_both l m rows other same = (
  λ e. ap (λ (r : List (Bool × Kind)). faults_at m r) same ∙ lined l m rows e,
  λ e. lined m l rows (sym (ap (λ (r : List (Bool × Kind)). faults_at m r) same) ∙ e),
)

-- the same of lists that are these
pub moved : {X Y : Type 0} (a b : List X) (c d : List Y) → b ≡ a → d ≡ c → Both (a ≡ []) (c ≡ [])
    → Both (b ≡ []) (d ≡ [])
moved a b c d p q t = (λ e. q ∙ t.0 (sym p ∙ e), λ e. p ∙ t.1 (sym q ∙ e))

-- what items give
pub picks_same : {X Y Z : Type 0} (f : X → Option Z) (g : Y → Option Z) (m : X → Y) → ((x : X) → g (m x) ≡ f x)
    → (xs : List X)
    → filter_map g (map m xs) ≡ filter_map f xs
picks_same f g m h [] = refl
picks_same f g m h (x ∷ xs) = λ i. cons_option (h x i) (picks_same f g m h xs i)

pub pieces_same : {X Y C B : Type 0} (f : ℕ × X → List C) (g : ℕ × Y → List C) (v : C → B) (m : X → Y) (all : List X)
    → ((k : ℕ) (x : X) → slice_get all k ≡ Some x → map v (g (k, m x)) ≡ map v (f (k, x))) → (k : ℕ) (xs : List X)
    → drop k all ≡ xs → map v (flat_map g (enumerate_from k (map m xs))) ≡ map v (flat_map f (enumerate_from k xs))
pieces_same f g v m all h k [] at = refl
pieces_same f g v m all h k (x ∷ xs) at =
    let t = left_at all k x xs at in
    map-append v (g (k, m x)) (flat_map g (enumerate_from (k + 1) (map m xs)))
    ∙ (λ i. h k x t.0 i ++ pieces_same f g v m all h (k + 1) xs t.1 i)
    ∙ sym (map-append v (f (k, x)) (flat_map f (enumerate_from (k + 1) xs)))
