-- What is picked of rows, and the rows on both sides of one that is picked.
use Rattle.std.proofs.Common.{◌≡◌, ◌⊎◌, ◌<◌, ◌≤◌, ◌+◌, ℕ, suc, Bool, List, [], ◌∷◌, ◌++◌, Option, Some, None}
use Rattle.std.proofs.Common.{length, refl, ap, ◌∙◌, inl, inr, arith, length-append, cond}
use Rattle.std.specs.Prelude.{filter_map, count_by}
use Rattle.std.specs.List.{cons_option}
use Rattle.std.proofs.lemmas.List.Sums.{sum_by-append}

-- the rows on both sides of one
pub record Around {X A : Type 0} (f : X → Option A) (rows : List X) (before behind : List A) (a : A) : Type 0 where
  pub above : List X
  pub here : X
  pub below : List X
  pub whole : rows ≡ above ++ here ∷ below
  pub picked : f here ≡ Some a
  pub front : filter_map f above ≡ before
  pub back : filter_map f below ≡ behind

none_picked : {X A : Type 0} (f : X → Option A) (before behind : List A) (a : A)
    → filter_map f [] ≡ before ++ a ∷ behind → Around f [] before behind a
none_picked f [] behind a e = absurd (cc)
none_picked f (b ∷ before) behind a e = absurd (cc)

passed_by : {X A : Type 0} (f : X → Option A) (r : X) (rows : List X) (before behind : List A) (a : A)
    → f r ≡ None → Around f rows before behind a → Around f (r ∷ rows) before behind a
passed_by f r rows before behind a is s =
    record {
      above = r ∷ s.above;
      here = s.here;
      below = s.below;
      whole = ap (λ l. r ∷ l) s.whole;
      picked = s.picked;
      front = ap (λ o. cons_option o (filter_map f s.above)) is ∙ s.front;
      back = s.back;
    }

one_before : {X A : Type 0} (f : X → Option A) (r : X) (rows : List X) (before behind : List A) (a b : A)
    → f r ≡ Some b → Around f rows before behind a → Around f (r ∷ rows) (b ∷ before) behind a
one_before f r rows before behind a b is s =
    record {
      above = r ∷ s.above;
      here = s.here;
      below = s.below;
      whole = ap (λ l. r ∷ l) s.whole;
      picked = s.picked;
      front = ap (λ o. cons_option o (filter_map f s.above)) is ∙ ap (λ l. b ∷ l) s.front;
      back = s.back;
    }

heads : {A : Type 0} (a b : A) (xs ys : List A) → a ∷ xs ≡ b ∷ ys → a ≡ b
heads a b xs ys e = cc

tails : {A : Type 0} (a b : A) (xs ys : List A) → a ∷ xs ≡ b ∷ ys → xs ≡ ys
tails a b xs ys e = cc

around_by : {X A : Type 0} (f : X → Option A) (r : X) (rows : List X) (before behind : List A) (a : A)
    → ((front back : List A) (c : A) → filter_map f rows ≡ front ++ c ∷ back → Around f rows front back c)
    → (o : Option A) → f r ≡ o → cons_option o (filter_map f rows) ≡ before ++ a ∷ behind
    → Around f (r ∷ rows) before behind a
around_by f r rows before behind a more None is e = passed_by f r rows before behind a is (more before behind a e)
around_by f r rows [] behind a more (Some b) is e =
    record {
      above = [];
      here = r;
      below = rows;
      whole = refl;
      picked = is ∙ ap Some (heads b a (filter_map f rows) behind e);
      front = refl;
      back = tails b a (filter_map f rows) behind e;
    }
around_by f r rows (x ∷ before) behind a more (Some b) is e =
    one_before f r rows before behind a x (is ∙ ap Some (heads b x (filter_map f rows) (before ++ a ∷ behind) e))
    (more before behind a (tails b x (filter_map f rows) (before ++ a ∷ behind) e))

pub around : {X A : Type 0} (f : X → Option A) (rows : List X) (before behind : List A) (a : A)
    → filter_map f rows ≡ before ++ a ∷ behind → Around f rows before behind a
around f [] before behind a e = none_picked f before behind a e
around f (r ∷ rows) before behind a e =
    around_by f r rows before behind a (λ front back c. around f rows front back c) (f r) refl e

-- a list is empty or has a last element
pub last_split : {A : Type 0} (xs : List A) → (xs ≡ []) ⊎ ((before : List A) × (a : A) × (xs ≡ before ++ a ∷ []))
last_split {A = A} [] = inl refl
last_split {A = A} (x ∷ xs) = go (last_split xs)
  where
    go : (xs ≡ []) ⊎ ((before : List A) × (a : A) × (xs ≡ before ++ a ∷ []))
        → (x ∷ xs ≡ []) ⊎ ((before : List A) × (a : A) × (x ∷ xs ≡ before ++ a ∷ []))
    go (inl e) = inr ([], x, ap (λ l. x ∷ l) e)
    go (inr s) = inr (x ∷ s.0, s.1, ap (λ l. x ∷ l) s.2)

-- few are picked where each has few before it
pub few_picked : {X A : Type 0} (f : X → Option A) (rows : List X) (n : ℕ)
    → ((before : List A) (a : A) → Around f rows before [] a → length before < n) → length (filter_map f rows) ≤ n
few_picked {X = X} {A = A} f rows n each = go (last_split (filter_map f rows))
  where
    go : (filter_map f rows ≡ []) ⊎ ((before : List A) × (a : A) × (filter_map f rows ≡ before ++ a ∷ []))
        → length (filter_map f rows) ≤ n
    go (inl e) = let none : length (filter_map f rows) ≡ 0 = ap length e in omega (arith, none)
    go (inr s) =
        let low = each s.0 s.1 (around f rows s.0 [] s.1 s.2) in
        let all : length (filter_map f rows) ≡ length s.0 + 1 = ap length s.2 ∙ length-append s.0 (s.1 ∷ []) in
        omega (arith, low, all)

-- as many are picked as counted
pub picked_count : {X A : Type 0} (p : X → Bool) (f : X → Option A)
    → ((r : X) → cond (p r) 1 0 ≡ length (cons_option (f r) [])) → (rows : List X)
    → count_by p rows ≡ length (filter_map f rows)
picked_count p f each [] = refl
picked_count {A = A} p f each (r ∷ rows) =
    sum_by-append (λ x. cond (p x) 1 0) (r ∷ []) rows ∙ go (p r) (f r) (each r) (picked_count p f each rows)
  where
    go : (b : Bool) (o : Option A) → cond b 1 0 ≡ length (cons_option o [])
        → count_by p rows ≡ length (filter_map f rows)
        → (0 + cond b 1 0) + count_by p rows ≡ length (cons_option o (filter_map f rows))
    go b None e h = omega (arith, e, h)
    go b (Some a) e h = omega (arith, e, h)

-- two ways of picking that pick of the same rows
pub same_length : {X A B : Type 0} (f : X → Option A) (g : X → Option B)
    → ((r : X) → length (cons_option (f r) []) ≡ length (cons_option (g r) [])) → (rows : List X)
    → length (filter_map f rows) ≡ length (filter_map g rows)
same_length f g each [] = refl
same_length {A = A} {B = B} f g each (r ∷ rows) = go (f r) (g r) (each r) (same_length f g each rows)
  where
    go : (o : Option A) (q : Option B) → length (cons_option o []) ≡ length (cons_option q [])
        → length (filter_map f rows) ≡ length (filter_map g rows)
        → length (cons_option o (filter_map f rows)) ≡ length (cons_option q (filter_map g rows))
    go None None e h = h
    go (Some a) (Some b) e h = ap suc h
    go None (Some b) e h = absurd (omega (arith, e))
    go (Some a) None e h = absurd (omega (arith, e))
