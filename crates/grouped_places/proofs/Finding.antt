-- Where a group has the places of all that counts, what counts at its places is what counts in the list.
use Rattle.std.proofs.Common.{[], ℕ, ◌&&◌, ◌*◌, ◌+◌, ◌-◌, ◌<◌, ◌^◌, ◌∙◌, ◌∷◌, ◌≡◌, ◌≤◌, ◌≢◌, ◌||◌, Bool, List, None}
use Rattle.std.proofs.Common.{Some, ap, arith, cond, eqb, false, filter, filter_map, inl, inr, refl, slice_get, suc}
use Rattle.std.proofs.Common.{sym, true}
use Rattle.std.proofs.lemmas.Bool.Decides.{eqb_tells}
use borrow.Author.Tests.{leb-false, leb-true, ltb-false}
use Rattle.std.specs.Prelude.{nat_le, nat_lt}
use Rattle.lemmas.proofs.Booleans.{and_left}
use Rattle.model.specs.Words.{has, insert_once}
use Rattle.grouped_places.specs.Codes.{RisesFrom, code, is_in_group}

-- bounds
pub rises_lower : (l m : ℕ) (cs : List ℕ) → l ≤ m → RisesFrom m cs → RisesFrom l cs
rises_lower l m [] h r = tt
rises_lower l m (c ∷ cs) h r = (omega (arith, h, r.0), r.1)

pub below_none : (l n : ℕ) (cs : List ℕ) → RisesFrom l cs → n < l → has cs n ≡ false
below_none l n [] r h = refl
below_none l n (c ∷ cs) r h =
    elim (eqb_tells c n) [
      | inl e ↦ absurd (omega (arith, e.1, r.0, h))
      | inr e ↦ rw e.0 (below_none (c + 1) n cs r.1 (omega (arith, r.0, h)))
    ]

-- filters
pub rises_filter : (p : ℕ → Bool) (l : ℕ) (cs : List ℕ) → RisesFrom l cs → RisesFrom l (filter p cs)
rises_filter p l [] r = tt
rises_filter p l (c ∷ cs) r = go (p c) (rises_filter p (c + 1) cs r.1)
  where
    go : (b : Bool) → RisesFrom (c + 1) (filter p cs) → RisesFrom l (cond b (c ∷ filter p cs) (filter p cs))
    go true h = (r.0, h)
    go false h = rises_lower l (c + 1) (filter p cs) (omega (arith, r.0)) h

least_in : (group c : ℕ) → is_in_group group c ≡ true → group * 2 ^ 32 ≤ c
least_in group c h =
    leb-true (group * 2 ^ 32) c (and_left (nat_le (group * 2 ^ 32) c) (nat_lt c (group * 2 ^ 32 + 2 ^ 32)) h)

rises_in : (group l : ℕ) (cs : List ℕ) → RisesFrom l cs → RisesFrom (group * 2 ^ 32) (filter (is_in_group group) cs)
rises_in group l [] r = tt
rises_in group l (c ∷ cs) r = go (is_in_group group c) refl (rises_in group (c + 1) cs r.1)
  where
    go : (b : Bool) → is_in_group group c ≡ b → RisesFrom (group * 2 ^ 32) (filter (is_in_group group) cs)
        → RisesFrom (group * 2 ^ 32) (cond b (c ∷ filter (is_in_group group) cs) (filter (is_in_group group) cs))
    go true e h = (least_in group c e, rises_filter (is_in_group group) (c + 1) cs r.1)
    go false e h = h

pub has_filter : (p : ℕ → Bool) (cs : List ℕ) (n : ℕ) → has cs n ≡ true → p n ≡ true → has (filter p cs) n ≡ true
has_filter p [] n h k = cc
has_filter p (c ∷ cs) n h k =
    elim (eqb_tells c n) [
      | inl e ↦ (let t : p c ≡ true = ap p e.1 ∙ k in rw (t, e.0) refl)
      | inr e ↦ go (p c) (has_filter p cs n (ap (λ (b : Bool). b || has cs n) (sym e.0) ∙ h) k)
    ]
  where
    or_true : (b : Bool) → (b || true) ≡ true
    or_true true = refl
    or_true false = refl

    go : (b : Bool) → has (filter p cs) n ≡ true → has (cond b (c ∷ filter p cs) (filter p cs)) n ≡ true
    go true i = ap (λ (t : Bool). eqb c n || t) i ∙ or_true (eqb c n)
    go false i = i

-- a place of the group has its code there
within : (group i : ℕ) → i < 2 ^ 32 → is_in_group group (code group i) ≡ true
within group i h =
    let a : nat_le (group * 2 ^ 32) (code group i) ≡ true =
    go (nat_le (group * 2 ^ 32) (code group i)) refl in
    let b : nat_lt (code group i) (group * 2 ^ 32 + 2 ^ 32) ≡ true =
    go_on (nat_lt (code group i) (group * 2 ^ 32 + 2 ^ 32)) refl in
    λ j. a j && b j
  where
    go : (b : Bool) → nat_le (group * 2 ^ 32) (code group i) ≡ b → b ≡ true
    go true e = refl
    go false e = absurd (let k : code group i < group * 2 ^ 32 = leb-false (group * 2 ^ 32) (code group i) e in omega (arith, k))

    go_on : (b : Bool) → nat_lt (code group i) (group * 2 ^ 32 + 2 ^ 32) ≡ b → b ≡ true
    go_on true e = refl
    go_on false e =
        absurd (let k : group * 2 ^ 32 + 2 ^ 32 ≤ code group i = ltb-false (code group i) (group * 2 ^ 32 + 2 ^ 32) e in
        omega (arith, k, h))

-- what was put in is there, and what was there stays
pub inserted_there : (x : ℕ) (xs : List ℕ) → has (insert_once x xs) x ≡ true
inserted_there x [] = elim (eqb_tells x x) [ inl e ↦ (rw e.0 refl) | inr e ↦ absurd (e.1 refl) ]
inserted_there x (y ∷ ys) =
    elim (eqb_tells x y) [
      | inl e ↦ (let t : eqb y x ≡ true = ap (eqb y) e.1 ∙ itself y in rw (e.0, t) refl)
      | inr e ↦ rw e.0 (go (nat_lt x y) (inserted_there x ys))
    ]
  where
    itself : (n : ℕ) → eqb n n ≡ true
    itself n = elim (eqb_tells n n) [ inl e ↦ e.0 | inr e ↦ absurd (e.1 refl) ]

    or_true : (b : Bool) → (b || true) ≡ true
    or_true true = refl
    or_true false = refl

    go : (b : Bool) → has (insert_once x ys) x ≡ true → has (cond b (x ∷ y ∷ ys) (y ∷ insert_once x ys)) x ≡ true
    go true i = rw (itself x) refl
    go false i = ap (λ (t : Bool). eqb y x || t) i ∙ or_true (eqb y x)

pub inserted_keeps : (x : ℕ) (xs : List ℕ) (n : ℕ) → has xs n ≡ true → has (insert_once x xs) n ≡ true
inserted_keeps x [] n h = cc
inserted_keeps x (y ∷ ys) n h = go (eqb x y) (nat_lt x y) (inserted_keeps x ys n)
  where
    or_true : (b : Bool) → (b || true) ≡ true
    or_true true = refl
    or_true false = refl

    later : (b : Bool) → (b || has ys n) ≡ true → (has ys n ≡ true → has (insert_once x ys) n ≡ true)
        → (b || has (insert_once x ys) n) ≡ true
    later true k ih = refl
    later false k ih = ih k

    go : (a b : Bool) → (has ys n ≡ true → has (insert_once x ys) n ≡ true)
        → has (cond a (y ∷ ys) (cond b (x ∷ y ∷ ys) (y ∷ insert_once x ys))) n ≡ true
    go true b ih = h
    go false true ih = ap (λ (t : Bool). eqb x n || t) h ∙ or_true (eqb x n)
    go false false ih = later (eqb y n) h ih

-- lists by their places
pub nothing_there : {X : Type 0} (i : ℕ) → slice_get {X = X} [] i ≡ None
nothing_there i = refl

nothing_found : {X : Type 0} (base : ℕ) (cs : List ℕ) → filter_map (λ c. slice_get {X = X} [] (c - base)) cs ≡ []
nothing_found base [] = refl
nothing_found {X} base (c ∷ cs) = nothing_found {X = X} base cs

nothing_counts : {X : Type 0} (test : X → Bool) (items : List X)
    → ((i : ℕ) (x : X) → slice_get items i ≡ Some x → test x ≡ true → ⊥) → filter test items ≡ []
nothing_counts test [] h = refl
nothing_counts {X} test (x ∷ xs) h = go (test x) refl (nothing_counts test xs (λ i. h (suc i)))
  where
    go : (b : Bool) → test x ≡ b → filter test xs ≡ [] → cond b (x ∷ filter test xs) (filter test xs) ≡ []
    go true e ih = absurd (h 0 x refl e)
    go false e ih = ih

one_further : {X : Type 0} (x : X) (xs : List X) (base l : ℕ) (cs : List ℕ) → RisesFrom l cs → base + 1 ≤ l
    → filter_map (λ c. slice_get (x ∷ xs) (c - base)) cs ≡ filter_map (λ c. slice_get xs (c - (base + 1))) cs
one_further x xs base l [] r h = refl
one_further {X} x xs base l (c ∷ cs) r h =
    let e : c - base ≡ suc (c - (base + 1)) = omega (arith, r.0, h) in
    rw (e, one_further x xs base (c + 1) cs r.1 (omega (arith, r.0, h))) refl

-- a place that is the first, and one behind it
found_here : {X : Type 0} (test : X → Bool) (base c : ℕ) (x : X) (xs : List X) (cs : List ℕ) → c ≡ base
    → filter test (filter_map (λ n. slice_get xs (n - (base + 1))) cs) ≡ filter test xs → RisesFrom (base + 1) cs
    → filter test (filter_map (λ n. slice_get (x ∷ xs) (n - base)) (c ∷ cs)) ≡ filter test (x ∷ xs)
found_here {X} test base c x xs cs e ih rest =
    let z : c - base ≡ 0 = omega (arith, e) in
    let later : filter test (filter_map (λ n. slice_get (x ∷ xs) (n - base)) cs) ≡ filter test xs =
    ap (filter test) (one_further x xs base (base + 1) cs rest (omega arith)) ∙ ih in
    rw z (ap (λ (l : List X). cond (test x) (x ∷ l) l) later)

found_behind : {X : Type 0} (test : X → Bool) (base : ℕ) (x : X) (xs : List X) (cs : List ℕ) → test x ≡ false
    → filter test (filter_map (λ n. slice_get xs (n - (base + 1))) cs) ≡ filter test xs → RisesFrom (base + 1) cs
    → filter test (filter_map (λ n. slice_get (x ∷ xs) (n - base)) cs) ≡ filter test (x ∷ xs)
found_behind {X} test base x xs cs f ih rest =
    ap (filter test) (one_further x xs base (base + 1) cs rest (omega arith)) ∙ ih
    ∙ sym (ap (λ (b : Bool). cond b (x ∷ filter test xs) (filter test xs)) f)

not_first : (base c i : ℕ) (cs : List ℕ) → c ≡ base → has (c ∷ cs) (base + suc i) ≡ true → has cs (base + 1 + i) ≡ true
not_first base c i cs e h =
    let next : base + suc i ≡ base + 1 + i = omega arith in
    ap (has cs) (sym next)
    ∙ elim (eqb_tells c (base + suc i)) [
      | inl d ↦ absurd (omega (arith, e, d.1))
      | inr d ↦ ap (λ (b : Bool). b || has cs (base + suc i)) (sym d.0) ∙ h
    ]

no_first : (b : Bool) (base c : ℕ) (cs : List ℕ) → RisesFrom (base + 1) (c ∷ cs)
    → (b ≡ true → has (c ∷ cs) (base + 0) ≡ true) → b ≡ false
no_first false base c cs r h = refl
no_first true base c cs r h =
    let z : base + 0 ≡ base = omega arith in
    absurd (
    let q : true ≡ false =
    sym (h refl) ∙ ap (has (c ∷ cs)) z ∙ below_none (base + 1) base (c ∷ cs) r (omega arith) in cc)

-- codes that rise from the first place of a list find all that counts in it
all_found : {X : Type 0} (test : X → Bool) (base : ℕ) (items : List X) (cs : List ℕ) → RisesFrom base cs
    → ((i : ℕ) (x : X) → slice_get items i ≡ Some x → test x ≡ true → has cs (base + i) ≡ true)
    → filter test (filter_map (λ c. slice_get items (c - base)) cs) ≡ filter test items
all_found {X} test base [] cs r h = ap (filter test) (nothing_found {X = X} base cs)
all_found test base (x ∷ xs) [] r h = sym (nothing_counts test (x ∷ xs) (λ i y s t. let k = h i y s t in cc))
all_found {X} test base (x ∷ xs) (c ∷ cs) r h =
    elim (eqb_tells c base) [
      | inl e ↦ (
          let rest : RisesFrom (base + 1) cs = rises_lower (base + 1) (c + 1) cs (omega (arith, e.1)) r.1 in
          found_here test base c x xs cs e.1
          (all_found test (base + 1) xs cs rest (λ i y s t. not_first base c i cs e.1 (h (suc i) y s t))) rest)
      | inr e ↦ (
          let k : base ≢ c = λ q. e.1 (sym q) in
          let rest : RisesFrom (base + 1) (c ∷ cs) = (omega (arith, r.0, k), r.1) in
          found_behind test base x xs (c ∷ cs) (no_first (test x) base c cs rest (h 0 x refl))
          (all_found test (base + 1) xs (c ∷ cs) rest
          (λ i y s t.
          let next : base + suc i ≡ base + 1 + i = omega arith in
          ap (has (c ∷ cs)) (sym next) ∙ h (suc i) y s t))
          rest)
    ]

-- so a group finds them
pub group_finds : {X : Type 0} (test : X → Bool) (group : ℕ) (items : List X) (codes : List ℕ) → RisesFrom 0 codes
    → ((i : ℕ) (x : X) → slice_get items i ≡ Some x → test x ≡ true
    → (i < 2 ^ 32) × (has codes (code group i) ≡ true))
    → filter test (filter_map (λ c. slice_get items (c - group * 2 ^ 32)) (filter (is_in_group group) codes))
    ≡ filter test items
group_finds test group items codes r h =
    all_found test (group * 2 ^ 32) items (filter (is_in_group group) codes) (rises_in group 0 codes r)
    (λ i x s t.
    has_filter (is_in_group group) codes (code group i) (h i x s t).1 (within group i (h i x s t).0))
