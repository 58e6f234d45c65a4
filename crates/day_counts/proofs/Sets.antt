-- A set of days is the ascending list of them.
use Rattle.std.proofs.Common.{◌≡◌, ℕ, suc, ◌+◌, ◌<◌, Bool, true, false, ◌||◌, cond, List, [], ◌∷◌, eqb, slice_index}
use Rattle.std.proofs.Common.{ap, arith, inl, inr, refl, sym, subst, ◌∙◌}
use Rattle.std.proofs.lemmas.Bool.Decides.{eqb_tells, nat_tests}
use Rattle.std.specs.List.Sorted.{IsStrictlyIncreasing}
use Rattle.std.specs.Prelude.{nat_lt}
use Rattle.std.specs.List.{list_any}
use Rattle.lemmas.proofs.Booleans.{or_cases, or_swap, or_twice}
use Rattle.lemmas.proofs.Numbers.{number_itself, number_tells}
use Rattle.calendars.specs.Sets.{has}
use Rattle.model.specs.Words.{ascending, insert_once}

-- each is below all that follow
unfoldable pub Rises : List ℕ → Type 0
Rises [] = Unit {0}
Rises (x ∷ xs) = ((n : ℕ) → has xs n ≡ true → x < n) × Rises xs

tail_rises : (x : ℕ) (xs : List ℕ) → IsStrictlyIncreasing (x ∷ xs) → IsStrictlyIncreasing xs
tail_rises x xs h = λ k low.
    let next : k + 1 ≡ suc k = omega arith in
    let further : suc k + 1 ≡ suc (k + 1) = omega arith in
    subst (λ m. slice_index xs k < slice_index (x ∷ xs) m) further (h (suc k) (omega (arith, low)))

first_below : (x y : ℕ) (ys : List ℕ) → IsStrictlyIncreasing (x ∷ y ∷ ys) → x < y
first_below x y ys h =
    let one : 0 + 1 ≡ 1 = omega arith in
    subst (λ m. x < slice_index (x ∷ y ∷ ys) m) one (h 0 (omega arith))

below_all : (x : ℕ) (xs : List ℕ) → IsStrictlyIncreasing (x ∷ xs) → (n : ℕ) → has xs n ≡ true → x < n
below_all x [] h n there = cc
below_all x (y ∷ ys) h n there =
    elim (or_cases (eqb n y) (has ys n) there) [
      | inl e ↦ (let at : n ≡ y = number_tells n y e in omega (arith, at, first_below x y ys h))
      | inr e ↦
          let low : x < y = first_below x y ys h in
          let later : y < n = below_all y ys (tail_rises x (y ∷ ys) h) n e in
          omega (arith, low, later)
    ]

pub rises_of : (xs : List ℕ) → IsStrictlyIncreasing xs → Rises xs
unfolding Rises
rises_of [] h = tt
rises_of (x ∷ xs) h = (below_all x xs h, rises_of xs (tail_rises x xs h))

has_first : (x : ℕ) (xs : List ℕ) → has (x ∷ xs) x ≡ true
has_first x xs = ap (λ b. b || has xs x) (number_itself x)

pub not_again : (x : ℕ) (xs : List ℕ) → ((n : ℕ) → has xs n ≡ true → x < n) → has xs x ≡ false
not_again x xs h = go (has xs x) refl
  where
    go : (b : Bool) → has xs x ≡ b → has xs x ≡ false
    go true e = absurd (let low : x < x = h x e in omega (arith, low))
    go false e = e

one_first : (x y : ℕ) (xs ys : List ℕ) → ((n : ℕ) → has xs n ≡ true → x < n) → ((n : ℕ) → has ys n ≡ true → y < n)
    → ((n : ℕ) → has (x ∷ xs) n ≡ has (y ∷ ys) n) → x ≡ y
one_first x y xs ys low high same =
    elim (or_cases (eqb x y) (has ys x) (sym (same x) ∙ has_first x xs)) [
      | inl e ↦ number_tells x y e
      | inr e ↦
          elim (or_cases (eqb y x) (has xs y) (same y ∙ has_first y ys)) [
            | inl f ↦ sym (number_tells y x f)
            | inr f ↦ absurd (let a : y < x = high x e in let b : x < y = low y f in omega (arith, a, b))
          ]
    ]

pub one_list : (xs ys : List ℕ) → Rises xs → Rises ys → ((n : ℕ) → has xs n ≡ has ys n) → xs ≡ ys
unfolding Rises
one_list [] [] h k same = refl
one_list [] (y ∷ ys) h k same = absurd (let e : false ≡ true = same y ∙ has_first y ys in cc)
one_list (x ∷ xs) [] h k same = absurd (let e : true ≡ false = sym (has_first x xs) ∙ same x in cc)
one_list (x ∷ xs) (y ∷ ys) h k same =
    let head : x ≡ y = one_first x y xs ys h.0 k.0 same in
    ap (λ n. n ∷ xs) head ∙ ap (λ l. y ∷ l) (one_list xs ys h.1 k.1 (rest head))
  where
    rest : x ≡ y → (n : ℕ) → has xs n ≡ has ys n
    rest head n =
        elim (eqb_tells n x) [
          | inl e ↦
              ap (has xs) e.1 ∙ (not_again x xs h.0 ∙ sym (ap (has ys) (e.1 ∙ head) ∙ not_again y ys k.0))
          | inr e ↦
              let other : eqb n y ≡ false = subst (λ m. eqb n m ≡ false) head e.0 in
              sym (ap (λ b. b || has xs n) e.0) ∙ (same n ∙ ap (λ b. b || has ys n) other)
        ]

-- a test of one more, and of all
pub any_put : (f : ℕ → Bool) (x : ℕ) (ys : List ℕ) → list_any f (insert_once x ys) ≡ (f x || list_any f ys)
any_put f x [] = refl
any_put f x (y ∷ ys) = go (eqb x y) refl (nat_lt x y) (any_put f x ys)
  where
    go : (b : Bool) → eqb x y ≡ b → (c : Bool) → list_any f (insert_once x ys) ≡ (f x || list_any f ys)
        → list_any f (cond b (y ∷ ys) (cond c (x ∷ y ∷ ys) (y ∷ insert_once x ys))) ≡ (f x || (f y || list_any f ys))
    go true e c h = or_twice (f y) (list_any f ys) ∙ ap (λ m. f m || (f y || list_any f ys)) (sym (number_tells x y e))
    go false e true h = refl
    go false e false h = ap (λ b. f y || b) h ∙ or_swap (f y) (f x) (list_any f ys)

pub any_ascending : (f : ℕ → Bool) (xs : List ℕ) → list_any f (ascending xs) ≡ list_any f xs
any_ascending f [] = refl
any_ascending f (x ∷ xs) = any_put f x (ascending xs) ∙ ap (λ b. f x || b) (any_ascending f xs)

has_put : (x : ℕ) (ys : List ℕ) (n : ℕ) → has (insert_once x ys) n ≡ (eqb n x || has ys n)
has_put x ys n = any_put (eqb n) x ys

put_rises : (x : ℕ) (ys : List ℕ) → Rises ys → Rises (insert_once x ys)
unfolding Rises
put_rises x [] h = (λ n there. cc, tt)
put_rises x (y ∷ ys) h = go (eqb x y) refl (nat_lt x y) refl (put_rises x ys h.1)
  where
    go : (b : Bool) → eqb x y ≡ b → (c : Bool) → nat_lt x y ≡ c → Rises (insert_once x ys)
        → Rises (cond b (y ∷ ys) (cond c (x ∷ y ∷ ys) (y ∷ insert_once x ys)))
    go true e c f more = h
    go false e true f more =
        let low : x < y = grind (arith, nat_tests) in (
          λ n there.
              elim (or_cases (eqb n y) (has ys n) there) [
                | inl at ↦ (let same : n ≡ y = number_tells n y at in omega (arith, low, same))
                | inr later ↦ (let high : y < n = h.0 n later in omega (arith, low, high))
              ],
          h,
        )
    go false e false f more = (
      λ n there.
          elim (or_cases (eqb n x) (has ys n) (sym (has_put x ys n) ∙ there)) [
            | inl at ↦
                let same : n ≡ x = number_tells n x at in
                let high : y < x = grind (arith, nat_tests) in
                omega (arith, same, high)
            | inr later ↦ h.0 n later
          ],
      more,
    )

ascending_rises : (xs : List ℕ) → Rises (ascending xs)
unfolding Rises
ascending_rises [] = tt
ascending_rises (x ∷ xs) = put_rises x (ascending xs) (ascending_rises xs)

pub has_ascending : (xs : List ℕ) (n : ℕ) → has (ascending xs) n ≡ has xs n
has_ascending xs n = any_ascending (eqb n) xs

-- a rising list with the same members is that list
pub is_ascending : (set days : List ℕ) → ((n : ℕ) → has set n ≡ has days n) → IsStrictlyIncreasing set
    → set ≡ ascending days
is_ascending set days same rises =
    one_list set (ascending days) (rises_of set rises) (ascending_rises days)
    (λ n. same n ∙ sym (has_ascending days n))
