-- How many of ascending days stand before a day.
use Rattle.std.proofs.Common.{◌≡◌, ◌≢◌, ◌⊎◌, ℕ, zero, suc, ◌+◌, ◌<◌, ◌≤◌, ◌&&◌, ◌||◌, Bool, true, false, cond, nat_lt, List, [], ◌∷◌, filter, length, get_or, eqb}
use Rattle.std.proofs.Common.{refl, sym, ap, ◌∙◌, arith, inl, inr, le-ltb, lt-ltb}
use Rattle.std.proofs.lemmas.Bool.{cases_lt}
use Rattle.std.proofs.lemmas.Bool.Decides.{eqb_tells}
use Rattle.lemmas.proofs.Booleans.{and_false}
use Rattle.calendars.specs.Sets.{has}
use Rattle.day_counts.specs.Counts.{rank}
use Rattle.day_counts.proofs.Sets.{Rises, not_again}
use Rattle.day_counts.proofs.Weekdays.{one_if}

pub rank-zero : (xs : List ℕ) → rank xs 0 ≡ 0
rank-zero [] = refl
rank-zero (x ∷ xs) =
    ap (λ (b : Bool). length (cond b (x ∷ filter (λ one. nat_lt one 0) xs) (filter (λ one. nat_lt one 0) xs)))
    (le-ltb x 0 (omega arith))
    ∙ rank-zero xs

rank-in : (x : ℕ) (xs : List ℕ) (n : ℕ) → x < n → rank (x ∷ xs) n ≡ suc (rank xs n)
rank-in x xs n less =
    ap (λ (b : Bool). length (cond b (x ∷ filter (λ one. nat_lt one n) xs) (filter (λ one. nat_lt one n) xs)))
    (lt-ltb x n less)

rank-out : (x : ℕ) (xs : List ℕ) (n : ℕ) → n ≤ x → rank (x ∷ xs) n ≡ rank xs n
rank-out x xs n more =
    ap (λ (b : Bool). length (cond b (x ∷ filter (λ one. nat_lt one n) xs) (filter (λ one. nat_lt one n) xs)))
    (le-ltb x n more)

-- one more stands before the next day exactly where the day is one of them
pub rank-more : (xs : List ℕ) → Rises xs → (n : ℕ) → rank xs (suc n) ≡ rank xs n + one_if (has xs n)
unfolding Rises
rank-more [] up n = refl
rank-more (x ∷ xs) up n =
    let rest : rank xs (suc n) ≡ rank xs n + one_if (has xs n) = rank-more xs up.1 n in
    elim (eqb_tells n x) [
      | inl is ↦
          (let mine : has (x ∷ xs) n ≡ true = ap (λ b. b || has xs n) is.0 in
          let none : has xs n ≡ false = ap (has xs) is.1 ∙ not_again x xs up.0 in
          omega (
            arith,
            is.1,
            rest,
            ap one_if mine,
            ap one_if none,
            rank-in x xs (suc n) (omega (arith, is.1)),
            rank-out x xs n (omega (arith, is.1)),
          ))
      | inr other ↦
          (let same : has (x ∷ xs) n ≡ has xs n = ap (λ b. b || has xs n) other.0 in
          elim (cases_lt x n) [
            | inl less ↦
                omega (
                  arith,
                  rest,
                  ap one_if same,
                  rank-in x xs (suc n) (omega (arith, less)),
                  rank-in x xs n less,
                )
            | inr more ↦
                omega (
                  arith,
                  rest,
                  ap one_if same,
                  rank-out x xs (suc n) (omega (arith, more, other.1)),
                  rank-out x xs n more,
                )
          ])
    ]

-- where those that pass stand first, the place behind the last of them is their number
pub counted : (p : ℕ → Bool) (xs : List ℕ) (i : ℕ) → i ≤ length xs
    → ((k d : ℕ) → 0 ≤ k → k < i → p (get_or xs k d) ≡ true)
    → ((k d : ℕ) → i ≤ k → k < length xs → p (get_or xs k d) ≡ false)
    → i ≡ length (filter p xs)
counted p [] i short pass fail = omega (arith, short)
counted p (x ∷ xs) zero short pass fail =
    let none : p x ≡ false = fail 0 0 (omega arith) (omega arith) in
    let rest : 0 ≡ length (filter p xs) =
    counted p xs zero (omega arith) (λ k d least low. absurd (omega (arith, low)))
    (λ k d least low. fail (suc k) d (omega arith) (omega (arith, low))) in
    rest ∙ sym (ap (λ (b : Bool). length (cond b (x ∷ filter p xs) (filter p xs))) none)
counted p (x ∷ xs) (suc i) short pass fail =
    let one : p x ≡ true = pass 0 0 (omega arith) (omega arith) in
    let rest : i ≡ length (filter p xs) =
    counted p xs i (omega (arith, short)) (λ k d least low. pass (suc k) d (omega arith) (omega (arith, low)))
    (λ k d least low. fail (suc k) d (omega (arith, least)) (omega (arith, low))) in
    ap suc rest ∙ sym (ap (λ (b : Bool). length (cond b (x ∷ filter p xs) (filter p xs))) one)

-- the members of a list that pass a test
pub has_filtered : (p : ℕ → Bool) (xs : List ℕ) (n : ℕ) → has (filter p xs) n ≡ (has xs n && p n)
has_filtered p [] n = refl
has_filtered p (x ∷ xs) n = go (p x) refl (eqb_tells n x) (has_filtered p xs n)
  where
    go : (b : Bool) → p x ≡ b → ((eqb n x ≡ true) × (n ≡ x)) ⊎ ((eqb n x ≡ false) × (n ≢ x))
        → has (filter p xs) n ≡ (has xs n && p n)
        → has (cond b (x ∷ filter p xs) (filter p xs)) n ≡ ((eqb n x || has xs n) && p n)
    go true is (inl e) rest =
        let passes : p n ≡ true = ap p e.1 ∙ is in
        ap (λ t. t || has (filter p xs) n) e.0 ∙ sym (λ i. (e.0 i || has xs n) && passes i)
    go false is (inl e) rest =
        let fails : p n ≡ false = ap p e.1 ∙ is in
        rest
        ∙ (ap (λ t. has xs n && t) fails
        ∙ (and_false (has xs n)
        ∙ sym (ap (λ t. (eqb n x || has xs n) && t) fails ∙ and_false (eqb n x || has xs n))))
    go true is (inr e) rest =
        ap (λ t. t || has (filter p xs) n) e.0 ∙ (rest ∙ sym (ap (λ t. (t || has xs n) && p n) e.0))
    go false is (inr e) rest = rest ∙ sym (ap (λ t. (t || has xs n) && p n) e.0)
