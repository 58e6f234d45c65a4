-- Numbers put one by one among ascending ones, in whatever order.
use Rattle.std.proofs.Common.{◌≡◌, ◌≢◌, ◌⊎◌, ◌∙◌, ◌∷◌, ◌++◌, ◌<◌, [], ℕ, Bool, List, ap, arith, false, inl, inr}
use Rattle.std.proofs.Common.{refl, subst, sym, true}
use Rattle.std.proofs.lemmas.Bool.Decides.{eqb_tells, nat_tests}
use Rattle.std.specs.Prelude.{flat_map, nat_lt}
use Rattle.model.specs.Words.{ascending, insert_once}
use Rattle.batchman_core.specs.Gathered.{with_all}

at_place : (x y : ℕ) (ys : List ℕ) → x ≡ y → insert_once x (y ∷ ys) ≡ y ∷ ys
at_place x y ys h = grind (arith, nat_tests)

before_place : (x y : ℕ) (ys : List ℕ) → x < y → insert_once x (y ∷ ys) ≡ x ∷ y ∷ ys
before_place x y ys h = grind (arith, nat_tests)

behind_place : (x y : ℕ) (ys : List ℕ) → y < x → insert_once x (y ∷ ys) ≡ y ∷ insert_once x ys
behind_place x y ys h = grind (arith, nat_tests)

-- which of two numbers is lower
abbrev Compared : ℕ → ℕ → Type 0
Compared x y = (x < y) ⊎ ((x ≡ y) ⊎ (y < x))

compared : (x y : ℕ) → Compared x y
compared x y = elim (eqb_tells x y) [ inl e ↦ inr (inl e.1) | inr e ↦ go (nat_lt x y) refl ]
  where
    go : (b : Bool) → nat_lt x y ≡ b → Compared x y
    go true h = inl (below h)
      where
        below : nat_lt x y ≡ true → x < y
        below h = grind (arith, nat_tests)
    go false h = elim (eqb_tells x y) [ inl e ↦ inr (inl e.1) | inr e ↦ inr (inr (above h e.1)) ]
      where
        above : nat_lt x y ≡ false → x ≢ y → y < x
        above h e = grind (arith, nat_tests)

-- the lower of two numbers and the other beside a third
lower_step : (x y z : ℕ) (zs : List ℕ) → x < y → insert_once x (insert_once y zs) ≡ insert_once y (insert_once x zs)
    → Compared y z → Compared x z → insert_once x (insert_once y (z ∷ zs)) ≡ insert_once y (insert_once x (z ∷ zs))
lower_step x y z zs h more (inl k) other =
    let low : x < z = omega arith in
    ap (insert_once x) (before_place y z zs k) ∙ before_place x y (z ∷ zs) h
    ∙ sym
    (ap (insert_once y) (before_place x z zs low) ∙ behind_place y x (z ∷ zs) h
    ∙ ap (λ (l : List ℕ). x ∷ l) (before_place y z zs k))
lower_step x y z zs h more (inr (inl k)) other =
    let low : x < z = omega arith in
    ap (insert_once x) (at_place y z zs k) ∙ before_place x z zs low
    ∙ sym
    (ap (insert_once y) (before_place x z zs low) ∙ behind_place y x (z ∷ zs) h
    ∙ ap (λ (l : List ℕ). x ∷ l) (at_place y z zs k))
lower_step x y z zs h more (inr (inr k)) (inl low) =
    ap (insert_once x) (behind_place y z zs k) ∙ before_place x z (insert_once y zs) low
    ∙ sym
    (ap (insert_once y) (before_place x z zs low) ∙ behind_place y x (z ∷ zs) h
    ∙ ap (λ (l : List ℕ). x ∷ l) (behind_place y z zs k))
lower_step x y z zs h more (inr (inr k)) (inr (inl e)) =
    ap (insert_once x) (behind_place y z zs k) ∙ at_place x z (insert_once y zs) e
    ∙ sym (ap (insert_once y) (at_place x z zs e) ∙ behind_place y z zs k)
lower_step x y z zs h more (inr (inr k)) (inr (inr high)) =
    ap (insert_once x) (behind_place y z zs k) ∙ behind_place x z (insert_once y zs) high
    ∙ ap (λ (l : List ℕ). z ∷ l) more
    ∙ sym (ap (insert_once y) (behind_place x z zs high) ∙ behind_place y z (insert_once x zs) k)

insert_lower : (x y : ℕ) (zs : List ℕ) → x < y → insert_once x (insert_once y zs) ≡ insert_once y (insert_once x zs)
insert_lower x y [] h = before_place x y [] h ∙ sym (behind_place y x [] h)
insert_lower x y (z ∷ zs) h = lower_step x y z zs h (insert_lower x y zs h) (compared y z) (compared x z)

-- two numbers are put in, in either order
insert_either : (x y : ℕ) (zs : List ℕ) → insert_once x (insert_once y zs) ≡ insert_once y (insert_once x zs)
insert_either x y zs = go (compared x y)
  where
    go : Compared x y → insert_once x (insert_once y zs) ≡ insert_once y (insert_once x zs)
    go (inl h) = insert_lower x y zs h
    go (inr (inl e)) = subst (λ (v : ℕ). insert_once x (insert_once v zs) ≡ insert_once v (insert_once x zs)) e refl
    go (inr (inr h)) = sym (insert_lower y x zs h)

-- one more, before the others or behind them
pub with_one_more : (xs : List ℕ) (y : ℕ) (among : List ℕ)
    → with_all xs (insert_once y among) ≡ insert_once y (with_all xs among)
with_one_more [] y among = refl
with_one_more (x ∷ xs) y among =
    ap (insert_once x) (with_one_more xs y among) ∙ insert_either x y (with_all xs among)

with_both : (xs ys among : List ℕ) → with_all (xs ++ ys) among ≡ with_all ys (with_all xs among)
with_both [] ys among = refl
with_both (x ∷ xs) ys among =
    ap (insert_once x) (with_both xs ys among) ∙ sym (with_one_more ys x (with_all xs among))

-- put among none
pub all_gathered : (xs : List ℕ) → with_all xs [] ≡ ascending xs
all_gathered [] = refl
all_gathered (x ∷ xs) = ap (insert_once x) (all_gathered xs)

-- some more of those that are left
pub gathered_some : {X : Type 0} (f : X → List ℕ) (x : X) (left : List X) (among : List ℕ)
    → with_all (flat_map f (x ∷ left)) among ≡ with_all (flat_map f left) (with_all (f x) among)
gathered_some f x left among = with_both (f x) (flat_map f left) among
