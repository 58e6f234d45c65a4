-- The first of all faults, put together from those of several kinds.
use Rattle.std.proofs.Common.{◌≡◌, ◌⊎◌, ℕ, zero, suc, ◌<◌, ◌≤◌, ◌&&◌, ◌||◌, Bool, true, false, cond, eqb, List, [], ◌∷◌, Contains}
use Rattle.std.proofs.Common.{Option, Some, None, option_map, refl, sym, ap, subst, ◌∙◌, arith, inl, inr}
use Rattle.std.proofs.lemmas.Bool.Decides.{nat_tests}
use Rattle.std.specs.Prelude.{nat_lt, nat_le}
use Rattle.lemmas.proofs.Booleans.{and_parts}
use Rattle.lemmas.proofs.Numbers.{le_true, number_tells}
use Rattle.definition_faults.specs.Orders.{rank, fault, comes_first, earlier_of, earliest, IsNoLater}
use Rattle.definition_faults.specs.Conditions.{IsLeastOf}
use Rattle.definition_faults.specs.declared.kinds.Kind.{Kind}
use Rattle.definition_faults.specs.declared.kinds.Fault.{Fault}

low : (m n : ℕ) → nat_lt m n ≡ true → m < n
low m n h = grind (arith, nat_tests)

-- the test says which of two comes first
pub no_later : (a b : Fault) → comes_first a b ≡ true → IsNoLater a b
no_later a b h = go (nat_lt a.line b.line) refl h
  where
    go : (p : Bool) → nat_lt a.line b.line ≡ p → (p || (eqb a.line b.line && nat_le (rank a.kind) (rank b.kind))) ≡ true
        → IsNoLater a b
    go true q k = inl (low a.line b.line q)
    go false q k =
        let parts = and_parts (eqb a.line b.line) (nat_le (rank a.kind) (rank b.kind)) k in
        inr (number_tells a.line b.line parts.0, le_true (rank a.kind) (rank b.kind) parts.1)

numbers_other : (l k m n : ℕ) → (nat_lt l m || (eqb l m && nat_le k n)) ≡ false
    → (nat_lt m l || (eqb m l && nat_le n k)) ≡ true
numbers_other l k m n h = grind (arith, nat_tests)

pub no_later_other : (a b : Fault) → comes_first a b ≡ false → IsNoLater b a
no_later_other a b h = no_later b a (numbers_other a.line (rank a.kind) b.line (rank b.kind) h)

pub no_later_through : (a b c : Fault) → IsNoLater a b → IsNoLater b c → IsNoLater a c
no_later_through a b c (inl h) (inl k) = inl (omega (arith, h, k))
no_later_through a b c (inl h) (inr k) = inl (omega (arith, h, k.0))
no_later_through a b c (inr h) (inl k) = inl (omega (arith, h.0, k))
no_later_through a b c (inr h) (inr k) = inr (h.0 ∙ k.0, omega (arith, h.1, k.1))

pub no_later_itself : (a : Fault) → IsNoLater a a
no_later_itself a = inr (refl, omega arith)

-- the first of those that there are, and none where there is none
abbrev pub IsFirstOf : (Fault → Type 0) → Option Fault → Type 0
IsFirstOf Has None = (f : Fault) → Has f → ⊥
IsFirstOf Has (Some f) = Has f × ((g : Fault) → Has g → IsNoLater f g)

-- of two kinds
module _ (A B : Fault → Type 0) where
  pub either : (a b : Option Fault) → IsFirstOf A a → IsFirstOf B b → IsFirstOf (λ f. A f ⊎ B f) (earlier_of a b)
  either None None h k = λ f there. elim there [ inl l ↦ h f l | inr r ↦ k f r ]
  either None (Some b) h k = (inr k.0, λ g there. elim there [ inl l ↦ absurd (h g l) | inr r ↦ k.1 g r ])
  either (Some a) None h k = (inl h.0, λ g there. elim there [ inl l ↦ h.1 g l | inr r ↦ absurd (k g r) ])
  either (Some a) (Some b) h k = go (comes_first a b) refl
    where
      go : (p : Bool) → comes_first a b ≡ p → IsFirstOf (λ f. A f ⊎ B f) (cond p (Some a) (Some b))
      go true q = (
        inl h.0,
        λ g there.
            elim there [ inl l ↦ h.1 g l | inr r ↦ no_later_through a b g (no_later a b q) (k.1 g r) ],
      )
      go false q = (
        inr k.0,
        λ g there.
            elim there [ inl l ↦ no_later_through b a g (no_later_other a b q) (h.1 g l) | inr r ↦ k.1 g r ],
      )

-- of one kind at these lines
pub at_least : (Has : ℕ → Type 0) (k : Kind) (line : Option ℕ) → IsLeastOf Has line
    → IsFirstOf (λ f. (f.kind ≡ k) × Has f.line) (option_map (λ l. fault l k) line)
at_least Has k None h = λ f there. h f.line there.1
at_least Has k (Some line) h =
    ((refl, h.0), λ g there. no_later_at g (h.1 g.line there.1) there.0)
  where
    by : (m n : ℕ) (g : Fault) → g.line ≡ n → (nat_lt m n ≡ true) ⊎ (nat_lt m n ≡ false) → m ≤ n → g.kind ≡ k → IsNoLater (fault m k) g
    by m n g at (inl p) h is = inl (let lower : m < n = low m n p in omega (arith, at, lower))
    by m n g at (inr p) h is =
        let one : m ≡ n = grind (arith, nat_tests) in
        let ranks : rank k ≡ rank g.kind = ap rank (sym is) in
        inr (one ∙ sym at, omega (arith, ranks))

    either_way : (b : Bool) → (b ≡ true) ⊎ (b ≡ false)
    either_way true = inl refl
    either_way false = inr refl

    no_later_at : (g : Fault) → line ≤ g.line → g.kind ≡ k → IsNoLater (fault line k) g
    no_later_at g h is = by line g.line g refl (either_way (nat_lt line g.line)) h is

-- the first of a list
first_in : (x : Fault) (xs : List Fault) (f : Fault) → Contains (x ∷ xs) f → (f ≡ x) ⊎ Contains xs f
first_in x xs f (zero, less, is) = inl (sym is)
first_in x xs f (suc k, less, is) = inr (k, omega (arith, less), is)

module _ (x : Fault) (xs : List Fault) where
  in_more : (f : Fault) → Contains xs f → Contains (x ∷ xs) f
  in_more f (k, less, is) = (suc k, omega (arith, less), is)

  at_front : Contains (x ∷ xs) x
  at_front = (0, omega arith, refl)

  alone : IsFirstOf (Contains xs) None → IsFirstOf (Contains (x ∷ xs)) (Some x)
  alone h = (
    at_front,
    λ g there.
        elim (first_in x xs g there) [
          | inl e ↦ subst (IsNoLater x) (sym e) (no_later_itself x)
          | inr c ↦ absurd (h g c)
        ],
  )

  before_other : (y : Fault) → comes_first x y ≡ true → IsFirstOf (Contains xs) (Some y)
      → IsFirstOf (Contains (x ∷ xs)) (Some x)
  before_other y q h = (
    at_front,
    λ g there.
        elim (first_in x xs g there) [
          | inl e ↦ subst (IsNoLater x) (sym e) (no_later_itself x)
          | inr c ↦ no_later_through x y g (no_later x y q) (h.1 g c)
        ],
  )

  behind_other : (y : Fault) → comes_first x y ≡ false → IsFirstOf (Contains xs) (Some y)
      → IsFirstOf (Contains (x ∷ xs)) (Some y)
  behind_other y q h = (
    in_more y h.0,
    λ g there.
        elim (first_in x xs g there) [
          | inl e ↦ subst (IsNoLater y) (sym e) (no_later_other x y q)
          | inr c ↦ h.1 g c
        ],
  )

  chosen : (y : Fault) (p : Bool) → comes_first x y ≡ p → IsFirstOf (Contains xs) (Some y)
      → IsFirstOf (Contains (x ∷ xs)) (cond p (Some x) (Some y))
  chosen y true q h = before_other y q h
  chosen y false q h = behind_other y q h

  with_more : (o : Option Fault) → IsFirstOf (Contains xs) o → IsFirstOf (Contains (x ∷ xs)) (earlier_of (Some x) o)
  with_more None h = alone h
  with_more (Some y) h = chosen y (comes_first x y) refl h

pub of_list : (fs : List Fault) → IsFirstOf (Contains fs) (earliest fs)
of_list [] = λ f there. absurd (omega (arith, there.1))
of_list (x ∷ xs) = with_more x xs (earliest xs) (of_list xs)
