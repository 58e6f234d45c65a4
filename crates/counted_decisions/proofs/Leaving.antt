-- Units that are left when several take theirs one by one.
use Rattle.std.proofs.Common.{[], ℕ, ◌+◌, ◌-◌, ◌∙◌, ◌∷◌, ◌≡◌, ◌≤◌, Bool, List, None, Option, Some, ap, arith, false, inl, inr}
use Rattle.std.proofs.Common.{is_some, nat_le, refl, sym, true}
use Rattle.std.proofs.lemmas.Bool.Decides.{leb_tells}
use Rattle.std.proofs.lemmas.List.Sums.{sum_by-cons}
use Rattle.std.specs.Bool.{then_some}
use Rattle.std.specs.Prelude.{sum_by}
use Rattle.lemmas.proofs.Numbers.{le_refused, le_told}
use Rattle.lemmas.proofs.Options.{some_same}
use Rattle.counted_decisions.specs.Units.{left_of}

there : (b : Bool) (x : ℕ) → is_some (then_some b x) ≡ b
there true x = refl
there false x = refl

-- there are enough where something is left
pub left_tells : (free units : ℕ) → is_some (left_of free units) ≡ nat_le units free
left_tells free units = there (nat_le units free) (free - units)

enough : (free units next : ℕ) → left_of free units ≡ Some next → (units ≤ free) × (next ≡ free - units)
enough free units next e = elim (leb_tells units free) [
  | inl t ↦ (t.1, some_same next (free - units) (sym e ∙ ap (λ (b : Bool). then_some b (free - units)) t.0))
  | inr t ↦ absurd (apart (sym e ∙ ap (λ (b : Bool). then_some b (free - units)) t.0))
]
  where
    apart : Some next ≡ None → ⊥
    apart k = cc

too_few : (free units : ℕ) → left_of free units ≡ None → free + 1 ≤ units
too_few free units e = elim (leb_tells units free) [
  | inl t ↦ absurd (apart (sym e ∙ ap (λ (b : Bool). then_some b (free - units)) t.0))
  | inr t ↦ let less = t.1 in omega (arith, less)
]
  where
    apart : None ≡ Some (free - units) → ⊥
    apart k = cc

-- one takes its units, and then the rest
pub left_none : (free units rest : ℕ) → left_of free units ≡ None → left_of free (units + rest) ≡ None
left_none free units rest e =
    let few = too_few free units e in
    ap (λ (b : Bool). then_some b (free - (units + rest))) (le_refused (units + rest) free (omega (arith, few)))

pub left_some : (free units rest next : ℕ) → left_of free units ≡ Some next
    → left_of free (units + rest) ≡ left_of next rest
left_some free units rest next e =
    let h = enough free units next e in
    let within = h.0 in
    let is = h.1 in
    let same : free - (units + rest) ≡ next - rest = omega (arith, within, is) in
    elim (leb_tells rest next) [
      | inl t ↦ (
          let fits = t.1 in
          ap (λ (b : Bool). then_some b (free - (units + rest)))
          (le_told (units + rest) free (omega (arith, within, is, fits)))
          ∙ ap Some same ∙ sym (ap (λ (b : Bool). then_some b (next - rest)) t.0))
      | inr t ↦ (
          let less = t.1 in
          ap (λ (b : Bool). then_some b (free - (units + rest)))
          (le_refused (units + rest) free (omega (arith, within, is, less)))
          ∙ sym (ap (λ (b : Bool). then_some b (next - rest)) t.0))
    ]

left_zero : (free : ℕ) → left_of free 0 ≡ Some free
left_zero free =
    let same : free - 0 ≡ free = omega arith in
    ap (λ (b : Bool). then_some b (free - 0)) (le_told 0 free (omega arith)) ∙ ap Some same

-- a walk over those who take
module _ {X : Type 0} (f : X → ℕ) where
  next_sum : (now rest : List X) (x : X) → now ≡ x ∷ rest → sum_by f now ≡ f x + sum_by f rest
  next_sum now rest x e = ap (sum_by f) e ∙ sum_by-cons f x rest

  pub walk_none : (all r : Option ℕ) (left : ℕ) (now rest : List X) (x : X) → all ≡ left_of left (sum_by f now)
      → now ≡ x ∷ rest → r ≡ left_of left (f x) → r ≡ None → None ≡ all
  walk_none all r left now rest x e is told none =
      sym (e ∙ ap (left_of left) (next_sum now rest x is)
      ∙ left_none left (f x) (sum_by f rest) (sym told ∙ none))

  pub walk_some : (all r : Option ℕ) (left next : ℕ) (now rest : List X) (x : X) → all ≡ left_of left (sum_by f now)
      → now ≡ x ∷ rest → r ≡ left_of left (f x) → r ≡ Some next → all ≡ left_of next (sum_by f rest)
  walk_some all r left next now rest x e is told some =
      e ∙ ap (left_of left) (next_sum now rest x is) ∙ left_some left (f x) (sum_by f rest) next (sym told ∙ some)

  pub walk_end : (all : Option ℕ) (left : ℕ) (now : List X) → all ≡ left_of left (sum_by f now) → now ≡ []
      → Some left ≡ all
  walk_end all left now e is = sym (e ∙ ap (λ (l : List X). left_of left (sum_by f l)) is ∙ left_zero left)

-- both parts
pub both_none : (most a b : ℕ) (r : Option ℕ) → r ≡ left_of most a → r ≡ None → false ≡ nat_le (a + b) most
both_none most a b r e none =
    sym (sym (left_tells most (a + b)) ∙ ap is_some (left_none most a b (sym e ∙ none)))

pub both_some : (most a b left : ℕ) (r q : Option ℕ) → r ≡ left_of most a → r ≡ Some left → q ≡ left_of left b
    → is_some q ≡ nat_le (a + b) most
both_some most a b left r q e some f =
    ap is_some (f ∙ sym (left_some most a b left (sym e ∙ some))) ∙ left_tells most (a + b)

-- more units, within a total
turned : (total n u t m : ℕ) → t ≡ total → m ≡ n → nat_le (m + u) t ≡ nat_le (u + n) total
turned total n u t m e f =
    let same : m + u ≡ u + n = omega (arith, f) in
    ap (λ (k : ℕ). nat_le k t) same ∙ ap (λ (k : ℕ). nat_le (u + n) k) e

pub units_none : (total n u t m : ℕ) (r : Option ℕ) → r ≡ left_of t m → t ≡ total → m ≡ n → r ≡ None
    → false ≡ nat_le (u + n) total
units_none total n u t m r told e f none = both_none t m u r told none ∙ turned total n u t m e f

pub units_some : (total n u t m free : ℕ) (r : Option ℕ) (q : Bool) → r ≡ left_of t m → t ≡ total → m ≡ n
    → r ≡ Some free → q ≡ nat_le u free → q ≡ nat_le (u + n) total
units_some total n u t m free r q told e f some is =
    is ∙ sym (left_tells free u) ∙ ap is_some (sym (left_some t m u free (sym told ∙ some))) ∙ left_tells t (m + u)
    ∙ turned total n u t m e f
