-- An object of the least line among the first of those that follow one of their own group.
use Rattle.std.proofs.Common.{◌≡◌, ℕ, ◌+◌, ◌<◌, ◌≤◌, ◌==◌, nat_lt, nat_le, Bool, true, false, inl, inr, List, Option, Some, None}
use Rattle.std.proofs.Common.{Contains, slice_index, refl, ap, sym, ◌∙◌, subst, arith}
use Rattle.std.proofs.lemmas.Bool.Decides.{eqb_tells, nat_tests}
use Rattle.std.proofs.lemmas.List.Folds.{list_all_at}
use Rattle.std.specs.List.{list_any, list_all}
use Rattle.follow_circles.specs.Circles.{line_of, follows_of}
use Rattle.follow_circles.specs.Groups.{stays, is_less}
use Rattle.follow_circles.specs.declared.circles.Follower.{Follower}

abbrev pub IsLeastBefore : List Follower → List ℕ → ℕ → Option ℕ → Type 0
IsLeastBefore objects groups n None = (v : ℕ) → v < n → stays objects groups v ≡ true → ⊥
IsLeastBefore objects groups n (Some v) =
    (stays objects groups v ≡ true)
    × ((w : ℕ) → w < n → stays objects groups w ≡ true → line_of objects v ≤ line_of objects w)

-- one object more, which has the least line
pub takes : (objects : List Follower) (groups : List ℕ) (n : ℕ) (least : Option ℕ) → IsLeastBefore objects groups n least
    → stays objects groups n ≡ true → is_less objects n least ≡ true → IsLeastBefore objects groups (n + 1) (Some n)
takes objects groups n None i s l = (
  s,
  λ w below t.
      elim (eqb_tells w n) [
        | inl e ↦
            let own : line_of objects n ≤ line_of objects n = omega arith in
            subst (λ (k : ℕ). line_of objects n ≤ line_of objects k) (sym e.1) own
        | inr other ↦ let low : w < n = omega (arith, below, other.1) in absurd (i w low t)
      ],
)
takes objects groups n (Some v) i s l = (
  s,
  λ w below t.
      elim (eqb_tells w n) [
        | inl e ↦
            let own : line_of objects n ≤ line_of objects n = omega arith in
            subst (λ (k : ℕ). line_of objects n ≤ line_of objects k) (sym e.1) own
        | inr other ↦
            let low : w < n = omega (arith, below, other.1) in
            let that : line_of objects v ≤ line_of objects w = i.1 w low t in
            let less : line_of objects n < line_of objects v = grind (arith, nat_tests) in
            omega (arith, that, less)
      ],
)

-- and one that has it not
pub keeps : (objects : List Follower) (groups : List ℕ) (n : ℕ) (least : Option ℕ) → IsLeastBefore objects groups n least
    → (stays objects groups n ≡ true → is_less objects n least ≡ false) → IsLeastBefore objects groups (n + 1) least
keeps objects groups n None i none = λ w below t.
    elim (eqb_tells w n) [
      | inl e ↦
          let both : true ≡ false = none (subst (λ (k : ℕ). stays objects groups k ≡ true) e.1 t) in
          absurd (let never : ⊥ = cc in never)
      | inr other ↦ let low : w < n = omega (arith, below, other.1) in i w low t
    ]
keeps objects groups n (Some v) i none = (
  i.0,
  λ w below t.
      elim (eqb_tells w n) [
        | inl e ↦
            let f : nat_lt (line_of objects n) (line_of objects v) ≡ false =
            none (subst (λ (k : ℕ). stays objects groups k ≡ true) e.1 t) in
            let own : line_of objects v ≤ line_of objects n = grind (arith, nat_tests) in
            subst (λ (k : ℕ). line_of objects v ≤ line_of objects k) (sym e.1) own
        | inr other ↦ let low : w < n = omega (arith, below, other.1) in i.1 w low t
      ],
)

-- the two tests, at an object and its group
pub stays_of : (objects : List Follower) (groups : List ℕ) (v n : ℕ) (places : List ℕ) (b : Bool)
    → follows_of objects v ≡ places → n ≡ slice_index groups v
    → b ≡ list_any (λ w. slice_index groups w == n) places → stays objects groups v ≡ b
stays_of objects groups v n places b is group told =
    ap (λ (l : List ℕ). list_any (λ w. slice_index groups w == slice_index groups v) l) is
    ∙ (ap (λ (k : ℕ). list_any (λ w. slice_index groups w == k) places) (sym group) ∙ sym told)

all_at : (p : ℕ → Bool) (ys : List ℕ) (x : ℕ) → list_all p ys ≡ true → Contains ys x → p x ≡ true
all_at p ys x all c = go (p x) refl
  where
    go : (b : Bool) → p x ≡ b → p x ≡ true
    go true h = h
    go false h =
        let f : list_all p ys ≡ false = list_all_at p ys c.0 x c.1 (ap p c.2 ∙ h) in
        absurd (let both : true ≡ false = sym all ∙ f in cc)

pub goes_down_of : (objects : List Follower) (groups : List ℕ) (v n : ℕ) (places : List ℕ)
    → follows_of objects v ≡ places → n ≡ slice_index groups v
    → list_all (λ w. nat_le (slice_index groups w) n) places ≡ true
    → (w : ℕ) → Contains (follows_of objects v) w → slice_index groups w ≤ slice_index groups v
goes_down_of objects groups v n places is group all w c =
    let low : nat_le (slice_index groups w) n ≡ true =
    all_at (λ u. nat_le (slice_index groups u) n) places w all (subst (λ (l : List ℕ). Contains l w) is c) in
    grind (arith, nat_tests)
