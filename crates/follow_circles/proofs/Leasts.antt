-- The least line of the objects on circles among the first of them.
use Rattle.std.proofs.Common.{◌≡◌, ℕ, ◌+◌, ◌<◌, ◌≤◌, Bool, true, false, cond, nat_lt, inl, inr, List, Option, Some, None}
use Rattle.std.proofs.Common.{length, get_or, refl, ap, sym, subst, arith}
use Rattle.std.proofs.lemmas.Bool.Decides.{eqb_tells, nat_tests}
use Rattle.std.proofs.lemmas.Option.{slice_get_read}
use Rattle.std.specs.Option.{option_map_or}
use Rattle.model.specs.Words.{lesser}
use Rattle.follow_circles.specs.Circles.{IsOnCircle, IsLeastLine, line_of}
use Rattle.follow_circles.specs.declared.circles.Follower.{Follower}
use Rattle.follow_circles.proofs.Downs.{inside}

abbrev pub IsLeastBelow : List Follower → ℕ → Option ℕ → Type 0
IsLeastBelow objects n None = (v : ℕ) → v < n → IsOnCircle objects v → ⊥
IsLeastBelow objects n (Some line) =
    ((v : ℕ) × (v < n) × IsOnCircle objects v × (line_of objects v ≡ line))
    × ((v : ℕ) → v < n → IsOnCircle objects v → line ≤ line_of objects v)

-- one object more that is on no circle
pub keeps : (objects : List Follower) (n : ℕ) (least : Option ℕ) → IsLeastBelow objects n least
    → (IsOnCircle objects n → ⊥) → IsLeastBelow objects (n + 1) least
keeps objects n None i none = λ v below on.
    elim (eqb_tells v n) [
      | inl e ↦ none (subst (λ (k : ℕ). IsOnCircle objects k) e.1 on)
      | inr other ↦ let low : v < n = omega (arith, below, other.1) in i v low on
    ]
keeps objects n (Some line) i none =
    let more : i.0.0 < n + 1 = let low : i.0.0 < n = i.0.1 in omega (arith, low) in (
      (i.0.0, more, i.0.2, i.0.3),
      λ v below on.
          elim (eqb_tells v n) [
            | inl e ↦ absurd (none (subst (λ (k : ℕ). IsOnCircle objects k) e.1 on))
            | inr other ↦ let low : v < n = omega (arith, below, other.1) in i.1 v low on
          ],
    )

-- and one that is on a circle
module _ (objects : List Follower) (n line : ℕ) (is : line ≡ line_of objects n) (on : IsOnCircle objects n) where
  here : (m v : ℕ) → m ≤ line → v ≡ n → m ≤ line_of objects v
  here m v low e =
      let own : m ≤ line_of objects n = omega (arith, low, is) in
      subst (λ (k : ℕ). m ≤ line_of objects k) (sym e) own

  by_test : (m : ℕ) → IsLeastBelow objects n (Some m) → (b : Bool) → nat_lt m line ≡ b
      → IsLeastBelow objects (n + 1) (Some (cond b m line))
  by_test m i true h =
      let less : m < line = grind (arith, nat_tests) in
      let more : i.0.0 < n + 1 = let low : i.0.0 < n = i.0.1 in omega (arith, low) in
      let most : m ≤ line = omega (arith, less) in (
        (i.0.0, more, i.0.2, i.0.3),
        λ v below other.
            elim (eqb_tells v n) [
              | inl e ↦ here m v most e.1
              | inr ne ↦ let low : v < n = omega (arith, below, ne.1) in i.1 v low other
            ],
      )
  by_test m i false h =
      let least : line ≤ m = grind (arith, nat_tests) in
      let own : line ≤ line = omega arith in
      let more : n < n + 1 = omega arith in (
        (n, more, on, sym is),
        λ v below other.
            elim (eqb_tells v n) [
              | inl e ↦ here line v own e.1
              | inr ne ↦
                  let low : v < n = omega (arith, below, ne.1) in
                  let that : m ≤ line_of objects v = i.1 v low other in
                  omega (arith, least, that)
            ],
      )

  pub takes : (least : Option ℕ) → IsLeastBelow objects n least
      → IsLeastBelow objects (n + 1) (Some (lesser line least))
  takes None i =
      let more : n < n + 1 = omega arith in
      let own : line ≤ line = omega arith in (
        (n, more, on, sym is),
        λ v below other.
            elim (eqb_tells v n) [
              | inl e ↦ here line v own e.1
              | inr ne ↦ let low : v < n = omega (arith, below, ne.1) in absurd (i v low other)
            ],
      )
  takes (Some m) i = by_test m i (nat_lt m line) refl

-- all objects are all that there are
pub all_below : (objects : List Follower) (least : Option ℕ) → IsLeastBelow objects (length objects) least
    → IsLeastLine objects least
all_below objects None i = λ v on. i v (inside objects v on.0 on.2) on
all_below objects (Some line) i = ((i.0.0, i.0.2, i.0.3), λ v on. i.1 v (inside objects v on.0 on.2) on)

-- the line of an object of the list
pub line_at : (objects : List Follower) (v : ℕ) (f : Follower) → v < length objects → f ≡ get_or objects v f
    → line_of objects v ≡ f.line
line_at objects v f low is =
    ap (λ o. option_map_or (λ (g : Follower). g.line) o 0) (slice_get_read objects (length objects) v f refl low is)
