-- Along a way the groups do not rise, so a circle stays within one.
use Rattle.std.proofs.Common.{◌≡◌, ℕ, zero, suc, ◌<◌, ◌≤◌, ◌||◌, Bool, true, false, List, [], ◌∷◌, Contains, Some, None}
use Rattle.std.proofs.Common.{length, refl, ap, subst, arith, ◌∙◌, eq-eqb}
use Rattle.std.proofs.lemmas.Bool.Decides.{nat_tests}
use Rattle.std.proofs.lemmas.Option.{slice_get_past}
use Rattle.std.specs.Prelude.{◌==◌, nat_lt, slice_index, slice_index_or}
use Rattle.std.specs.List.{list_any}
use Rattle.std.specs.Option.{option_map_or}
use Rattle.lemmas.proofs.Booleans.{or_true}
use Rattle.follow_circles.specs.Circles.{follows_of, line_of, IsWay, IsOnCircle, IsLeastLine}
use Rattle.follow_circles.specs.Groups.{AreGroups, stays, IsLeastWithin}
use Rattle.follow_circles.specs.declared.circles.Follower.{Follower}

-- past the end nothing is followed
absent : (objects : List Follower) (v x : ℕ) → length objects ≤ v → Contains (follows_of objects v) x → ⊥
absent objects v x far c =
    let none : follows_of objects v ≡ [] =
    ap (λ o. option_map_or (λ (f : Follower). f.follows) o []) (slice_get_past objects v far) in
    let few : c.0 < 0 = subst (λ (l : List ℕ). c.0 < length l) none c.1 in
    omega (arith, few)

pub inside : (objects : List Follower) (v x : ℕ) → Contains (follows_of objects v) x → v < length objects
inside objects v x c = go (nat_lt v (length objects)) refl
  where
    go : (b : Bool) → nat_lt v (length objects) ≡ b → v < length objects
    go true h = grind (arith, nat_tests)
    go false h = absurd (absent objects v x (grind (arith, nat_tests)) c)

down : (objects : List Follower) (groups : List ℕ) → AreGroups objects groups → (v : ℕ) (more : List ℕ) (w : ℕ)
    → IsWay objects v more w → slice_index groups w ≤ slice_index groups v
down objects groups g v [] w way =
    let same : slice_index groups v ≤ slice_index groups v = omega arith in
    subst (λ (n : ℕ). slice_index groups n ≤ slice_index groups v) way same
down objects groups g v (x ∷ more) w way =
    let first : slice_index groups x ≤ slice_index groups v = g v x (inside objects v x way.0) way.0 in
    let rest : slice_index groups w ≤ slice_index groups x = down objects groups g x more w way.1 in
    omega (arith, first, rest)

any_at : (p : ℕ → Bool) (ys : List ℕ) (k d : ℕ) → k < length ys → p (slice_index_or ys k d) ≡ true → list_any p ys ≡ true
any_at p [] k d low t = absurd (omega (arith, low))
any_at p (y ∷ ys) zero d low t = ap (λ b. b || list_any p ys) t
any_at p (y ∷ ys) (suc k) d low t =
    let further : k < length ys = omega (arith, low) in
    ap (λ b. p y || b) (any_at p ys k d further t) ∙ or_true (p y)

-- an object on a circle follows one of its own group
pub stays_on : (objects : List Follower) (groups : List ℕ) → AreGroups objects groups → (v : ℕ) → IsOnCircle objects v
    → stays objects groups v ≡ true
stays_on objects groups g v on =
    let there : slice_index groups on.0 ≤ slice_index groups v = g v on.0 (inside objects v on.0 on.2) on.2 in
    let back : slice_index groups v ≤ slice_index groups on.0 = down objects groups g on.0 on.1 v on.3 in
    let one : slice_index groups on.0 ≡ slice_index groups v = omega (arith, there, back) in
    any_at (λ w. slice_index groups w == slice_index groups v) (follows_of objects v) on.2.0 on.0 on.2.1
    (ap (λ (n : ℕ). slice_index groups n == slice_index groups v) on.2.2
    ∙ eq-eqb (slice_index groups on.0) (slice_index groups v) one)

-- so where none does there is no circle
pub no_line : (objects : List Follower) (groups : List ℕ) → AreGroups objects groups
    → IsLeastWithin objects groups None → IsLeastLine objects None
no_line objects groups g none v on = none v (inside objects v on.0 on.2) (stays_on objects groups g v on)

-- and the one of the least line that does, where it is on a circle, has the least line of all
pub one_line : (objects : List Follower) (groups : List ℕ) (v : ℕ) → AreGroups objects groups
    → IsLeastWithin objects groups (Some v) → IsOnCircle objects v → IsLeastLine objects (Some (line_of objects v))
one_line objects groups v g least on =
    ((v, on, refl), λ w other. least.1 w (inside objects w other.0 other.2) (stays_on objects groups g w other))
