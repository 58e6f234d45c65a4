-- What is marked where the follows of all that is marked are marked too.
use Rattle.std.proofs.Common.{◌≡◌, ℕ, ◌<◌, List, [], ◌∷◌, Contains, length, subst, sym}
use Rattle.follow_circles.specs.Circles.{follows_of, IsWay, IsOnCircle}
use Rattle.follow_circles.specs.Reached.{IsMarked}
use Rattle.follow_circles.specs.declared.asking.Reached.{Reached}
use Rattle.follow_circles.specs.declared.circles.Follower.{Follower}
use Rattle.follow_circles.proofs.Downs.{inside}

-- an object from which a way leads to an object is one itself
begins_inside : (objects : List Follower) (x : ℕ) (more : List ℕ) (w : ℕ) → IsWay objects x more w
    → w < length objects → x < length objects
begins_inside objects x [] w way low = subst (λ (n : ℕ). n < length objects) (sym way) low
begins_inside objects x (y ∷ more) w way low = inside objects x y way.0

module _ (objects : List Follower) (r : Reached)
    (closed : (u w : ℕ) → IsMarked r u → w < length objects → Contains (follows_of objects u) w → IsMarked r w) where
  along : (x : ℕ) (more : List ℕ) (w : ℕ) → IsMarked r x → w < length objects → IsWay objects x more w → IsMarked r w
  along x [] w here low way = subst (λ (n : ℕ). IsMarked r n) way here
  along x (y ∷ more) w here low way =
      along y more w (closed x y here (begins_inside objects y more w way.1 low) way.0) low way.1

  -- an object on a circle is marked where all that it follows is
  pub on_circle : (v : ℕ) → v < length objects
      → ((w : ℕ) → w < length objects → Contains (follows_of objects v) w → IsMarked r w)
      → IsOnCircle objects v → IsMarked r v
  on_circle v low begun on =
      along on.0 on.1 v (begun on.0 (begins_inside objects on.0 on.1 v on.3 low) on.2) low on.3
