-- Objects that follow themselves, directly or through others.
use Rattle.std.specs.Prelude.{◌≡◌, ℕ, ◌≤◌, List, [], ◌∷◌, Contains, Option, Some, None, slice_get}
use Rattle.std.specs.Option.{option_map_or}
use Rattle.follow_circles.specs.declared.circles.Follower.{Follower}

-- the places that the object at a place follows
abbrev pub follows_of : List Follower → ℕ → List ℕ
follows_of objects v = option_map_or (λ (f : Follower). f.follows) (slice_get objects v) []

-- the line of the object at a place
abbrev pub line_of : List Follower → ℕ → ℕ
line_of objects v = option_map_or (λ (f : Follower). f.line) (slice_get objects v) 0

-- from one object over these others to a last one, each followed by the one before
abbrev pub IsWay : List Follower → ℕ → List ℕ → ℕ → Type 0
IsWay objects v [] w = v ≡ w
IsWay objects v (x ∷ more) w = Contains (follows_of objects v) x × IsWay objects x more w

-- the object follows one from which a way leads back to it
abbrev pub IsOnCircle : List Follower → ℕ → Type 0
IsOnCircle objects v = (x : ℕ) × (more : List ℕ) × Contains (follows_of objects v) x × IsWay objects x more v

-- the least line of the objects on circles, and none where there is none
abbrev pub IsLeastLine : List Follower → Option ℕ → Type 0
IsLeastLine objects None = (v : ℕ) → IsOnCircle objects v → ⊥
IsLeastLine objects (Some line) =
    ((v : ℕ) × IsOnCircle objects v × (line_of objects v ≡ line))
    × ((v : ℕ) → IsOnCircle objects v → line ≤ line_of objects v)
