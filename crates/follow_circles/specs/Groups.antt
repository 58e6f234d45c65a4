-- Numbers of groups that never rise along a way, so that a circle stays within one.
use Rattle.std.specs.Prelude.{◌≡◌, ℕ, ◌<◌, ◌≤◌, Bool, true, ◌==◌, nat_lt, List, length, Contains, Option, Some, None, slice_index}
use Rattle.std.specs.List.{list_any}
use Rattle.follow_circles.specs.Circles.{follows_of, line_of}
use Rattle.follow_circles.specs.declared.circles.Follower.{Follower}

-- what an object follows has no greater group than the object
abbrev pub AreGroups : List Follower → List ℕ → Type 0
AreGroups objects groups =
    (v w : ℕ) → v < length objects → Contains (follows_of objects v) w → slice_index groups w ≤ slice_index groups v

-- an object follows one of its own group
abbrev pub stays : List Follower → List ℕ → ℕ → Bool
stays objects groups v = list_any (λ w. slice_index groups w == slice_index groups v) (follows_of objects v)

-- a line below that of one that may be there
abbrev pub is_less : List Follower → ℕ → Option ℕ → Bool
is_less objects v None = true
is_less objects v (Some other) = nat_lt (line_of objects v) (line_of objects other)

-- one of the least line among these, and none where there is none
abbrev pub IsLeastWithin : List Follower → List ℕ → Option ℕ → Type 0
IsLeastWithin objects groups None = (v : ℕ) → v < length objects → stays objects groups v ≡ true → ⊥
IsLeastWithin objects groups (Some v) =
    (stays objects groups v ≡ true)
    × ((w : ℕ) → w < length objects → stays objects groups w ≡ true → line_of objects v ≤ line_of objects w)
