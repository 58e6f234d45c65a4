-- Whether the time of a dependency is reached between two readings of a clock.
use Rattle.std.specs.List.{list_any}
use Rattle.std.specs.Prelude.{ℕ, ◌&&◌, Bool, List, filter_map, flat_map, nat_le, nat_lt}
use Rattle.model.specs.Types.{Obj}
use Rattle.model.specs.History.{View}
use Rattle.model.specs.Dependencies.{NumberedDep, unwaived_deps}
use Rattle.model.specs.Turn.{dep_time}

-- a time is reached: it lies above now and at most at t
abbrev pub is_reached : ℕ → ℕ → ℕ → Bool
is_reached now t u = nat_lt now u && nat_le u t

-- that of one of these dependencies is
abbrev pub is_any_reached : ℕ → ℕ → List NumberedDep → Bool
is_any_reached now t ps = list_any (is_reached now t) (filter_map (λ (p : NumberedDep). dep_time p.dep) ps)

-- that of a dependency of one of these objects is, which is not waived
abbrev pub is_any_reached_of : View → ℕ → ℕ → List Obj → Bool
is_any_reached_of V now t objects = is_any_reached now t (flat_map (unwaived_deps V) objects)
