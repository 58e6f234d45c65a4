-- An object's dependency that equals another.
use Rattle.std.specs.Option.{option_map_or}
use Rattle.std.specs.Prelude.{ℕ, ◌&&◌, Bool, Option, false, find, not, option_map}
use Rattle.model.specs.Types.{Dep, Obj}
use Rattle.model.specs.Equalities.{dep_eq}
use Rattle.model.specs.History.{View}
use Rattle.model.specs.Dependencies.{NumberedDep, dep, is_waived, unwaived_deps}

-- the number of the first dependency of the object that equals this one and is not waived
unfoldable pub first_equal : View → Obj → Dep → Option ℕ
first_equal V o d =
    option_map (λ (p : NumberedDep). p.number) (find (λ (p : NumberedDep). dep_eq d p.dep) (unwaived_deps V o))

-- dependency i of the object equals this one, and is not waived
abbrev pub is_equal_at : View → Obj → Dep → ℕ → Bool
is_equal_at V o d i = option_map_or (λ found. dep_eq d found && not (is_waived V o i)) (dep V o i) false
