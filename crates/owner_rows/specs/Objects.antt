-- What the row of an object tells of the events of one workstation.
use Rattle.std.specs.List.{list_any}
use Rattle.std.specs.Option.{option_map_or, IfSome}
use Rattle.std.specs.Prelude.{ℕ, ◌&&◌, ◌+◌, ◌==◌, ◌||◌, ◌≡◌, ◌≤◌, Bool, List, None, Option, Some, false}
use Rattle.std.specs.Prelude.{flat_map, length, nat_le, unwrap_or, option_and_then}
use Rattle.model.specs.Types.{Body, Cmd, DelDep, Obj, Release}
use Rattle.model.specs.Equalities.{obj_eq}
use Rattle.model.specs.Facts.{commands, is_cancel_of, is_cancelled, is_cancelling, is_ever_late, obeyed_command, priority}
use Rattle.model.specs.Facts.{priority_in}
use Rattle.model.specs.Dependencies.{deps_added_by, is_waived_by}
use Rattle.owner_rows.specs.Subjects.{object_number}
use Rattle.owner_rows.specs.declared.objects.ObjectRow.{ObjectRow}

-- a command waives dependency i of the object by its number
abbrev pub deletes : Obj → ℕ → Cmd → Bool
deletes o i (DelDep p k) = obj_eq o p && (k == i)
deletes o i _ = false

-- a command releases the object from its dependencies
abbrev pub frees : Obj → Cmd → Bool
frees o (Release p) = obj_eq o p
frees o _ = false

-- a dependency that stands before a release, where so many are written and so many were added when it came
abbrev pub is_behind : ℕ → ℕ → Option ℕ → Bool
is_behind i written None = false
is_behind i written (Some added) = nat_le i (written + added)

-- how many dependencies commands added
abbrev pub added : Obj → List Body → ℕ
added o events = length (flat_map (deps_added_by o) (commands events))

-- the row of the object tells these events
pub record IsObjectRow (events : List Body) (o : Obj) (r : ObjectRow) : Type 0 where
  pub cancelled : r.cancelled ≡ is_cancelled o events
  pub late : r.late ≡ is_ever_late o events
  pub priority : (written : ℕ) → unwrap_or r.priority written ≡ priority o written events
  pub added : r.added ≡ added o events
  pub freed : IfSome r.freed (λ n. n ≤ r.added)
  pub waived : (i written : ℕ) →
      is_waived_by o i written (commands events)
      ≡ (list_any (deletes o i) (commands events) || is_behind i written r.freed)

-- the priority that a body sets for the object
abbrev pub priority_said : Obj → Body → Option ℕ
priority_said o b = option_and_then (priority_in o) (obeyed_command b)

-- how many dependencies a body adds to the object
abbrev pub adds : Obj → Body → ℕ
adds o b = option_map_or (λ c. length (deps_added_by o c)) (obeyed_command b) 0

-- the body releases the object from its dependencies
abbrev pub frees_by : Obj → Body → Bool
frees_by o b = option_map_or (frees o) (obeyed_command b) false

-- the body cancels the object
abbrev pub cancels : Obj → Body → Bool
cancels o b = option_map_or (is_cancel_of o) (obeyed_command b) false || is_cancelling o b

-- the same by its number in the tables
abbrev pub IsRowOfObject : List Body → ℕ → ObjectRow → Type 0
IsRowOfObject events n r = (o : Obj) → object_number o ≡ n → IsObjectRow events o r
