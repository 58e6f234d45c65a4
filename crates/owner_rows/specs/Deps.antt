-- What the row of a dependency tells of the events of one workstation.
use Rattle.std.specs.List.{list_any}
use Rattle.std.specs.Option.{option_map_or}
use Rattle.std.specs.Prelude.{ℕ, ◌≡◌, Bool, List, Option, false, option_and_then}
use Rattle.model.specs.Types.{Body, Obj}
use Rattle.model.specs.Facts.{commands, is_fulfilled, is_late, is_until_recorded, obeyed_command}
use Rattle.model.specs.Facts.{own_reply, own_reply_in}
use Rattle.owner_rows.specs.Objects.{deletes}
use Rattle.owner_rows.specs.Subjects.{object_number}
use Rattle.owner_rows.specs.declared.deps.DepRow.{DepRow}

-- the row of dependency i of the object tells these events
pub record IsDepRow (events : List Body) (o : Obj) (i : ℕ) (r : DepRow) : Type 0 where
  pub reply : r.reply ≡ own_reply o i events
  pub fulfilled : r.fulfilled ≡ is_fulfilled o i events
  pub recorded : r.recorded ≡ is_until_recorded o i events
  pub late : r.late ≡ is_late o i events
  pub deleted : r.deleted ≡ list_any (deletes o i) (commands events)

-- the same by its numbers in the tables
abbrev pub IsRowOfDep : List Body → ℕ × ℕ → DepRow → Type 0
IsRowOfDep events q r = (o : Obj) → object_number o ≡ q.0 → IsDepRow events o q.1 r

-- the reply that a body has
abbrev pub reply_said : Obj → ℕ → Body → Option (Option Bool)
reply_said o i b = option_and_then (own_reply_in o i) (obeyed_command b)

-- the body deletes the dependency
abbrev pub deleted_by : Obj → ℕ → Body → Bool
deleted_by o i b = option_map_or (deletes o i) (obeyed_command b) false
