-- The lines of the network: what stands above `$HISTORY`.
use Rattle.std.specs.Prelude.{ℕ, ◌++◌, ◌||◌, ◌∷◌, [], Bool, List, Option, Some, None, Result, Ok, Err, codes, flat_map, take}
use Rattle.std.specs.Prelude.{if◌then◌else◌}
use Rattle.std.specs.List.{position}
use Rattle.std.specs.Str.{bytes_eq}
use Rattle.base_types.specs.declared.Net.{Net}
use Rattle.record_faults.specs.declared.kinds.ScriptKind.{ScriptKind}
use Rattle.record_script.specs.declared.scripts.Script.{Script}
use Rattle.record_script.specs.Scripts.{read_of}
use Rattle.history_script.specs.declared.histories.HistoryKind.{HistoryKind}
use Rattle.history_script.specs.declared.histories.HistoryKind.TheVariants.{OfRecord}

-- the line `$HISTORY`
abbrev pub is_history : List ℕ → Bool
is_history line = bytes_eq line (codes "$HISTORY")

-- the place of the first of them, from 0
abbrev pub history_place : List (List ℕ) → Option ℕ
history_place lines = position is_history lines

-- the headers that stand in records, and not in histories
abbrev pub is_foreign : List ℕ → Bool
is_foreign line =
    bytes_eq line (codes "$DEFINITIONS") || (bytes_eq line (codes "$PLAN") || bytes_eq line (codes "$STEPS"))

-- In their place stands `$`, which has no form in a record.
abbrev pub as_in_record : List ℕ → List ℕ
as_in_record line = if is_foreign line then codes "$" else line

abbrev pub record_line : List ℕ → List ℕ
record_line line = as_in_record line ++ 10 ∷ []

-- The record with the same network: the same lines up to `$HISTORY`, in whose place `$STEPS` stands. Where it is missing,
-- so is `$STEPS`.
unfoldable pub record_text : Option ℕ → List (List ℕ) → List ℕ
record_text None lines = flat_map record_line lines
record_text (Some place) lines = flat_map record_line (take place lines) ++ codes "$STEPS\n"

-- a line and the kind of its fault
abbrev pub At : Type 0
At = ℕ × HistoryKind

-- the network of a record, and its fault as one of a history
abbrev pub net_or_fault : Result Script (ℕ × ScriptKind) → Result Net At
net_or_fault (Ok s) = Ok s.net
net_or_fault (Err f) = Err (f.0, OfRecord f.1)

-- the network of a history by its lines, or their first fault
unfoldable pub network_of : Option ℕ → List (List ℕ) → Result Net At
network_of place lines = net_or_fault (read_of (record_text place lines))
