-- What a text is: a history, or its first fault.
use Rattle.std.specs.Prelude.{ℕ, ◌+◌, ◌++◌, ◌||◌, not, [], ◌∷◌, Bool, true, false, List, Option, Some, None, Result, Ok, Err}
use Rattle.std.specs.Prelude.{drop, filter_map, is_none, length, map, nat_lt, if◌then◌else◌}
use Rattle.std.specs.List.{list_any, position}
use Rattle.std.specs.Option.{option_map_or}
use Rattle.std.specs.Str.{bytes_eq}
use Rattle.entry_codec.specs.declared.EntryFault.{EntryFault}
use Rattle.entry_codec.specs.Entries.{entry_in}
use Rattle.model.specs.Network.{node_count}
use Rattle.model.specs.Types.{Entry, Net, Node, Start}
use Rattle.model.specs.Words.{first_of_these}
use Rattle.model.specs.Workstations.{ws_in_body, ws_in_feed}
use Rattle.entry_checks.specs.Inside.{are_inside}
use Rattle.record_faults.specs.declared.kinds.ScriptKind.TheVariants as kind
use Rattle.record_rows.specs.Ranges.{is_within}
use Rattle.record_rows.specs.Words.{◌>>=◌}
use Rattle.record_rows.specs.declared.rows.Ranged.{Ranged}
use Rattle.record_rows.specs.declared.rows.Ranged.TheVariants.{Within, OutOfRange}
use Rattle.syntax.specs.Splits.{lines_of}
use Rattle.history_script.specs.Fronts.{At, history_place, network_of}
use Rattle.history_script.specs.Rows.{row_of}
use Rattle.history_script.specs.declared.histories.HistoryKind.{HistoryKind}
use Rattle.history_script.specs.declared.histories.HistoryKind.TheVariants.{BadEntry, OfRecord}
use Rattle.history_script.specs.declared.histories.HistoryText.{HistoryText}
use Rattle.history_script.specs.declared.rows.HistoryRow.{HistoryRow}
use Rattle.history_script.specs.declared.rows.HistoryRow.TheVariants as row

-- Entries.

-- it names workstations of the network alone
abbrev pub is_inside : Net → Entry → Bool
is_inside net e = are_inside (node_count net) (ws_in_feed e.feed ++ ws_in_body e.body)

abbrev pub inside : Net → Entry → Option Entry
inside net e = if is_inside net e then Some e else None

abbrev pub found_inside : Net → Result Entry EntryFault → Option Entry
found_inside net (Ok e) = inside net e
found_inside net (Err fault) = None

-- the entry that bytes are, where it names workstations of the network alone
unfoldable pub entry_of : Net → List ℕ → Option Entry
entry_of net bytes = found_inside net (entry_in bytes)

abbrev pub entry_at : Net → HistoryRow → Option Entry
entry_at net (row.Entry bytes) = entry_of net bytes
entry_at net r = None

-- Starts.

-- the workstation of a name
abbrev pub ws_of : Net → List ℕ → Option ℕ
ws_of net name = position (λ (n : Node). bytes_eq n.name name) net.nodes

-- a number that is within its field
abbrev pub number_in : {A : Type 0} → Ranged A → Option A
number_in (Within n) = Some n
number_in OutOfRange = None

-- on a workstation that the network may lack
unfoldable pub start_on : Option ℕ → Ranged ℕ → Ranged ℕ → Option Start
start_on ws job number =
    ws >>= λ w. number_in job >>= λ j. number_in number >>= λ n. Some (record { ws = w; job = j; number = n })

abbrev pub start_at : Net → HistoryRow → Option Start
start_at net (row.Start name job number) = start_on (ws_of net name) job number
start_at net r = None

-- a start on a workstation of the network
abbrev pub is_start_inside : Net → Start → Bool
is_start_inside net s = nat_lt s.ws (node_count net)

abbrev pub is_start : HistoryRow → Bool
is_start (row.Start name job number) = true
is_start r = false

-- Faults.

abbrev pub bad_line : HistoryKind
bad_line = OfRecord kind.BadLine

-- BadLine: below a start. BadEntry: no entry's bytes, or an entry that names a workstation outside the network.
unfoldable pub entry_fault : Bool → Option Entry → Option HistoryKind
entry_fault below_start e = first_of_these ((below_start, bad_line) ∷ (is_none e, BadEntry) ∷ [])

-- UnknownName: the network lacks the workstation. OutOfRange: a number above its field.
unfoldable pub start_fault : Option ℕ → Ranged ℕ → Ranged ℕ → Option HistoryKind
start_fault ws job number =
    first_of_these
    ((is_none ws, OfRecord kind.UnknownName)
    ∷ (not (is_within job) || not (is_within number), OfRecord kind.OutOfRange) ∷ [])

-- BadLine: no form.
abbrev pub fault_of : Net → Bool → HistoryRow → Option HistoryKind
fault_of net below_start row.Skipped = None
fault_of net below_start row.NoForm = Some bad_line
fault_of net below_start (row.Entry bytes) = entry_fault below_start (entry_of net bytes)
fault_of net below_start (row.Start name job number) = start_fault (ws_of net name) job number

-- the lowest faulty row among those below these, by how many rows stand above it, and its first fault
abbrev pub fault_from : Net → List HistoryRow → List HistoryRow → Option (ℕ × HistoryKind)
fault_from net above [] = None
fault_from net above (r ∷ below) =
    option_map_or (λ k. Some (length above, k)) (fault_of net (list_any is_start above) r)
    (fault_from net (above ++ r ∷ []) below)

-- The text.

-- the lines behind `$HISTORY`, by its place, and the number of the first of them
abbrev pub lines_behind : Option ℕ → List (List ℕ) → List (List ℕ)
lines_behind None lines = []
lines_behind (Some place) lines = drop (place + 1) lines

abbrev pub line_behind : Option ℕ → ℕ
line_behind None = 1
line_behind (Some place) = place + 2

abbrev pub history_in : Net → List HistoryRow → HistoryText
history_in net rows =
    record { net = net; entries = filter_map (entry_at net) rows; starts = filter_map (start_at net) rows }

-- a network, and the rows behind it, the first of which stands on this line
abbrev pub with_rows : ℕ → List HistoryRow → Net → Result HistoryText At
with_rows line rows net =
    option_map_or (λ (f : ℕ × HistoryKind). Err (line + f.0, f.1)) (fault_from net [] rows) (Ok (history_in net rows))

-- what comes of a network, or its fault
abbrev pub and_then : {A B : Type 0} → Result A At → (A → Result B At) → Result B At
and_then (Ok a) f = f a
and_then (Err at_) f = Err at_

-- by the place of `$HISTORY` among the lines
abbrev pub read_lines : Option ℕ → List (List ℕ) → Result HistoryText At
read_lines place lines = and_then (network_of place lines) (with_rows (line_behind place) (map row_of (lines_behind place lines)))

-- The history that a text is, or its lowest faulty line and the first kind of its faults: a fault of the network is on a
-- lower line than those behind `$HISTORY`.
unfoldable pub read_of : List ℕ → Result HistoryText At
read_of text = read_lines (history_place (lines_of text)) (lines_of text)
