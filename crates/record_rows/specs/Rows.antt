-- The table of lines: which row a line is.
use Rattle.std.specs.Prelude.{ℕ, ◌==◌, ◌||◌, Bool, true, false, List, [], ◌∷◌, Option, Some, None, codes, length}
use Rattle.std.specs.Prelude.{map, option_map, slice_index, unwrap_or, if◌then◌else◌}
use Rattle.base_types.specs.declared.network.Carry.{Carry}
use Rattle.base_types.specs.declared.network.Carry.TheVariants as carry
use Rattle.syntax.specs.Names.{name_of}
use Rattle.syntax.specs.Splits.{first_word, after_word, words_of, lines_of}
use Rattle.record_rows.specs.Words.{◌>>=◌, ◌is◌, up_to, text_of}
use Rattle.record_rows.specs.Plans.{stream_of, job_of, part_of, dep_of}
use Rattle.record_rows.specs.Steps.{step_of}
use Rattle.record_rows.specs.declared.rows.Row.{Row}
use Rattle.record_rows.specs.declared.rows.Row.TheVariants as row

-- headers, which are the whole line
abbrev pub header_of : List ℕ → Option Row
header_of text =
    if text is codes "$NETWORK" then Some row.Network else
    if text is codes "$DEFINITIONS" then Some row.Definitions else
    if text is codes "$PLAN" then Some row.Plan else
    if text is codes "$STEPS" then Some row.Steps else None

-- The lines of a network.

-- `manager`, `on`
abbrev pub flag_of : List ℕ → Option (Bool × Bool)
flag_of word =
    if word is codes "manager" then Some (true, false) else (if word is codes "on" then Some (false, true) else None)

-- `[manager] [on]`
unfoldable pub flags_of : List (List ℕ) → Option (Bool × Bool)
flags_of [] = Some (false, false)
flags_of (a ∷ []) = flag_of a
flags_of (a ∷ b ∷ []) = if a is codes "manager" then (if b is codes "on" then Some (true, true) else None) else None
flags_of words = None

-- `ws NAME`, `ws NAME HOP [manager] [on]`
unfoldable pub station_of : List (List ℕ) → Option Row
station_of (name ∷ []) = option_map row.Master (name_of name)
station_of (name ∷ hop ∷ rest) =
    name_of name >>= λ n. name_of hop >>= λ h. flags_of rest >>= λ f.
    Some (row.Station (record { name = n; hop = h; manager = f.0; full = f.1 }))
station_of words = None

-- `res WS NAME TOTAL`
unfoldable pub resource_of : List (List ℕ) → Option Row
resource_of (ws ∷ name ∷ total ∷ []) =
    name_of ws >>= λ w. name_of name >>= λ n. up_to 1024 total >>= λ t. Some (row.Resource w n t)
resource_of words = None

-- `prompt NAME "TEXT"`
unfoldable pub prompt_of : List ℕ → Option Row
prompt_of rest = name_of (first_word rest) >>= λ n. option_map (row.Prompt n) (text_of (after_word rest))

-- `carryforward yes`, `carryforward no`, `carryforward all`
abbrev pub carry_of : List ℕ → Option Carry
carry_of rest =
    if rest is codes "yes" then Some carry.Yes else
    if rest is codes "no" then Some carry.No else
    if rest is codes "all" then Some carry.All else None

unfoldable pub network_row : List ℕ → List ℕ → Option Row
network_row word rest =
    if word is codes "ws" then station_of (words_of rest) else
    if word is codes "res" then resource_of (words_of rest) else
    if word is codes "prompt" then prompt_of rest else
    if word is codes "carryforward" then option_map row.CarryForward (carry_of rest) else None

-- the lines of a plan
unfoldable pub plan_row : List ℕ → List ℕ → Option Row
plan_row word rest =
    if word is codes "stream" then option_map row.Stream (stream_of (words_of rest)) else
    if word is codes "job" then option_map row.Job (job_of (words_of rest)) else None

-- the first row that is there
infixr 5 ◌else_◌
abbrev pub ◌else_◌ : Option Row → Option Row → Option Row
(Some r) else_ o = Some r
None else_ o = o

-- The lines that are no headers. Each is known by its first word, which stands in one of these tables alone.
unfoldable pub form_below : List ℕ → Option Row
form_below text =
    network_row (first_word text) (after_word text)
    else_ plan_row (first_word text) (after_word text)
    else_ option_map row.Part (part_of (first_word text) (after_word text))
    else_ option_map row.Dep (dep_of (first_word text) (after_word text))
    else_ option_map row.Step (step_of text)

-- all lines that have a form
unfoldable pub form_of : List ℕ → Option Row
form_of text = header_of text else_ form_below text

-- an empty line, or a comment, whose first byte is `#`
abbrev pub is_skipped : List ℕ → Bool
is_skipped text = length text == 0 || slice_index text 0 == 35

unfoldable pub row_of : List ℕ → Row
row_of text = if is_skipped text then row.Skipped else unwrap_or (form_of text) row.NoForm

-- a row for each line of a text
abbrev pub rows_of : List ℕ → List Row
rows_of text = map row_of (lines_of text)
