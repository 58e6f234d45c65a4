-- Streams and their entries.
use Rattle.std.specs.Prelude.{ℕ, Bool, true, false, ◌==◌, if◌then◌else◌, List, [], ◌++◌, codes, map, flat_map, Option, Some, None}
use Rattle.std.specs.Fmt.{decimal}
use Rattle.composer_parser.specs.declared.definitions.Lined.{Lined}
use Rattle.composer_parser.specs.declared.definitions.WorkDef.{WorkDef}
use Rattle.composer_parser.specs.declared.schedules.OnItem.{OnItem}
use Rattle.composer_parser.specs.declared.schedules.OnItem.TheVariants.{Weekday, EveryDay, Weekdays, Workdays, FreeDays, Request, Date, Rule, Calendar}
use Rattle.composer_parser.specs.declared.schedules.OnDef.{OnDef}
use Rattle.composer_parser.specs.declared.schedules.Shift.{Shift}
use Rattle.composer_parser.specs.declared.schedules.Shift.TheVariants.{Ignore, Next, Prev}
use Rattle.composer_parser.specs.declared.schedules.Offset.{Offset}
use Rattle.composer_parser.specs.declared.schedules.OffsetUnit.{OffsetUnit}
use Rattle.composer_parser.specs.declared.schedules.OffsetUnit.TheVariants as unit
use Rattle.composer_parser.specs.declared.schedules.CycleDef.{CycleDef}
use Rattle.composer_parser.specs.declared.schedules.FreeDef.{FreeDef}
use Rattle.composer_parser.specs.declared.schedules.EntryDef.{EntryDef}
use Rattle.composer_parser.specs.declared.schedules.ScheduleDef.{ScheduleDef}
use Rattle.composer_print.specs.Texts.{texts_from}
use Rattle.syntax.specs.Quotes.{quoted_text}
use Rattle.composer_print.specs.Days.{date_text}
use Rattle.composer_print.specs.Works.{work_text}
use Rattle.composer_print.specs.Clauses.{name_text, clauses_text}

-- MO to SU, and nothing for a number that is no day's of the week
unfoldable pub weekday_text : ℕ → List ℕ
weekday_text n =
    if n == 0 then codes "MO" else
    if n == 1 then codes "TU" else
    if n == 2 then codes "WE" else
    if n == 3 then codes "TH" else
    if n == 4 then codes "FR" else
    if n == 5 then codes "SA" else
    if n == 6 then codes "SU" else []

-- (+n | -n) (DAYS|WEEKDAYS|WORKDAYS)
abbrev pub sign_text : Bool → List ℕ
sign_text true = codes " +"
sign_text false = codes " -"

abbrev pub unit_text : OffsetUnit → List ℕ
unit_text unit.Days = codes " DAYS"
unit_text unit.Weekdays = codes " WEEKDAYS"
unit_text unit.Workdays = codes " WORKDAYS"

unfoldable pub offset_text : Option Offset → List ℕ
offset_text None = []
offset_text (Some o) = sign_text o.plus ++ decimal o.n ++ unit_text o.unit

-- days on which a stream runs
unfoldable pub item_text : OnItem → List ℕ
item_text (Weekday n) = weekday_text n
item_text EveryDay = codes "EVERYDAY"
item_text Weekdays = codes "WEEKDAYS"
item_text Workdays = codes "WORKDAYS"
item_text FreeDays = codes "FREEDAYS"
item_text Request = codes "REQUEST"
item_text (Date day) = date_text day
item_text (Rule v) = quoted_text v
item_text (Calendar n o) = n ++ offset_text o

unfoldable pub from_text : Option ℕ → List ℕ
from_text None = []
from_text (Some day) = codes " VALIDFROM " ++ date_text day

unfoldable pub to_text : Option ℕ → List ℕ
to_text None = []
to_text (Some day) = codes " VALIDTO " ++ date_text day

-- [RUNCYCLE name [VALIDFROM date] [VALIDTO date]]
unfoldable pub cycle_text : Option CycleDef → List ℕ
cycle_text None = []
cycle_text (Some c) = codes " RUNCYCLE " ++ c.name ++ from_text c.first ++ to_text c.last

-- [FDIGNORE | FDNEXT | FDPREV]
unfoldable pub shift_text : Option Shift → List ℕ
shift_text None = []
shift_text (Some Ignore) = codes " FDIGNORE"
shift_text (Some Next) = codes " FDNEXT"
shift_text (Some Prev) = codes " FDPREV"

abbrev pub on_word : Bool → List ℕ
on_word true = codes " EXCEPT"
on_word false = codes " ON"

-- (ON | EXCEPT) [RUNCYCLE ..] item [, item]... [FDIGNORE | FDNEXT | FDPREV]
unfoldable pub on_text : OnDef → List ℕ
on_text o =
    on_word o.except ++ cycle_text o.cycle ++ texts_from (codes ", ") (codes " ") false (map item_text o.items)
    ++ shift_text o.shift

-- [FREEDAYS name [-SA] [-SU]]
abbrev pub flag_text : Bool → List ℕ → List ℕ
flag_text true text = text
flag_text false text = []

unfoldable pub free_text : Option FreeDef → List ℕ
free_text None = []
free_text (Some f) = codes " FREEDAYS " ++ f.name ++ flag_text f.minus_sa (codes " -SA") ++ flag_text f.minus_su (codes " -SU")

unfoldable pub own_work_text : Option WorkDef → List ℕ
own_work_text None = []
own_work_text (Some w) = work_text w

abbrev pub items : {A : Type 0} → List (Lined A) → List A
items ls = map (λ l. l.item) ls

-- [ws#]name [work] clause...
unfoldable pub entry_line : EntryDef → List ℕ
entry_line e = name_text e.ws e.name ++ own_work_text e.work ++ clauses_text (items e.clauses) ++ codes "\n"

-- SCHEDULE [ws#]name [FREEDAYS ..] on... clause... :
unfoldable pub header_line : ScheduleDef → List ℕ
header_line s =
    codes "SCHEDULE " ++ name_text s.ws s.name ++ free_text s.free ++ flat_map on_text (items s.ons)
    ++ clauses_text (items s.clauses) ++ codes " :\n"

-- a line for each entry, and END
unfoldable pub entry_lines : List EntryDef → List ℕ
entry_lines es = flat_map entry_line es ++ codes "END\n"

unfoldable pub schedule_lines : ScheduleDef → List ℕ
schedule_lines s = header_line s ++ entry_lines (items s.entries)
