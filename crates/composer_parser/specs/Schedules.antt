-- SCHEDULE.
use Rattle.std.specs.Prelude.{ℕ, Bool, true, false, List, [], codes, Option, Some, None}
use Rattle.composer_parser.specs.Kinds.{a_mark, a_scoped, a_rule, a_foreign_rule, Spelled}
use Rattle.composer_parser.specs.Grammars.{Grammar, one, left_out}
use Rattle.composer_parser.specs.Parts.{◌⊛◌, ◌⊲◌, ◌or◌, made, key, name, date, description, signed, bytes_of, ws_of, own_of, lined, dropped_mark, comma, with_commas, any_number}
use Rattle.composer_parser.specs.Works.{work}
use Rattle.composer_parser.specs.Clauses.{clauses}
use Rattle.composer_parser.specs.declared.definitions.Lined.{Lined}
use Rattle.composer_parser.specs.declared.clauses.Clause.{Clause}
use Rattle.composer_parser.specs.declared.schedules.OnItem.{OnItem}
use Rattle.composer_parser.specs.declared.schedules.OnItem.TheVariants.{Weekday, EveryDay, Weekdays, Workdays, FreeDays, Request, Date, Rule, Calendar}
use Rattle.composer_parser.specs.declared.schedules.OnDef.{OnDef}
use Rattle.composer_parser.specs.declared.schedules.Shift.{Shift}
use Rattle.composer_parser.specs.declared.schedules.Shift.TheVariants.{Ignore, Next, Prev}
use Rattle.composer_parser.specs.declared.schedules.Offset.{Offset}
use Rattle.composer_parser.specs.declared.schedules.OffsetUnit.{OffsetUnit}
use Rattle.composer_parser.specs.declared.schedules.OffsetUnit.TheVariants as unit
use Rattle.composer_parser.specs.declared.schedules.CycleDef.{CycleDef}
use Rattle.composer_parser.specs.declared.schedules.FreeDef.{FreeDef}
use Rattle.composer_parser.specs.declared.definitions.WorkDef.{WorkDef}
use Rattle.composer_parser.specs.declared.streams.Title.{Title}
use Rattle.composer_parser.specs.declared.schedules.EntryDef.{EntryDef}
use Rattle.composer_parser.specs.declared.schedules.ScheduleDef.{ScheduleDef}

-- name [(+n | -n) (DAYS|WEEKDAYS|WORKDAYS)]
unfoldable pub offset_unit : Grammar OffsetUnit
offset_unit =
    (made (λ x. unit.Days) ⊛ key (codes "DAYS")) or (made (λ x. unit.Weekdays) ⊛ key (codes "WEEKDAYS"))
    or (made (λ x. unit.Workdays) ⊛ key (codes "WORKDAYS"))

abbrev pub offset_of : Bool × ℕ → OffsetUnit → Offset
offset_of s u = record { plus = s.0; n = s.1; unit = u }

unfoldable pub offset : Grammar (Option Offset)
offset = (made (λ s u. Some (offset_of s u)) ⊛ signed ⊛ offset_unit) or made None

unfoldable pub calendar_item : Grammar OnItem
calendar_item = made Calendar ⊛ name ⊛ offset

-- MO|TU|WE|TH|FR|SA|SU
unfoldable pub weekday : Grammar OnItem
weekday =
    (made (λ x. Weekday 0) ⊛ key (codes "MO")) or (made (λ x. Weekday 1) ⊛ key (codes "TU"))
    or (made (λ x. Weekday 2) ⊛ key (codes "WE")) or (made (λ x. Weekday 3) ⊛ key (codes "TH"))
    or (made (λ x. Weekday 4) ⊛ key (codes "FR")) or (made (λ x. Weekday 5) ⊛ key (codes "SA"))
    or (made (λ x. Weekday 6) ⊛ key (codes "SU"))

-- EVERYDAY | WEEKDAYS | WORKDAYS | FREEDAYS | REQUEST
unfoldable pub days : Grammar OnItem
days =
    (made (λ x. EveryDay) ⊛ key (codes "EVERYDAY")) or (made (λ x. Weekdays) ⊛ key (codes "WEEKDAYS"))
    or (made (λ x. Workdays) ⊛ key (codes "WORKDAYS")) or (made (λ x. FreeDays) ⊛ key (codes "FREEDAYS"))
    or (made (λ x. Request) ⊛ key (codes "REQUEST"))

unfoldable pub rule : Grammar OnItem
rule = one a_rule (λ t. Rule (bytes_of t.shape)) or left_out a_foreign_rule

-- item = MO|TU|WE|TH|FR|SA|SU | EVERYDAY | WEEKDAYS | WORKDAYS | FREEDAYS | REQUEST | date
--      | name [(+n | -n) (DAYS|WEEKDAYS|WORKDAYS)] | rule
unfoldable pub item : Grammar OnItem
item = weekday or days or (made Date ⊛ date) or calendar_item or rule

unfoldable pub next_item : Grammar OnItem
next_item = made (λ x i. i) ⊛ comma ⊛ item

unfoldable pub items : Grammar (List OnItem)
items = with_commas item next_item

-- [RUNCYCLE name [VALIDFROM date] [VALIDTO date] [DESCRIPTION text]]
unfoldable pub valid_from : Grammar (Option ℕ)
valid_from = (made (λ x d. Some d) ⊛ key (codes "VALIDFROM") ⊛ date) or made None

unfoldable pub valid_to : Grammar (Option ℕ)
valid_to = (made (λ x d. Some d) ⊛ key (codes "VALIDTO") ⊛ date) or made None

abbrev pub cycle_of : ℕ → List ℕ → Option ℕ → Option ℕ → Option CycleDef
cycle_of x n first last = Some (record { name = n; first = first; last = last })

unfoldable pub cycle : Grammar (Option CycleDef)
cycle = (made cycle_of ⊛ key (codes "RUNCYCLE") ⊛ name ⊛ valid_from ⊛ valid_to ⊲ description) or made None

-- [FDIGNORE | FDNEXT | FDPREV]
unfoldable pub shift : Grammar (Option Shift)
shift =
    (made (λ x. Some Ignore) ⊛ key (codes "FDIGNORE")) or (made (λ x. Some Next) ⊛ key (codes "FDNEXT"))
    or (made (λ x. Some Prev) ⊛ key (codes "FDPREV")) or made None

-- a `(` behind the items or the shift is left out
unfoldable pub no_times : Grammar (Unit {0})
no_times = left_out (a_mark 40) or made tt

-- on = (ON | EXCEPT) [RUNCYCLE name ..] item [, item]... [FDIGNORE | FDNEXT | FDPREV]
abbrev pub on_of : Bool → ℕ → Option CycleDef → List OnItem → Option Shift → Lined OnDef
on_of except l c is s = lined l (record { except = except; cycle = c; items = is; shift = s })

unfoldable pub on_key : Grammar (Bool × ℕ)
on_key = (made (λ l. (false, l)) ⊛ key (codes "ON")) or (made (λ l. (true, l)) ⊛ key (codes "EXCEPT"))

unfoldable pub on : Grammar (Lined OnDef)
on = made (λ k c is s. on_of k.0 k.1 c is s) ⊛ on_key ⊛ cycle ⊛ items ⊛ shift ⊲ no_times

unfoldable pub ons : Grammar (List (Lined OnDef))
ons = any_number on

-- entry = [ws#]name [work] clause...
abbrev pub entry_of : Spelled → Option WorkDef → List (Lined Clause) → Lined EntryDef
entry_of t w cs =
    lined t.line (record { ws = ws_of (bytes_of t.shape); name = own_of (bytes_of t.shape); work = w; clauses = cs })

unfoldable pub own_work : Grammar (Option WorkDef)
own_work = (made Some ⊛ work) or made None

unfoldable pub entry : Grammar (Lined EntryDef)
entry = made entry_of ⊛ one a_scoped (λ t. t) ⊛ own_work ⊛ clauses false

unfoldable pub entries : Grammar (List (Lined EntryDef))
entries = any_number entry

-- [FREEDAYS name [-SA] [-SU]]
unfoldable pub minus_sa : Grammar Bool
minus_sa = (made (λ x. true) ⊛ key (codes "-SA")) or made false

unfoldable pub minus_su : Grammar Bool
minus_su = (made (λ x. true) ⊛ key (codes "-SU")) or made false

unfoldable pub free_days : Grammar (Option FreeDef)
free_days =
    (made (λ x n a u. Some (record { name = n; minus_sa = a; minus_su = u })) ⊛ key (codes "FREEDAYS") ⊛ name ⊛ minus_sa
    ⊛ minus_su) or made None

-- SCHEDULE [ws#]name [DESCRIPTION text] [FREEDAYS name [-SA] [-SU]]
abbrev pub title_of : ℕ → Spelled → Option FreeDef → Title
title_of l t f = record { line = l; ws = ws_of (bytes_of t.shape); name = own_of (bytes_of t.shape); free = f }

unfoldable pub title : Grammar Title
title =
    made title_of ⊛ key (codes "SCHEDULE") ⊛ one a_scoped (λ t. t) ⊲ description ⊛ free_days

-- SCHEDULE .. on... clause... :
abbrev pub header_of : Title → List (Lined OnDef) → List (Lined Clause) → Lined ScheduleDef
header_of t os cs =
    lined t.line (record { ws = t.ws; name = t.name; free = t.free; ons = os; clauses = cs; entries = [] })

unfoldable pub header : Grammar (Lined ScheduleDef)
header = made header_of ⊛ title ⊛ ons ⊛ clauses true ⊲ dropped_mark 58

-- schedule = SCHEDULE .. : entry... END
abbrev pub with_entries : Lined ScheduleDef → List (Lined EntryDef) → Lined ScheduleDef
with_entries s es = lined s.line (record s.item { entries = es })

unfoldable pub schedule : Grammar (Lined ScheduleDef)
schedule = made with_entries ⊛ header ⊛ entries ⊲ key (codes "END")
