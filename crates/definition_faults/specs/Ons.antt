-- The faults of ON and EXCEPT.
use Rattle.std.specs.Prelude.{ℕ, Bool, false, ◌||◌, not, nat_lt, List, [], ◌∷◌, is_some, flat_map}
use Rattle.std.specs.List.{list_any}
use Rattle.std.specs.Option.{option_map_or}
use Rattle.composer_parser.specs.declared.Lined.{Lined}
use Rattle.composer_parser.specs.declared.Defs.{Defs}
use Rattle.composer_parser.specs.declared.CycleDef.{CycleDef}
use Rattle.composer_parser.specs.declared.Offset.{Offset}
use Rattle.composer_parser.specs.declared.OnDef.{OnDef}
use Rattle.composer_parser.specs.declared.OnItem.{OnItem}
use Rattle.composer_parser.specs.declared.OnItem.TheVariants.{Weekday, EveryDay, Weekdays, Workdays, FreeDays}
use Rattle.composer_parser.specs.declared.OnItem.TheVariants.{Request, Date, Rule, Calendar}
use Rattle.run_rules.specs.Ranges.{is_in_range}
use Rattle.definition_faults.specs.Orders.{faults_at}
use Rattle.definition_faults.specs.Unknown.{is_unknown_calendar}
use Rattle.definition_faults.specs.declared.kinds.Kind.{Kind}
use Rattle.definition_faults.specs.declared.kinds.Kind.TheVariants.{UnknownName, OutOfRange}
use Rattle.definition_faults.specs.declared.kinds.Fault.{Fault}

-- a name that is no calendar
abbrev pub is_unknown_item : Defs → OnItem → Bool
is_unknown_item d (Calendar name offset) = is_unknown_calendar d name
is_unknown_item d (Weekday w) = false
is_unknown_item d EveryDay = false
is_unknown_item d Weekdays = false
is_unknown_item d Workdays = false
is_unknown_item d FreeDays = false
is_unknown_item d Request = false
is_unknown_item d (Date day) = false
is_unknown_item d (Rule rule) = false

-- a VALIDFROM is given
abbrev pub has_first : OnDef → Bool
has_first o = option_map_or (λ (c : CycleDef). is_some c.first) o.cycle false

-- the number of an offset is from 1 to 999
abbrev pub is_bad_offset : Offset → Bool
is_bad_offset o = nat_lt o.n 1 || nat_lt 999 o.n

-- a number of a rule or of an offset outside its range
abbrev pub is_bad_item : Bool → OnItem → Bool
is_bad_item first (Rule rule) = not (is_in_range rule first)
is_bad_item first (Calendar name offset) = option_map_or is_bad_offset offset false
is_bad_item first (Weekday w) = false
is_bad_item first EveryDay = false
is_bad_item first Weekdays = false
is_bad_item first Workdays = false
is_bad_item first FreeDays = false
is_bad_item first Request = false
is_bad_item first (Date day) = false

-- an ON or EXCEPT: its calendars, its numbers
abbrev pub on_rows : Defs → OnDef → List (Bool × Kind)
on_rows d o =
    (list_any (is_unknown_item d) o.items, UnknownName)
    ∷ (list_any (is_bad_item (has_first o)) o.items, OutOfRange)
    ∷ []

unfoldable pub on_faults : Defs → List (Lined OnDef) → List Fault
on_faults d ons = flat_map (λ (o : Lined OnDef). faults_at o.line (on_rows d o.item)) ons
