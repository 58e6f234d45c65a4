use Rattle.std.proofs.Common.{◌≡◌, map, take}
use Rattle.composer_parser.specs.declared.Lined.{Lined}
use Rattle.composer_parser.specs.declared.CalendarDef.{CalendarDef}
use Rattle.definition_names.specs.Keys.{seen}
use Rattle.definition_names.proofs.keys.calendar_names.Given as goal

abbrev pub invariant-loop-calendar : goal.invariant-loop-calendar
invariant-loop-calendar l =
    map seen l.names.items ≡ map (λ (x : Lined CalendarDef). x.item.name) (take l.calendar-index l.calendars)
