use Rattle.std.proofs.Common.{◌≡◌, ℕ, List, bytes_eq, drop, map}
use Rattle.std.specs.List.{position_from}
use Rattle.composer_parser.specs.declared.CalendarDef.{CalendarDef}
use Rattle.composer_parser.specs.declared.Lined.{Lined}
use Rattle.workload_defs.specs.Tables.{number_in}
use Rattle.workload_defs.proofs.days.calendar_table.Given as goal

abbrev pub invariant-loop-i : goal.invariant-loop-i
invariant-loop-i l =
    (name : List ℕ) → number_in l.table.entries name
    ≡ position_from (bytes_eq name) l.i (map (λ (c : Lined CalendarDef). c.item.name) (drop l.i l.calendars))
