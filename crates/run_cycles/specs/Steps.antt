-- Offsets of calendars as steps.
use Rattle.std.specs.Prelude.{true, Option, Some, None}
use Rattle.calendars.specs.declared.DayKind.TheVariants.{Days}
use Rattle.composer_parser.specs.declared.Offset.{Offset}
use Rattle.day_counts.specs.declared.Step.{Step}
use Rattle.run_cycles.specs.Items.{kind_of}

-- from a date to the day that it gives: without an offset to itself
abbrev pub step_of : Option Offset → Step
step_of None = record { plus = true; n = 0; kind = Days }
step_of (Some o) = record { plus = o.plus; n = o.n; kind = kind_of o.unit }
