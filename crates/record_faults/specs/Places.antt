-- The table of places: where a row may stand, by the rows above it.
use Rattle.std.specs.Prelude.{ℕ, ◌||◌, Bool, true, false, List, [], ◌∷◌, nat_lt, if◌then◌else◌}
use Rattle.record_rows.specs.declared.rows.Row.{Row}
use Rattle.record_rows.specs.declared.rows.Row.TheVariants as row
use Rattle.record_rows.specs.declared.rows.PartRow.{PartRow}
use Rattle.record_rows.specs.declared.rows.PartRow.TheVariants as part
use Rattle.record_rows.specs.declared.rows.StepRow.TheVariants as step
use Rattle.record_rows.specs.declared.rows.CutRow.TheVariants as cut
use Rattle.record_faults.specs.declared.places.JobPlace.{JobPlace}
use Rattle.record_faults.specs.declared.places.JobPlace.TheVariants as behind
use Rattle.record_faults.specs.declared.places.Place.{Place}
use Rattle.record_faults.specs.declared.places.Place.TheVariants as place
use Rattle.record_faults.specs.declared.places.Fate.{Fate}
use Rattle.record_faults.specs.declared.places.Fate.TheVariants as fate

-- the parts of a job: `do` or `script`, `logon`, `succ`, `recovery`, once each and in this order, before its dependencies
abbrev pub rank : JobPlace → ℕ
rank behind.Name = 0
rank behind.Work = 1
rank behind.Logon = 2
rank behind.Cond = 3
rank behind.Recovery = 4
rank behind.Deps = 5

-- what of a job stands last behind the part
abbrev pub behind_part : PartRow → JobPlace
behind_part (part.Command t) = behind.Work
behind_part (part.Script t) = behind.Work
behind_part (part.Logon t) = behind.Logon
behind_part (part.Cond t) = behind.Cond
behind_part (part.Recovery r) = behind.Recovery

-- headers that may follow a section
abbrev pub is_section : Row → Bool
is_section row.Plan = true
is_section row.Steps = true
is_section r = false

abbrev pub is_of_network : Row → Bool
is_of_network (row.Station s) = true
is_of_network (row.Resource w n t) = true
is_of_network (row.Prompt n t) = true
is_of_network (row.CarryForward c) = true
is_of_network r = false

abbrev pub is_stream : Row → Bool
is_stream (row.Stream s) = true
is_stream r = false

abbrev pub is_of_stream : Row → Bool
is_of_stream (row.Stream s) = true
is_of_stream (row.Job j) = true
is_of_stream (row.Dep d) = true
is_of_stream r = false

-- a part of a job that stands in its order
abbrev pub is_next_part : JobPlace → Row → Bool
is_next_part above (row.Part p) = nat_lt (rank above) (rank (behind_part p))
is_next_part above r = false

-- a step of a record with sections of plans: `next` has no date
abbrev pub is_step : Row → Bool
is_step (row.Step (step.NextDay d)) = false
is_step (row.Step (step.CrashIn w k (cut.NextDay d))) = false
is_step (row.Step s) = true
is_step r = false

-- a step of a record with definitions: `next` has a date
abbrev pub is_day_step : Row → Bool
is_day_step (row.Step step.Next) = false
is_day_step (row.Step (step.CrashIn w k cut.Next)) = false
is_day_step (row.Step s) = true
is_day_step r = false

-- what a record begins with
abbrev pub is_first : Row → Bool
is_first row.Network = true
is_first row.Definitions = true
is_first r = false

abbrev pub is_master : Row → Bool
is_master (row.Master n) = true
is_master r = false

-- Which rows may stand below these.
unfoldable pub may_stand : Place → Row → Bool
may_stand place.Nothing r = is_first r
may_stand place.Definitions r = true
may_stand place.Header r = is_master r
may_stand place.Network r = is_section r || is_of_network r
may_stand place.Plan r = is_section r || is_stream r
may_stand place.Stream r = is_section r || is_of_stream r
may_stand (place.Job last) r = is_section r || (is_of_stream r || is_next_part last r)
may_stand place.Steps r = is_step r
may_stand place.DaySteps r = is_day_step r

-- below `$DEFINITIONS`
abbrev pub are_definitions : Place → Bool
are_definitions place.Definitions = true
are_definitions above = false

-- An empty line or a comment, or a line of definitions, which end before `$STEPS`.
abbrev pub is_passed_over : Place → Row → Bool
is_passed_over above row.Skipped = true
is_passed_over above row.Steps = false
is_passed_over above r = are_definitions above

unfoldable pub fate_of : Place → Row → Fate
fate_of above r =
    if is_passed_over above r then fate.Skipped else (if may_stand above r then fate.Stands else fate.NoForm)

-- what the row is where it stands
abbrev pub settled : Fate → Row → Row
settled fate.Stands r = r
settled fate.Skipped r = row.Skipped
settled fate.NoForm r = row.NoForm

abbrev pub row_at : Place → Row → Row
row_at above r = settled (fate_of above r) r

-- a job's parts end at its first dependency
abbrev pub behind_dep : Place → Place
behind_dep (place.Job last) = place.Job behind.Deps
behind_dep above = above

abbrev pub steps_below : Place → Place
steps_below place.Definitions = place.DaySteps
steps_below above = place.Steps

-- what stands above the row that follows this one
unfoldable pub below_row : Place → Row → Place
below_row above row.Network = place.Header
below_row above row.Definitions = place.Definitions
below_row above (row.Master n) = place.Network
below_row above row.Plan = place.Plan
below_row above (row.Stream s) = place.Stream
below_row above (row.Job j) = place.Job behind.Name
below_row above (row.Part p) = place.Job (behind_part p)
below_row above (row.Dep d) = behind_dep above
below_row above row.Steps = steps_below above
below_row above r = above

-- the rows as they are below these
unfoldable pub placed_from : Place → List Row → List Row
placed_from above [] = []
placed_from above (r ∷ rows) = row_at above r ∷ placed_from (below_row above (row_at above r)) rows
