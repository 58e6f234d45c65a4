-- What the run of real nodes owes: the world that the run of the record reaches, or the line at which it stops.
use Rattle.std.specs.List.{list_all}
use Rattle.std.specs.Prelude.{◌≡◌, ℕ, Bool, IsTrue, List, not}
use Rattle.model.specs.Types.{Net}
use Rattle.model.specs.World as model
use Rattle.network_world.specs.Stations.{WorldState}
use Rattle.network_world.specs.Standing.{StandsFor}
use Rattle.record_script.specs.declared.Script.{Script}
use Rattle.record_script.specs.declared.ScriptStep.{ScriptStep}
use Rattle.record_runs.specs.Causes.{Cause, told}
use Rattle.record_runs.specs.Lines.{Day, asks_day}
use Rattle.record_script.specs.Inside.{is_inside}
use Rattle.record_runs.specs.Runs.{End, done, run_of, stopped}
use Rattle.record_runs.specs.declared.stops.Stop.{Stop}
use Rattle.record_runs.specs.declared.runs.RunEnd.{RunEnd}
use Rattle.record_runs.specs.declared.runs.RunEnd.TheVariants.{Done, Stopped}

-- the run of a script
abbrev pub run_of_script : Day → Script → End
run_of_script day script = run_of day script.net script.plans script.steps

-- each workstation that a line names by its number is one of the network
abbrev pub AreLinesInside : Net → List ScriptStep → Type 0
AreLinesInside net lines = IsTrue (list_all (is_inside net) lines)

-- no line asks for the drafts of a day
abbrev pub asks_no_day : ScriptStep → Bool
asks_no_day s = not (asks_day s.form)

abbrev pub AskNoDay : List ScriptStep → Type 0
AskNoDay lines = IsTrue (list_all asks_no_day lines)

-- the run takes all lines, and reaches a world for which this one stands
abbrev pub IsDone : Day → Script → WorldState → Type 0
IsDone day script w = (x : model.World) × (run_of_script day script ≡ done x) × StandsFor w x

-- the run stops in this line, for a cause of which this is told
abbrev pub IsStopped : Day → Script → ℕ → Stop → Type 0
IsStopped day script line s =
    (cause : Cause) × (run_of_script day script ≡ stopped line cause) × (told cause ≡ s)

-- the end that is told is the end of the run
abbrev pub IsEnd : Day → Script → RunEnd → Type 0
IsEnd day script (Done w) = IsDone day script w
IsEnd day script (Stopped line s) = IsStopped day script line s

-- the world that is handed back is over the network of the script
abbrev pub IsOver : Net → RunEnd → Type 0
IsOver net (Done w) = w.net ≡ net
IsOver net (Stopped line s) = Unit {0}
