-- Records of nights: what bytes are read to, how a record runs, and what is told of the world that its steps make.
use Rattle.std.specs.Prelude.{◌≡◌, ℕ, List, None, Result, Err, length}
use Rattle.base_types.specs.declared.Net.{Net}
use Rattle.definition_texts.specs.Refusals.{IsText, bad_byte_line}
use Rattle.history_script.specs.Printed.{history_text}
use Rattle.model.specs.Fit.{AreFitEntries}
use Rattle.model.specs.World as model
use Rattle.model.specs.World.{view_at}
use Rattle.history_laws.specs.Printables.{IsPrintable}
use Rattle.network_tree.specs.Faults.{net_fault}
use Rattle.network_world.specs.Parts.{parts_of}
use Rattle.network_world.specs.Standing.{IsWorld}
use Rattle.network_world.specs.Stations.{WorldState}
use Rattle.night_records.specs.Days.{ArePlans}
use Rattle.night_records.specs.Readings.{At, IsRead}
use Rattle.night_records.specs.declared.Record.{Record}
use Rattle.symphony_view.specs.Counts.{stream_counts, job_counts}
use Rattle.record_faults.specs.declared.kinds.ScriptKind.TheVariants.{BadLine}
use Rattle.record_runs.specs.Ends.{run_of_script}
use Rattle.record_runs.specs.Lines.{Day}
use Rattle.record_runs.specs.Runs.{End, done}
use Rattle.report_text.specs.Reports.{report_of}
use Rattle.report_text.specs.Summaries.{summary_of}
use Rattle.input_commands.specs.declared.words.Telling.{Telling}
use Rattle.input_commands.specs.declared.words.Telling.TheVariants.{Report, Summary, History}

-- What bytes are read to. Those that are no UTF-8 are refused at the line of the first byte that is no part of it, and
-- that comes before every other fault.
pub data AreRead (bytes : List ℕ) : Result Record At → Type 0 where
  no_text : (IsText bytes → ⊥) → AreRead bytes (Err (bad_byte_line bytes, BadLine))
  text : {reading : Result Record At} → IsText bytes → IsRead bytes reading → AreRead bytes reading

-- How the run of a record ends. Its days have the plans that its definitions give; without definitions no line asks for
-- one.
pub record IsRun (r : Record) (end : End) : Type 0 where
  pub days : Day
  pub are_plans : ArePlans r.workload days
  pub ends : run_of_script days r.script ≡ end

-- the report of a world
abbrev pub report_at : Net → model.World → List ℕ
report_at net x = report_of net (parts_of net x)

-- its summary, by what the master holds
abbrev pub summary_at : Net → model.World → List ℕ
summary_at net x =
    summary_of (stream_counts net (view_at x 0)) (job_counts net (view_at x 0)) (length x.history) (length x.starts)

-- its history, as a text that can be audited
abbrev pub history_at : Net → model.World → List ℕ
history_at net x = history_text net x.history x.starts

-- what is told of a world
abbrev pub told_at : Telling → Net → model.World → List ℕ
told_at Report net x = report_at net x
told_at Summary net x = summary_at net x
told_at History net x = history_at net x

-- every history that the run of a record reaches is fit to be written
abbrev pub ReachesFit : Record → Type 0
ReachesFit r = (x : model.World) → IsRun r (done x) → AreFitEntries x.history

-- what a world has whose history is written and read back
pub record IsTellable (w : WorldState) : Type 0 where
  pub fit : AreFitEntries w.journal.history
  pub printable : IsPrintable w.net
  pub accepted : net_fault w.net ≡ None
  pub is_world : IsWorld w

-- a network, and the world that the steps of a record make of it
pub record Night : Type 0 where
  pub net : Net
  pub world : model.World
