-- What the jobs of a stream run.
use Rattle.std.specs.Prelude.{◌≡◌, ◌⊎◌, ℕ, List, [], slice_get, unwrap_or, option_map, option_and_then, Option, Some, None}
use Rattle.std.specs.Option.{option_or}
use Rattle.base_types.specs.declared.Work.TheVariants.{Command}
use Rattle.base_types.specs.declared.Recovery.TheVariants.{Stop}
use Rattle.composer_parser.specs.declared.Lined.{Lined}
use Rattle.composer_parser.specs.declared.Defs.{Defs}
use Rattle.composer_parser.specs.declared.JobDef.{JobDef}
use Rattle.composer_parser.specs.declared.WorkDef.{WorkDef}
use Rattle.composer_parser.specs.declared.EntryDef.{EntryDef}
use Rattle.composer_parser.specs.declared.ScheduleDef.{ScheduleDef}
use Rattle.model.specs.Types.{CondOp}
use Rattle.rc_conditions.specs.Answers.{IsCondition}
use Rattle.definition_names.specs.Names.{job_at}
use Rattle.definition_names.specs.Stations.{ws_of_entry}
use Rattle.plan_builder.specs.declared.works.Run.{Run}

-- the job of `$JOBS` of this name on a workstation
abbrev pub job_on : Defs → List ℕ → List ℕ → Option WorkDef
job_on d name ws =
    option_map (λ (j : Lined JobDef). j.item.work) (option_and_then (slice_get d.jobs) (job_at d ws name))

-- the work of an entry: its own, or that of the job of its name on its workstation
abbrev pub work_of : Defs → ScheduleDef → EntryDef → Option WorkDef
work_of d s e = option_or e.work (option_and_then (job_on d e.name) (ws_of_entry d s e))

-- STREAMLOGON, which is empty where it is not given
abbrev pub logon_of : WorkDef → List ℕ
logon_of w = unwrap_or w.logon []

-- the condition of a text, which is the empty one without a text; also of a text that is none
abbrev pub IsCondOf : Option (List ℕ) → List CondOp → Type 0
IsCondOf None ops = ops ≡ []
IsCondOf (Some text) ops = IsCondition text ops ⊎ (((more : List CondOp) → IsCondition text more → ⊥) × (ops ≡ []))

-- what a work says; where there is none it is the empty command
pub record IsRunOfWork (w : WorkDef) (run : Run) : Type 0 where
  pub work_ : run.work ≡ w.work
  pub logon_ : run.logon ≡ logon_of w
  pub cond_ : IsCondOf w.cond run.cond
  pub recovery_ : run.recovery ≡ w.recovery

abbrev pub IsRunOf : Option WorkDef → Run → Type 0
IsRunOf None run = run ≡ record { work = Command []; logon = []; cond = []; recovery = Stop }
IsRunOf (Some w) run = IsRunOfWork w run
