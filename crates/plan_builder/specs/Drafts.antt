-- The drafts of a day: the streams whose run dates have it, in order of definition, with the moments of that day.
use Rattle.std.specs.Prelude.{◌≡◌, ℕ, true, false, List, [], ◌∷◌, slice_get, Option, Some, None}
use Rattle.model.specs.Types.{JobDraft, StreamDraft}
use Rattle.composer_parser.specs.declared.Lined.{Lined}
use Rattle.composer_parser.specs.declared.Defs.{Defs}
use Rattle.composer_parser.specs.declared.EntryDef.{EntryDef}
use Rattle.composer_parser.specs.declared.ScheduleDef.{ScheduleDef}
use Rattle.definition_names.specs.Stations.{ws_of_stream, ws_of_entry}
use Rattle.plan_builder.specs.Clauses as clauses
use Rattle.plan_builder.specs.Dependencies as dependencies
use Rattle.plan_builder.specs.Limits.{running}
use Rattle.plan_builder.specs.Times.{plan_day}
use Rattle.plan_builder.specs.Works.{IsRunOf, work_of}
use Rattle.plan_builder.specs.declared.times.PlanDay.{PlanDay}
use Rattle.plan_builder.specs.declared.works.Run.{Run}

abbrev pub number_or_master : Defs → Option (List ℕ) → ℕ
number_or_master d ws = dependencies.number_or_master d ws

-- what a draft of a job runs
abbrev pub run_in : JobDraft → Run
run_in draft = record { work = draft.work; logon = draft.logon; cond = draft.cond; recovery = draft.recovery }

-- the draft of an entry of the stream at a place
pub record IsJobDraft (d : Defs) (plan : PlanDay) (n : ℕ) (s : ScheduleDef) (e : EntryDef) (draft : JobDraft) : Type 0 where
  pub ws_ : draft.ws ≡ number_or_master d (ws_of_entry d s e)
  pub name_ : draft.name ≡ e.name
  pub priority_ : draft.priority ≡ clauses.priority_of e.clauses
  pub run_ : IsRunOf (work_of d s e) (run_in draft)
  pub deps_ : draft.deps ≡ dependencies.dependencies_of d plan n true (ws_of_entry d s e) e.clauses

-- a draft for each entry, in order
abbrev pub AreJobDrafts : Defs → PlanDay → ℕ → ScheduleDef → List (Lined EntryDef) → List JobDraft → Type 0
AreJobDrafts d plan n s [] [] = Unit {0}
AreJobDrafts d plan n s [] (j ∷ js) = ⊥
AreJobDrafts d plan n s (e ∷ es) [] = ⊥
AreJobDrafts d plan n s (e ∷ es) (j ∷ js) = IsJobDraft d plan n s e.item j × AreJobDrafts d plan n s es js

-- the draft of the stream at a place
pub record IsStreamDraft (d : Defs) (plan : PlanDay) (n : ℕ) (s : ScheduleDef) (draft : StreamDraft) : Type 0 where
  pub ws_ : draft.ws ≡ number_or_master d (ws_of_stream d s)
  pub name_ : draft.name ≡ s.name
  pub priority_ : draft.priority ≡ clauses.priority_of s.clauses
  pub limit_ : draft.limit ≡ clauses.limit_of s.clauses
  pub carry_ : draft.carry ≡ clauses.is_carried s.clauses
  pub deps_ : draft.deps ≡ dependencies.dependencies_of d plan n false (ws_of_stream d s) s.clauses
  pub jobs_ : AreJobDrafts d plan n s s.entries draft.jobs

abbrev pub IsDraftAt : Defs → PlanDay → ℕ → Option (Lined ScheduleDef) → StreamDraft → Type 0
IsDraftAt d plan n None draft = ⊥
IsDraftAt d plan n (Some s) draft = IsStreamDraft d plan n s.item draft

-- a draft for each of these streams, in order
abbrev pub AreDraftsOf : Defs → PlanDay → List ℕ → List StreamDraft → Type 0
AreDraftsOf d plan [] [] = Unit {0}
AreDraftsOf d plan [] (x ∷ xs) = ⊥
AreDraftsOf d plan (n ∷ ns) [] = ⊥
AreDraftsOf d plan (n ∷ ns) (x ∷ xs) = IsDraftAt d plan n (slice_get d.schedules n) x × AreDraftsOf d plan ns xs

-- the drafts of a day
abbrev pub AreDrafts : Defs → ℕ → List StreamDraft → Type 0
AreDrafts d day drafts = AreDraftsOf d (plan_day d day) (running d day) drafts
