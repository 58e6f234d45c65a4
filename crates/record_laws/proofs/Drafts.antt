-- A day has drafts: those of the streams that run.
use Rattle.std.proofs.Common.{◌≡◌, ◌∙◌, ◌<◌, ℕ, List, [], ◌∷◌, Option, Some, None, Result, Ok, Err, inl, inr, length}
use Rattle.std.proofs.Common.{refl, subst, sym, true, false}
use Rattle.std.proofs.lemmas.List.Elements.{All-head, All-tail}
use Rattle.std.specs.List.{All}
use Rattle.lemmas.proofs.Lists.{got_below}
use Rattle.base_types.specs.declared.Recovery.TheVariants.{Stop}
use Rattle.base_types.specs.declared.Work.TheVariants.{Command}
use Rattle.model.specs.Types.{CondOp, JobDraft, StreamDraft}
use Rattle.rc_conditions.proofs.Readings.{Cause, cause_is_read, read_has_cause}
use Rattle.rc_conditions.specs.Machine.{read_of}
use Rattle.rc_conditions.specs.declared.CondFault.{CondFault}
use Rattle.composer_parser.specs.declared.Defs.{Defs}
use Rattle.composer_parser.specs.declared.EntryDef.{EntryDef}
use Rattle.composer_parser.specs.declared.Lined.{Lined}
use Rattle.composer_parser.specs.declared.ScheduleDef.{ScheduleDef}
use Rattle.composer_parser.specs.declared.WorkDef.{WorkDef}
use Rattle.definition_names.specs.Stations.{ws_of_entry, ws_of_stream}
use Rattle.plan_builder.proofs.Lists.{running_low}
use Rattle.plan_builder.specs.Clauses as clauses
use Rattle.plan_builder.specs.Dependencies as dependencies
use Rattle.plan_builder.specs.Drafts.{AreDrafts, AreDraftsOf, AreJobDrafts, IsDraftAt, IsJobDraft, IsStreamDraft, number_or_master}
use Rattle.plan_builder.specs.Limits.{running}
use Rattle.plan_builder.specs.Times.{plan_day}
use Rattle.plan_builder.specs.Works.{IsCondOf, IsRunOf, logon_of, work_of}
use Rattle.plan_builder.specs.declared.times.PlanDay.{PlanDay}
use Rattle.plan_builder.specs.declared.works.Run.{Run}

-- there is a condition for each text
pub cond_there : (o : Option (List ℕ)) → (ops : List CondOp) × IsCondOf o ops
cond_there None = ([], refl)
cond_there (Some text) = go (read_of text) refl (read_has_cause text)
  where
    go : (r : Result (List CondOp) CondFault) → read_of text ≡ r → Cause text r
        → (ops : List CondOp) × IsCondOf (Some text) ops
    go (Ok ops) is h = (ops, inl h)
    go (Err fault) is h = ([], inr (none, refl))
      where
        none : (more : List CondOp) → Cause text (Ok more) → ⊥
        none more h = let both : Ok more ≡ Err fault = sym (cause_is_read text (Ok more) h) ∙ is in absurd (cc)

-- and what an entry runs
pub run_there : (o : Option WorkDef) → (run : Run) × IsRunOf o run
run_there None = (record { work = Command []; logon = []; cond = []; recovery = Stop }, refl)
run_there (Some w) =
    let cond_ = cond_there w.cond in (
      record { work = w.work; logon = logon_of w; cond = cond_.0; recovery = w.recovery },
      record { work_ = refl; logon_ = refl; cond_ = cond_.1; recovery_ = refl },
    )

module _ (d : Defs) (plan : PlanDay) where
  job_there : (n : ℕ) (s : ScheduleDef) (e : EntryDef) → (draft : JobDraft) × IsJobDraft d plan n s e draft
  job_there n s e =
      let run = run_there (work_of d s e) in (
        record {
          ws = number_or_master d (ws_of_entry d s e);
          name = e.name;
          priority = clauses.priority_of e.clauses;
          work = run.0.work;
          logon = run.0.logon;
          cond = run.0.cond;
          recovery = run.0.recovery;
          deps = dependencies.dependencies_of d plan n true (ws_of_entry d s e) e.clauses;
        },
        record { ws_ = refl; name_ = refl; priority_ = refl; run_ = run.1; deps_ = refl },
      )

  jobs_there : (n : ℕ) (s : ScheduleDef) (es : List (Lined EntryDef))
      → (drafts : List JobDraft) × AreJobDrafts d plan n s es drafts
  jobs_there n s [] = ([], tt)
  jobs_there n s (e ∷ es) =
      let first = job_there n s e.item in
      let rest = jobs_there n s es in
      (first.0 ∷ rest.0, (first.1, rest.1))

  stream_there : (n : ℕ) (s : ScheduleDef) → (draft : StreamDraft) × IsStreamDraft d plan n s draft
  stream_there n s =
      let jobs = jobs_there n s s.entries in (
        record {
          ws = number_or_master d (ws_of_stream d s);
          name = s.name;
          priority = clauses.priority_of s.clauses;
          limit = clauses.limit_of s.clauses;
          carry = clauses.is_carried s.clauses;
          deps = dependencies.dependencies_of d plan n false (ws_of_stream d s) s.clauses;
          jobs = jobs.0;
        },
        record { ws_ = refl; name_ = refl; priority_ = refl; limit_ = refl; carry_ = refl; deps_ = refl; jobs_ = jobs.1 },
      )

  streams_there : (ns : List ℕ) → All (λ (n : ℕ). n < length d.schedules) ns
      → (drafts : List StreamDraft) × AreDraftsOf d plan ns drafts
  streams_there [] low = ([], tt)
  streams_there (n ∷ ns) low =
      let s = got_below d.schedules n (All-head (λ (k : ℕ). k < length d.schedules) n ns low) in
      let first = stream_there n s.0.item in
      let rest = streams_there ns (All-tail (λ (k : ℕ). k < length d.schedules) n ns low) in
      (first.0 ∷ rest.0, (subst (λ (o : Option (Lined ScheduleDef)). IsDraftAt d plan n o first.0) (sym s.1) first.1, rest.1))

pub drafts_there : (d : Defs) (day : ℕ) → (drafts : List StreamDraft) × AreDrafts d day drafts
drafts_there d day = streams_there d (plan_day d day) (running d day) (running_low d day (running d day) refl)
