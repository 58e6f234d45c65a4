-- Each record has plans for its days, and the drafts that a day gives are one list.
use Rattle.std.proofs.Common.{◌≡◌, ◌∙◌, ℕ, Bool, true, false, List, [], ◌∷◌, Option, Some, None, Result, Ok, Err, inl, inr, refl, ap, sym, subst, slice_get, map}
use Rattle.std.specs.Prelude.{filter_map, nat_le, option_map}
use Rattle.std.specs.List.{cons_option}
use Rattle.base_types.specs.declared.Recovery.TheVariants.{Stop}
use Rattle.base_types.specs.declared.Work.TheVariants.{Command}
use Rattle.calendars.specs.Dates.{last_day}
use Rattle.composer_parser.specs.declared.Defs.{Defs}
use Rattle.composer_parser.specs.declared.EntryDef.{EntryDef}
use Rattle.composer_parser.specs.declared.Lined.{Lined}
use Rattle.composer_parser.specs.declared.ScheduleDef.{ScheduleDef}
use Rattle.composer_parser.specs.declared.WorkDef.{WorkDef}
use Rattle.definition_names.specs.Stations.{ws_of_entry, ws_of_stream}
use Rattle.model.specs.Types.{CondOp, JobDraft, StreamDraft}
use Rattle.plan_builder.specs.Clauses as clauses
use Rattle.plan_builder.specs.Dependencies as dependencies
use Rattle.plan_builder.specs.Drafts.{AreDraftsOf, AreJobDrafts, IsDraftAt, IsJobDraft, IsStreamDraft, number_or_master, run_in}
use Rattle.plan_builder.specs.Limits.{plan_fault, running}
use Rattle.plan_builder.specs.Times.{plan_day}
use Rattle.plan_builder.specs.Works.{IsCondOf, IsRunOf, logon_of, work_of}
use Rattle.plan_builder.specs.declared.times.PlanDay.{PlanDay}
use Rattle.plan_builder.specs.declared.works.Run.{Run}
use Rattle.plan_builder.specs.declared.PlanFault.{PlanFault}
use Rattle.plan_builder.specs.declared.PlanFault.TheVariants.{Limit, OutOfRange, NoMemory}
use Rattle.rc_conditions.specs.Machine.{read_of}
use Rattle.rc_conditions.specs.declared.CondFault.{CondFault}
use Rattle.rc_conditions.proofs.Readings.{Cause as Caused, cause_is_read, read_has_cause}
use Rattle.record_runs.specs.Causes.{Cause, full_day, no_moment}
use Rattle.record_runs.specs.Lines.{Day}
use Rattle.record_script.specs.Plans.{operations}
use Rattle.night_records.specs.Days.{ArePlans, GivesDay, behind, drafts, full, timeless}

-- the condition of a text
abbrev cond_of : Option (List ℕ) → List CondOp
cond_of None = []
cond_of (Some t) = operations (read_of t)

one_cond : (o : Option (List ℕ)) (ops : List CondOp) → IsCondOf o ops → ops ≡ cond_of o
one_cond None ops h = h
one_cond (Some t) ops (inl is) = sym (ap operations (cause_is_read t (Ok ops) is))
one_cond (Some t) ops (inr (none, e)) = go (read_of t) refl
  where
    go : (r : Result (List CondOp) CondFault) → read_of t ≡ r → ops ≡ operations (read_of t)
    go (Ok more) r =
        absurd (none more (subst (λ (q : Result (List CondOp) CondFault). Caused t q) r (read_has_cause t)))
    go (Err f) r = e ∙ sym (ap operations r)

-- what a job runs
abbrev run_of : Option WorkDef → Run
run_of None = record { work = Command []; logon = []; cond = []; recovery = Stop }
run_of (Some w) = record { work = w.work; logon = logon_of w; cond = cond_of w.cond; recovery = w.recovery }

one_run : (o : Option WorkDef) (run : Run) → IsRunOf o run → run ≡ run_of o
one_run None run h = h
one_run (Some w) run h =
    let cond_ = one_cond w.cond run.cond h.cond_ in
    λ i. record { work = h.work_ i; logon = h.logon_ i; cond = cond_ i; recovery = h.recovery_ i }

module _ (d : Defs) (plan : PlanDay) where
  -- the draft of an entry, and of a stream
  abbrev pub job_of : ℕ → ScheduleDef → EntryDef → JobDraft
  job_of n s e =
      record {
        ws = number_or_master d (ws_of_entry d s e);
        name = e.name;
        priority = clauses.priority_of e.clauses;
        work = (run_of (work_of d s e)).work;
        logon = (run_of (work_of d s e)).logon;
        cond = (run_of (work_of d s e)).cond;
        recovery = (run_of (work_of d s e)).recovery;
        deps = dependencies.dependencies_of d plan n true (ws_of_entry d s e) e.clauses;
      }

  one_job : (n : ℕ) (s : ScheduleDef) (e : EntryDef) (draft : JobDraft) → IsJobDraft d plan n s e draft
      → draft ≡ job_of n s e
  one_job n s e draft h =
      let run = one_run (work_of d s e) (run_in draft) h.run_ in
      λ i.
      record {
        ws = h.ws_ i;
        name = h.name_ i;
        priority = h.priority_ i;
        work = (run i).work;
        logon = (run i).logon;
        cond = (run i).cond;
        recovery = (run i).recovery;
        deps = h.deps_ i;
      }

  abbrev pub jobs_of : ℕ → ScheduleDef → List (Lined EntryDef) → List JobDraft
  jobs_of n s es = map (λ (e : Lined EntryDef). job_of n s e.item) es

  one_jobs : (n : ℕ) (s : ScheduleDef) (es : List (Lined EntryDef)) (js : List JobDraft) → AreJobDrafts d plan n s es js
      → js ≡ jobs_of n s es
  one_jobs n s [] [] h = refl
  one_jobs n s [] (j ∷ js) h = absurd h
  one_jobs n s (e ∷ es) [] h = absurd h
  one_jobs n s (e ∷ es) (j ∷ js) h =
      ap (λ x. x ∷ js) (one_job n s e.item j h.0) ∙ ap (λ l. job_of n s e.item ∷ l) (one_jobs n s es js h.1)

  abbrev pub stream_of : ℕ → ScheduleDef → StreamDraft
  stream_of n s =
      record {
        ws = number_or_master d (ws_of_stream d s);
        name = s.name;
        priority = clauses.priority_of s.clauses;
        limit = clauses.limit_of s.clauses;
        carry = clauses.is_carried s.clauses;
        deps = dependencies.dependencies_of d plan n false (ws_of_stream d s) s.clauses;
        jobs = jobs_of n s s.entries;
      }

  one_stream : (n : ℕ) (s : ScheduleDef) (draft : StreamDraft) → IsStreamDraft d plan n s draft → draft ≡ stream_of n s
  one_stream n s draft h =
      let jobs = one_jobs n s s.entries draft.jobs h.jobs_ in
      λ i.
      record {
        ws = h.ws_ i;
        name = h.name_ i;
        priority = h.priority_ i;
        limit = h.limit_ i;
        carry = h.carry_ i;
        deps = h.deps_ i;
        jobs = jobs i;
      }

  abbrev pub stream_at : ℕ → Option StreamDraft
  stream_at n = option_map (λ (s : Lined ScheduleDef). stream_of n s.item) (slice_get d.schedules n)

  one_at : (n : ℕ) (o : Option (Lined ScheduleDef)) (draft : StreamDraft) → IsDraftAt d plan n o draft
      → option_map (λ (s : Lined ScheduleDef). stream_of n s.item) o ≡ Some draft
  one_at n None draft h = absurd h
  one_at n (Some s) draft h = ap Some (sym (one_stream n s.item draft h))

  one_drafts : (ns : List ℕ) (streams : List StreamDraft) → AreDraftsOf d plan ns streams
      → streams ≡ filter_map stream_at ns
  one_drafts [] [] h = refl
  one_drafts [] (x ∷ xs) h = absurd h
  one_drafts (n ∷ ns) [] h = absurd h
  one_drafts (n ∷ ns) (x ∷ xs) h =
      ap (λ l. x ∷ l) (one_drafts ns xs h.1)
      ∙ ap (λ o. cons_option o (filter_map stream_at ns)) (sym (one_at n (slice_get d.schedules n) x h.0))

-- the drafts of a day
abbrev pub drafts_of : Defs → ℕ → List StreamDraft
drafts_of d day = filter_map (stream_at d (plan_day d day)) (running d day)

-- the plan of a day that has one, and the cause of one that has none
abbrev pub by_fault : Defs → ℕ → Option PlanFault → Result (List StreamDraft) Cause
by_fault d day None = Ok (drafts_of d day)
by_fault d day (Some (Limit most)) = Err (full_day most)
by_fault d day (Some (OutOfRange line)) = Err no_moment
by_fault d day (Some NoMemory) = Err no_moment

abbrev pub by_day : Defs → ℕ → Bool → Result (List StreamDraft) Cause
by_day d day false = Err no_moment
by_day d day true = by_fault d day (plan_fault d day)

abbrev pub plans_of : Option Defs → Day
plans_of None day = Err no_moment
plans_of (Some d) day = by_day d day (nat_le day last_day)

one_plan : (d : Defs) (day : ℕ) (answer : Result (List StreamDraft) Cause) → GivesDay d day answer
    → by_day d day (nat_le day last_day) ≡ answer
one_plan d day _ (behind is) = ap (by_day d day) is
one_plan d day _ (full most low is) = ap (by_day d day) low ∙ ap (by_fault d day) is
one_plan d day _ (timeless line low is) = ap (by_day d day) low ∙ ap (by_fault d day) is
one_plan d day _ (drafts streams low is are) =
    ap (by_day d day) low
    ∙ (ap (by_fault d day) is ∙ ap Ok (sym (one_drafts d (plan_day d day) (running d day) streams are)))

pub are_plans : (workload : Option Defs) → ArePlans workload (plans_of workload)
are_plans None day answer given = sym given
are_plans (Some d) day answer given = one_plan d day answer given
