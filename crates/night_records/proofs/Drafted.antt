-- The drafts of a day name workstations of the network of the definitions.
use Rattle.std.proofs.Common.{◌≡◌, ◌<◌, ◌≤◌, ◌+◌, ◌++◌, ℕ, Bool, List, [], ◌∷◌, Option, Some, None, arith, false, length, refl, true}
use Rattle.std.proofs.lemmas.Bool.{lt-ltb}
use Rattle.std.proofs.lemmas.Bool.Decides.{nat_tests}
use Rattle.std.proofs.lemmas.List.{length-map}
use Rattle.std.proofs.lemmas.List.Sums.{sum_by-cons}
use Rattle.std.specs.List.{AllByRecursion, cons_option}
use Rattle.std.specs.Option.{option_map_or}
use Rattle.std.specs.Prelude.{IfSome, filter_map, flat_map, nat_le, nat_lt, option_and_then, option_map, slice_get}
use Rattle.std.specs.Prelude.{unwrap_or}
use Rattle.std.specs.Str.{bytes_eq}
use Rattle.lemmas.proofs.Lists.{all_append, filter_map_short, flat_all}
use Rattle.lemmas.proofs.Options.{or_none_left}
use Rattle.calendars.specs.Dates.{last_day}
use Rattle.composer_parser.specs.declared.Clause.{Clause}
use Rattle.composer_parser.specs.declared.Clause.TheVariants as clause
use Rattle.composer_parser.specs.declared.CpuDef.{CpuDef}
use Rattle.composer_parser.specs.declared.Defs.{Defs}
use Rattle.composer_parser.specs.declared.EntryDef.{EntryDef}
use Rattle.composer_parser.specs.declared.Lined.{Lined}
use Rattle.composer_parser.specs.declared.Pred.{Pred}
use Rattle.composer_parser.specs.declared.PromptItem.{PromptItem}
use Rattle.composer_parser.specs.declared.PromptItem.TheVariants as ask
use Rattle.composer_parser.specs.declared.ScheduleDef.{ScheduleDef}
use Rattle.definition_names.specs.Stations.{ws_of_entry, ws_of_stream}
use Rattle.definition_names.specs.Targets.{target_of}
use Rattle.definition_names.specs.declared.Target.{Target}
use Rattle.definition_names.specs.declared.Target.TheVariants.{Stream, Job}
use Rattle.model.specs.Types.{DraftDep, StreamDraft}
use Rattle.model.specs.NewPlan.{jobs_in_drafts}
use Rattle.model.specs.Network.{node_count}
use Rattle.model.specs.Words.{first_of_these}
use Rattle.model.specs.Workstations.{ws_in_draft, ws_in_draft_dep, ws_in_job_draft}
use Rattle.model_laws.proofs.Inside.{AreIn, IsIn, all_in}
use Rattle.model_laws.proofs.Lists.{each_such}
use Rattle.model_laws.proofs.Options.{map_all}
use Rattle.plan_builder.specs.Dependencies.{asked_in, at_in, at_of, deadline_in, deadline_of, dependencies_of, file_of, files_in}
use Rattle.plan_builder.specs.Dependencies.{follows_at, follows_in, follows_job, follows_of, follows_stream, followed_in, need_of}
use Rattle.plan_builder.specs.Dependencies.{needed_in, needs_in, number_or_master, opened_in, prompt_of, prompts_in, until_in}
use Rattle.plan_builder.specs.Dependencies.{until_of}
use Rattle.plan_builder.specs.Limits.{entries_of, job_count, limit_fault, plan_fault, running}
use Rattle.plan_builder.specs.Times.{plan_day}
use Rattle.plan_builder.specs.declared.PlanFault.{PlanFault}
use Rattle.plan_builder.specs.declared.PlanFault.TheVariants.{Limit, NoMemory, OutOfRange}
use Rattle.plan_builder.specs.declared.times.PlanDay.{PlanDay}
use Rattle.workload_defs.specs.Nets.{net_of, node_of}
use Rattle.workload_defs.specs.Stations.{number_of, stations}
use Rattle.record_runs.specs.Causes.{told}
use Rattle.record_runs.specs.Never.{IsDayFor, IsPlanFor}
use Rattle.record_runs.proofs.Going.{place_low}
use Rattle.night_records.proofs.Plans.{by_day, by_fault, drafts_of, job_of, jobs_of, plans_of, stream_at, stream_of}

module _ (d : Defs) (some : 0 < node_count (net_of d)) where
  count_is : node_count (net_of d) ≡ length (stations d)
  unfolding net_of
  count_is = length-map (stations d) (node_of d)

  -- the number of a workstation, or that of the master
  number_in : (ws : Option (List ℕ)) → IsIn (net_of d) (number_or_master d ws)
  number_in None = lt-ltb 0 (node_count (net_of d)) some
  number_in (Some name) =
      go (number_of d name) (place_low (λ (c : CpuDef). bytes_eq name c.name) 0 (stations d))
    where
      go : (o : Option ℕ) → IfSome o (λ i. i < 0 + length (stations d)) → IsIn (net_of d) (unwrap_or o 0)
      go None h = lt-ltb 0 (node_count (net_of d)) some
      go (Some i) h = lt-ltb i (node_count (net_of d)) (omega (arith, h, count_is))

  -- dependencies
  abbrev IsNamed : DraftDep → Type 0
  IsNamed dep = AreIn (net_of d) (ws_in_draft_dep dep)

  at_named : (plan : PlanDay) (c : Clause) → AllByRecursion IsNamed (at_of plan c)
  at_named plan (clause.At minute days) = (tt, tt)
  at_named plan c = tt

  until_named : (plan : PlanDay) (c : Clause) → AllByRecursion IsNamed (until_of plan c)
  until_named plan (clause.Until minute days u) = (tt, tt)
  until_named plan c = tt

  deadline_named : (plan : PlanDay) (c : Clause) → AllByRecursion IsNamed (deadline_of plan c)
  deadline_named plan (clause.Deadline minute days) = (tt, tt)
  deadline_named plan c = tt

  stream_given : (o : Option (Lined ScheduleDef))
      → IfSome (option_map (λ (s : Lined ScheduleDef). follows_stream d s.item) o) IsNamed
  stream_given None = tt
  stream_given (Some s) = (number_in (ws_of_stream d s.item), tt)

  job_given : (s : Lined ScheduleDef) (o : Option (Lined EntryDef))
      → IfSome (option_map (λ (e : Lined EntryDef). follows_job d s.item e.item) o) IsNamed
  job_given s None = tt
  job_given s (Some e) = (number_in (ws_of_stream d s.item), tt)

  job_of_given : (i : ℕ) (o : Option (Lined ScheduleDef))
      → IfSome
      (option_and_then
      (λ (s : Lined ScheduleDef). option_map (λ (e : Lined EntryDef). follows_job d s.item e.item) (slice_get s.item.entries i))
      o) IsNamed
  job_of_given i None = tt
  job_of_given i (Some s) = job_given s (slice_get s.item.entries i)

  target_given : (o : Option Target) → IfSome (option_and_then (follows_at d) o) IsNamed
  target_given None = tt
  target_given (Some (Stream n)) = stream_given (slice_get d.schedules n)
  target_given (Some (Job n i)) = job_of_given i (slice_get d.schedules n)

  preds_named : (n : ℕ) (inside : Bool) (ps : List Pred) → AllByRecursion IsNamed (filter_map (follows_of d n inside) ps)
  preds_named n inside [] = tt
  preds_named n inside (p ∷ ps) =
      go (follows_of d n inside p) (target_given (target_of d n inside p)) (preds_named n inside ps)
    where
      go : (o : Option DraftDep) → IfSome o IsNamed → AllByRecursion IsNamed (filter_map (follows_of d n inside) ps)
          → AllByRecursion IsNamed (cons_option o (filter_map (follows_of d n inside) ps))
      go None h more = more
      go (Some dep) h more = (h, more)

  follows_named : (n : ℕ) (inside : Bool) (c : Clause) → AllByRecursion IsNamed (followed_in d n inside c)
  follows_named n inside (clause.Follows ps) = preds_named n inside ps
  follows_named n inside c = tt

  needs_named : (own : Option (List ℕ)) (c : Clause) → AllByRecursion IsNamed (needed_in d own c)
  needs_named own (clause.Needs ns) = map_all IsNamed (need_of d own) ns (λ k. tt)
  needs_named own c = tt

  prompt_named : (p : PromptItem) → IsNamed (prompt_of d p)
  prompt_named (ask.Name name) = tt
  prompt_named (ask.Own text) = tt

  prompts_named : (c : Clause) → AllByRecursion IsNamed (asked_in d c)
  prompts_named (clause.Prompt ps) = map_all IsNamed (prompt_of d) ps prompt_named
  prompts_named c = tt

  files_named : (c : Clause) → AllByRecursion IsNamed (opened_in c)
  files_named (clause.Opens paths) = map_all IsNamed file_of paths (λ path. tt)
  files_named c = tt

  every : (f : Lined Clause → List DraftDep) → ((c : Lined Clause) → AllByRecursion IsNamed (f c))
      → (cs : List (Lined Clause)) → AllByRecursion IsNamed (flat_map f cs)
  every f h cs = flat_all IsNamed f cs (each_such (λ c. AllByRecursion IsNamed (f c)) cs h)

  seven : (a u e f n p o : List DraftDep) → AllByRecursion IsNamed a → AllByRecursion IsNamed u
      → AllByRecursion IsNamed e → AllByRecursion IsNamed f → AllByRecursion IsNamed n → AllByRecursion IsNamed p
      → AllByRecursion IsNamed o → AllByRecursion IsNamed (a ++ u ++ e ++ f ++ n ++ p ++ o)
  seven a u e f n p o at_ until_ deadline_ follows_ needs_ prompts_ files_ =
      all_append IsNamed (a ++ u ++ e ++ f ++ n ++ p) o
      (all_append IsNamed (a ++ u ++ e ++ f ++ n) p
      (all_append IsNamed (a ++ u ++ e ++ f) n
      (all_append IsNamed (a ++ u ++ e) f
      (all_append IsNamed (a ++ u) e (all_append IsNamed a u at_ until_) deadline_) follows_) needs_) prompts_) files_

  deps_named : (plan : PlanDay) (n : ℕ) (inside : Bool) (own : Option (List ℕ)) (cs : List (Lined Clause))
      → AreIn (net_of d) (flat_map ws_in_draft_dep (dependencies_of d plan n inside own cs))
  unfolding dependencies_of
  deps_named plan n inside own cs =
      flat_all (IsIn (net_of d)) ws_in_draft_dep (dependencies_of d plan n inside own cs)
      (seven (flat_map (at_in plan) cs) (flat_map (until_in plan) cs) (flat_map (deadline_in plan) cs)
      (flat_map (follows_in d n inside) cs) (flat_map (needs_in d own) cs) (flat_map (prompts_in d) cs)
      (flat_map files_in cs)
      (every (at_in plan) (λ c. at_named plan c.item) cs)
      (every (until_in plan) (λ c. until_named plan c.item) cs)
      (every (deadline_in plan) (λ c. deadline_named plan c.item) cs)
      (every (follows_in d n inside) (λ c. follows_named n inside c.item) cs)
      (every (needs_in d own) (λ c. needs_named own c.item) cs)
      (every (prompts_in d) (λ c. prompts_named c.item) cs)
      (every files_in (λ c. files_named c.item) cs))

  -- jobs and streams
  jobs_named : (plan : PlanDay) (n : ℕ) (s : ScheduleDef) (es : List (Lined EntryDef))
      → AreIn (net_of d) (flat_map ws_in_job_draft (jobs_of d plan n s es))
  jobs_named plan n s [] = tt
  jobs_named plan n s (e ∷ es) =
      all_append (IsIn (net_of d)) (ws_in_job_draft (job_of d plan n s e.item))
      (flat_map ws_in_job_draft (jobs_of d plan n s es))
      (number_in (ws_of_entry d s e.item), deps_named plan n true (ws_of_entry d s e.item) e.item.clauses)
      (jobs_named plan n s es)

  stream_named : (plan : PlanDay) (n : ℕ) (s : ScheduleDef) → AreIn (net_of d) (ws_in_draft (stream_of d plan n s))
  stream_named plan n s = (
    number_in (ws_of_stream d s),
    all_append (IsIn (net_of d))
        (flat_map ws_in_draft_dep (dependencies_of d plan n false (ws_of_stream d s) s.clauses))
        (flat_map ws_in_job_draft (jobs_of d plan n s s.entries))
        (deps_named plan n false (ws_of_stream d s) s.clauses) (jobs_named plan n s s.entries),
  )

  streams_named : (plan : PlanDay) (ns : List ℕ)
      → AreIn (net_of d) (flat_map ws_in_draft (filter_map (stream_at d plan) ns))
  streams_named plan [] = tt
  streams_named plan (n ∷ ns) = go (slice_get d.schedules n) (streams_named plan ns)
    where
      go : (o : Option (Lined ScheduleDef))
          → AreIn (net_of d) (flat_map ws_in_draft (filter_map (stream_at d plan) ns))
          → AreIn (net_of d)
          (flat_map ws_in_draft
          (cons_option (option_map (λ (s : Lined ScheduleDef). stream_of d plan n s.item) o)
          (filter_map (stream_at d plan) ns)))
      go None more = more
      go (Some s) more =
          all_append (IsIn (net_of d)) (ws_in_draft (stream_of d plan n s.item))
          (flat_map ws_in_draft (filter_map (stream_at d plan) ns)) (stream_named plan n s.item) more

  jobs_counted : (plan : PlanDay) (ns : List ℕ) → jobs_in_drafts (filter_map (stream_at d plan) ns) ≤ job_count d ns
  jobs_counted plan [] = omega arith
  jobs_counted plan (n ∷ ns) =
      let more = sum_by-cons (λ m. length (entries_of d m)) n ns in
      let here = go (slice_get d.schedules n) (jobs_counted plan ns) in
      omega (arith, more, here)
    where
      go : (o : Option (Lined ScheduleDef)) → jobs_in_drafts (filter_map (stream_at d plan) ns) ≤ job_count d ns
          → jobs_in_drafts
          (cons_option (option_map (λ (s : Lined ScheduleDef). stream_of d plan n s.item) o)
          (filter_map (stream_at d plan) ns))
          ≤ length (option_map_or (λ (s : Lined ScheduleDef). s.item.entries) o []) + job_count d ns
      go None h = omega (arith, h)
      go (Some s) h =
          omega (
            arith,
            sum_by-cons (λ (x : StreamDraft). length x.jobs) (stream_of d plan n s.item) (filter_map (stream_at d plan) ns),
            length-map s.item.entries (λ (e : Lined EntryDef). job_of d plan n s.item e.item),
            h,
          )

  -- a day
  within : (day : ℕ) → plan_fault d day ≡ None
      → (length (running d day) ≤ 4096) × (job_count d (running d day) ≤ 16384)
  within day none =
      by_tests (nat_lt 4096 (length (running d day))) (nat_lt 16384 (job_count d (running d day))) refl refl
      (or_none_left (limit_fault d day) _ none)
    where
      low : (n most : ℕ) → nat_lt most n ≡ false → n ≤ most
      low n most h = grind (arith, h, nat_tests)

      by_tests : (a b : Bool) → nat_lt 4096 (length (running d day)) ≡ a
          → nat_lt 16384 (job_count d (running d day)) ≡ b
          → first_of_these ((a, Limit 4096) ∷ (b, Limit 16384) ∷ []) ≡ None
          → (length (running d day) ≤ 4096) × (job_count d (running d day) ≤ 16384)
      by_tests true b p q h = cc
      by_tests false true p q h = cc
      by_tests false false p q h = (low (length (running d day)) 4096 p, low (job_count d (running d day)) 16384 q)

  drafts_for : (day : ℕ) → plan_fault d day ≡ None → IsPlanFor (net_of d) (drafts_of d day)
  drafts_for day none =
      let few = within day none in
      record {
        inside =
            all_in (net_of d) (flat_map ws_in_draft (drafts_of d day))
            (streams_named (plan_day d day) (running d day));
        streams =
            let short = filter_map_short (stream_at d (plan_day d day)) (running d day) in
            let most : length (running d day) ≤ 4096 = few.0 in
            omega (arith, short, most);
        jobs_ =
            let short = jobs_counted (plan_day d day) (running d day) in
            let most : job_count d (running d day) ≤ 16384 = few.1 in
            omega (arith, short, most);
      }

  fault_for : (day : ℕ) (o : Option PlanFault) → plan_fault d day ≡ o → IsDayFor (net_of d) (by_fault d day o)
  unfolding told
  fault_for day None e = drafts_for day e
  fault_for day (Some (Limit most)) e = refl
  fault_for day (Some (OutOfRange line)) e = refl
  fault_for day (Some NoMemory) e = refl

  pub day_for : (day : ℕ) → IsDayFor (net_of d) (plans_of (Some d) day)
  unfolding told
  day_for day = go (nat_le day last_day)
    where
      go : (b : Bool) → IsDayFor (net_of d) (by_day d day b)
      go false = refl
      go true = fault_for day (plan_fault d day) refl
