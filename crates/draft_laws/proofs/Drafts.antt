-- The drafts of a day are fit.
use Rattle.std.proofs.Common.{◌≡◌, ◌≤◌, ◌<◌, ◌^◌, ℕ, zero, suc, true, false, List, [], ◌∷◌, length, Option, Some, None, refl, sym, subst, arith}
use Rattle.std.specs.List.{All, slice_get, sum_by, range_with_len}
use Rattle.std.proofs.lemmas.List.Elements.{All-cons, All-nil}
use Rattle.std.proofs.lemmas.List.FromFn.{length-range_with_len}
use Rattle.std.proofs.lemmas.List.Sums.{count_by-le-length, length-filter, sum_by-cons}
use Rattle.composer_parser.specs.declared.Lined.{Lined}
use Rattle.composer_parser.specs.declared.Defs.{Defs}
use Rattle.composer_parser.specs.declared.EntryDef.{EntryDef}
use Rattle.composer_parser.specs.declared.ScheduleDef.{ScheduleDef}
use Rattle.composer_parser.specs.Faults.{last_line_of}
use Rattle.composer_print.specs.Streams.{items}
use Rattle.composer_laws.specs.Written.{WhenGiven, Each, IsEntry, IsSchedule, AreDefs}
use Rattle.composer_laws.proofs.KeptDefs.{read_defs}
use Rattle.definition_names.specs.Stations.{ws_of_entry, ws_of_stream}
use Rattle.definition_texts.specs.Refusals.{AreDefinitions, AreChecked}
use Rattle.model.specs.Types.{DraftDep, JobDraft, StreamDraft}
use Rattle.model.specs.Fit.{AreFit, IsFitText, IsFitDraftDep, IsFitJobDraft, IsFitDraft}
use Rattle.plan_builder.specs.Dependencies.{dependencies_of}
use Rattle.plan_builder.specs.Drafts.{run_in, IsJobDraft, AreJobDrafts, IsStreamDraft, IsDraftAt, AreDraftsOf, AreDrafts}
use Rattle.plan_builder.specs.Limits.{running}
use Rattle.plan_builder.specs.Times.{plan_day}
use Rattle.plan_builder.specs.Works.{work_of}
use Rattle.plan_builder.specs.declared.times.PlanDay.{PlanDay}
use Rattle.run_cycles.specs.Runs.{runs}
use Rattle.draft_laws.proofs.Weights.{lined_weight, entry_weight, stream_weight, weight, weight_few}
use Rattle.draft_laws.proofs.Texts.{IsFitRun, name_fit, run_fit, work_given, given_at}
use Rattle.draft_laws.proofs.Dependencies.{deps_fit}

text_same : (a b : List ℕ) → a ≡ b → IsFitText b → IsFitText a
text_same a b e h = subst (λ (x : List ℕ). IsFitText x) (sym e) h

deps_same : (a b : List DraftDep) → a ≡ b → AreFit IsFitDraftDep b → AreFit IsFitDraftDep a
deps_same a b e h = subst (λ (xs : List DraftDep). AreFit IsFitDraftDep xs) (sym e) h

-- jobs
job_fit : (d : Defs) (plan : PlanDay) (n : ℕ) (s : ScheduleDef) (e : EntryDef) (draft : JobDraft) → AreDefs d → IsEntry e
    → sum_by lined_weight e.clauses ≤ 4294967295 → IsJobDraft d plan n s e draft → IsFitJobDraft draft
job_fit d plan n s e draft all h few is =
    let run : IsFitRun (run_in draft) = run_fit (work_of d s e) (run_in draft) (work_given d s e all.jobs h) is.run_ in
    record {
      name_ = text_same draft.name e.name is.name_ (name_fit e.name h.name);
      work_ = run.work_;
      logon_ = run.logon_;
      cond_ = run.cond_;
      deps_ =
          deps_same draft.deps (dependencies_of d plan n true (ws_of_entry d s e) e.clauses) is.deps_
          (deps_fit d plan n true (ws_of_entry d s e) false e.clauses all.schedules h.clauses few);
    }

jobs_fit : (d : Defs) (plan : PlanDay) (n : ℕ) (s : ScheduleDef) → AreDefs d → (es : List (Lined EntryDef))
    (js : List JobDraft) → Each IsEntry (items es) → sum_by entry_weight es ≤ 4294967295 → AreJobDrafts d plan n s es js
    → (length js ≤ sum_by entry_weight es) × All IsFitJobDraft js
jobs_fit d plan n s all [] [] h few are = (omega arith, All-nil IsFitJobDraft)
jobs_fit d plan n s all [] (j ∷ js) h few are = absurd are
jobs_fit d plan n s all (e ∷ es) [] h few are = absurd are
jobs_fit d plan n s all (e ∷ es) (j ∷ js) h few are =
    let whole = sum_by-cons entry_weight e es in
    let later = jobs_fit d plan n s all es js h.1 (omega (arith, whole, few)) are.1 in
    let short = later.0 in (
      omega (arith, whole, short),
      All-cons IsFitJobDraft j js (job_fit d plan n s e.item j all h.0 (omega (arith, whole, few)) are.0) later.1,
    )

-- streams
stream_fit : (d : Defs) (plan : PlanDay) (n : ℕ) (s : Lined ScheduleDef) (draft : StreamDraft) → AreDefs d
    → IsSchedule s.item → stream_weight s ≤ 4294967295 → IsStreamDraft d plan n s.item draft → IsFitDraft draft
stream_fit d plan n s draft all h few is =
    let jobs = jobs_fit d plan n s.item all s.item.entries draft.jobs h.entries (omega (arith, few)) is.jobs_ in
    let short = jobs.0 in
    record {
      name_ = text_same draft.name s.item.name is.name_ (name_fit s.item.name h.name);
      deps_ =
          deps_same draft.deps (dependencies_of d plan n false (ws_of_stream d s.item) s.item.clauses) is.deps_
          (deps_fit d plan n false (ws_of_stream d s.item) true s.item.clauses all.schedules h.clauses (omega (arith, few)));
      jobs_ = (omega (arith, few, short), jobs.1);
    }

-- what stands at a place weighs no more than all
place_few : (xs : List (Lined ScheduleDef)) (n : ℕ) → WhenGiven (λ s. stream_weight s ≤ sum_by stream_weight xs) (slice_get xs n)
place_few [] n = tt
place_few (x ∷ xs) zero = omega (arith, sum_by-cons stream_weight x xs)
place_few (x ∷ xs) (suc n) = go (slice_get xs n) (place_few xs n)
  where
    go : (o : Option (Lined ScheduleDef)) → WhenGiven (λ s. stream_weight s ≤ sum_by stream_weight xs) o
        → WhenGiven (λ s. stream_weight s ≤ sum_by stream_weight (x ∷ xs)) o
    go None h = tt
    go (Some s) h = omega (arith, h, sum_by-cons stream_weight x xs)

draft_fit : (d : Defs) (plan : PlanDay) (n : ℕ) (draft : StreamDraft) → AreDefs d → weight d ≤ 4294967295
    → IsDraftAt d plan n (slice_get d.schedules n) draft → IsFitDraft draft
draft_fit d plan n draft all few is =
    go (slice_get d.schedules n) (given_at IsSchedule d.schedules n all.schedules) (place_few d.schedules n) is
  where
    go : (o : Option (Lined ScheduleDef)) → WhenGiven (λ (s : Lined ScheduleDef). IsSchedule s.item) o
        → WhenGiven (λ s. stream_weight s ≤ weight d) o → IsDraftAt d plan n o draft → IsFitDraft draft
    go None h k at_ = absurd at_
    go (Some s) h k at_ = stream_fit d plan n s draft all h (omega (arith, k, few)) at_

streams_fit : (d : Defs) (plan : PlanDay) → AreDefs d → weight d ≤ 4294967295 → (ns : List ℕ) (drafts : List StreamDraft)
    → AreDraftsOf d plan ns drafts → (length drafts ≡ length ns) × All IsFitDraft drafts
streams_fit d plan all few [] [] are = (refl, All-nil IsFitDraft)
streams_fit d plan all few [] (x ∷ xs) are = absurd are
streams_fit d plan all few (n ∷ ns) [] are = absurd are
streams_fit d plan all few (n ∷ ns) (x ∷ xs) are =
    let later = streams_fit d plan all few ns xs are.1 in
    let same = later.0 in
    (omega (arith, same), All-cons IsFitDraft x xs (draft_fit d plan n x all few are.0) later.1)

-- no more streams run than are defined, and each of these weighs something
streams_few : (xs : List (Lined ScheduleDef)) → length xs ≤ sum_by stream_weight xs
streams_few [] = omega arith
streams_few (x ∷ xs) = omega (arith, streams_few xs, sum_by-cons stream_weight x xs)

running_few : (d : Defs) (day : ℕ) → length (running d day) ≤ weight d
unfolding running
running_few d day =
    let places : List ℕ = range_with_len 0 (length d.schedules) in
    omega (
      arith,
      length-filter (λ n. runs d n day) places,
      count_by-le-length (λ n. runs d n day) places,
      length-range_with_len 0 (length d.schedules),
      streams_few d.schedules,
    )

-- the drafts that checked definitions of a text give for a day
pub drafts_fit : (text : List ℕ) (d : Defs) (day : ℕ) (drafts : List StreamDraft) → length text < 2 ^ 32 → AreChecked text d
    → AreDrafts d day drafts → AreFit IsFitDraft drafts
drafts_fit text d day drafts small checked are =
    let from : AreDefinitions text d = checked.are in
    let all = read_defs text from.tokens (last_line_of text) d from.has.are from.spelled in
    let few : weight d ≤ 4294967295 = omega (arith, small, weight_few text d from) in
    let each = streams_fit d (plan_day d day) all few (running d day) drafts are in
    let same = each.0 in
    (omega (arith, same, few, running_few d day), each.1)
