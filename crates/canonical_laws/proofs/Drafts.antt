-- The drafts of a day are those of the normal form.
use Rattle.std.proofs.Common.{◌≡◌, ℕ, zero, suc, true, false, List, [], ◌∷◌, map, Option, Some, None, refl, ap, sym}
use Rattle.std.proofs.Common.{subst, ◌∙◌, slice_get, option_map, option_and_then}
use Rattle.std.proofs.lemmas.Option.{slice_get-map}
use Rattle.std.specs.Option.{option_or}
use Rattle.composer_parser.specs.declared.Lined.{Lined}
use Rattle.composer_parser.specs.declared.Defs.{Defs}
use Rattle.composer_parser.specs.declared.Clause.{Clause}
use Rattle.composer_parser.specs.declared.EntryDef.{EntryDef}
use Rattle.composer_parser.specs.declared.JobDef.{JobDef}
use Rattle.composer_parser.specs.declared.ScheduleDef.{ScheduleDef}
use Rattle.composer_laws.specs.Written.{Each, IsEntry, IsSchedule}
use Rattle.composer_print.specs.Normal as forms
use Rattle.composer_print.specs.Normal.{bare, all_unlined, entry_names, normal_entry, normal_schedule}
use Rattle.composer_print.specs.Scopes.{or_home, normal_clauses}
use Rattle.composer_print.specs.Streams.{items}
use Rattle.definition_names.specs.Names.{first_on, job_at}
use Rattle.definition_names.specs.Stations.{ws_of_stream, ws_of_entry}
use Rattle.model.specs.Types.{JobDraft, StreamDraft}
use Rattle.plan_builder.specs.Clauses.{priority_of, limit_of, is_carried}
use Rattle.plan_builder.specs.Dependencies.{dependencies_of}
use Rattle.plan_builder.specs.Drafts.{number_or_master, run_in, IsJobDraft, AreJobDrafts, IsStreamDraft, IsDraftAt}
use Rattle.plan_builder.specs.Drafts.{AreDraftsOf, AreDrafts}
use Rattle.plan_builder.specs.Limits.{running}
use Rattle.plan_builder.specs.Times.{plan_day}
use Rattle.plan_builder.specs.Works.{job_on, work_of, IsRunOf}
use Rattle.plan_builder.specs.declared.times.PlanDay.{PlanDay}
use Rattle.canonical_laws.proofs.Lists.{Both, at_place}
use Rattle.canonical_laws.proofs.Homes.{master_same}
use Rattle.canonical_laws.proofs.Streams.{IsPlaced, placed, home_at, no_entry, no_header, own_before, own_after}
use Rattle.canonical_laws.proofs.Dependencies.{number_kept, dependencies_same}
use Rattle.canonical_laws.proofs.Priorities.{priority_kept, limit_kept, carry_kept}
use Rattle.canonical_laws.proofs.Plans.{plan_same, running_same}
use Rattle.canonical_laws.proofs.Forms.{IsForm}

each_at : (P : ScheduleDef → Type 0) (xs : List (Lined ScheduleDef)) (n : ℕ) (s : Lined ScheduleDef) → Each P (items xs)
    → slice_get xs n ≡ Some s → P s.item
each_at P [] n s all at = absurd (cc)
each_at P (x ∷ xs) zero s all at = let same : x ≡ s = cc in subst (λ (y : Lined ScheduleDef). P y.item) same all.0
each_at P (x ∷ xs) (suc n) s all at = each_at P xs n s all.1 at

-- what an object says in both definitions
record IsSameJob (d e : Defs) (plan : PlanDay) (n : ℕ) (s t : ScheduleDef) (x y : EntryDef) : Type 0 where
  ws : number_or_master e (ws_of_entry e t y) ≡ number_or_master d (ws_of_entry d s x)
  name : y.name ≡ x.name
  priority : priority_of y.clauses ≡ priority_of x.clauses
  work : work_of e t y ≡ work_of d s x
  deps : dependencies_of e plan n true (ws_of_entry e t y) y.clauses ≡ dependencies_of d plan n true
      (ws_of_entry d s x) x.clauses

job_both : (d e : Defs) (plan : PlanDay) (n : ℕ) (s t : ScheduleDef) (x y : EntryDef) (draft : JobDraft)
    → IsSameJob d e plan n s t x y → Both (IsJobDraft d plan n s x draft) (IsJobDraft e plan n t y draft)
job_both d e plan n s t x y draft same = (
  λ is. record {
    ws_ = is.ws_ ∙ sym same.ws;
    name_ = is.name_ ∙ sym same.name;
    priority_ = is.priority_ ∙ sym same.priority;
    run_ = subst (λ w. IsRunOf w (run_in draft)) (sym same.work) is.run_;
    deps_ = is.deps_ ∙ sym same.deps;
  },
  λ is. record {
    ws_ = is.ws_ ∙ same.ws;
    name_ = is.name_ ∙ same.name;
    priority_ = is.priority_ ∙ same.priority;
    run_ = subst (λ w. IsRunOf w (run_in draft)) same.work is.run_;
    deps_ = is.deps_ ∙ same.deps;
  },
)

module _ (d e : Defs) (form : IsForm d e) where
  -- works
  job_same : (name ws : List ℕ) → job_on e name ws ≡ job_on d name ws
  job_same name ws =
      (λ i. option_map (λ (j : Lined JobDef). j.item.work)
      (option_and_then (slice_get (form.jobs i)) (first_on (form.names.jobs i) ws name)))
      ∙ go (job_at d ws name)
    where
      go : (o : Option ℕ)
          → option_map (λ (j : Lined JobDef). j.item.work) (option_and_then (slice_get (map bare d.jobs)) o)
          ≡ option_map (λ (j : Lined JobDef). j.item.work) (option_and_then (slice_get d.jobs) o)
      go None = refl
      go (Some k) =
          at_place bare (λ o. option_map (λ (j : Lined JobDef). j.item.work) o)
          (λ o. option_map (λ (j : Lined JobDef). j.item.work) o)
          refl (λ j. refl) d.jobs k

  module _ (plan : PlanDay) (n : ℕ) (s : Lined ScheduleDef) (here : IsPlaced d e n (forms.master_of d.domains) s) where
    entry_same : (x : Lined EntryDef) → IsEntry x.item
        → IsSameJob d e plan n s.item (normal_schedule (forms.master_of d.domains) s).item x.item
        (normal_entry (entry_names s.item.entries) (or_home s.item.ws (forms.master_of d.domains)) x).item
    unfolding normal_entry
    entry_same x is =
        let m : Option (List ℕ) = forms.master_of d.domains in
        let home : Option (List ℕ) = or_home s.item.ws m in
        let names : List (List ℕ) = entry_names s.item.entries in
        let own : Option (List ℕ) = or_home x.item.ws home in
        let t : ScheduleDef = (normal_schedule m s).item in
        let all : List (Lined Clause) = all_unlined (normal_clauses names home own (items x.item.clauses)) in
        let before : ws_of_entry d s.item x.item ≡ own = own_before d e form.names n m s here x in
        let after : option_or own (ws_of_stream e t) ≡ own = own_after d e form.names n m s here names x in
        record {
          ws = number_kept d e form (option_or own (ws_of_stream e t)) (ws_of_entry d s.item x.item)
              (after ∙ sym before);
          name = refl;
          priority = priority_kept false names home own x.item.clauses is.clauses;
          work = λ i. option_or x.item.work (option_and_then (λ w. job_same x.item.name w i) ((after ∙ sym before) i));
          deps =
              ap (λ o. dependencies_of e plan n true o all) after
              ∙ dependencies_same d e form plan n true names home own (no_entry d e form.names n m s here)
              (home_at d e form.names n m s here) x.item.clauses
              ∙ sym (ap (λ o. dependencies_of d plan n true o x.item.clauses) before);
        }

    jobs_both : (xs : List (Lined EntryDef)) (js : List JobDraft) → Each IsEntry (items xs)
        → Both (AreJobDrafts d plan n s.item xs js)
        (AreJobDrafts e plan n (normal_schedule (forms.master_of d.domains) s).item
        (map (normal_entry (entry_names s.item.entries) (or_home s.item.ws (forms.master_of d.domains))) xs) js)
    jobs_both [] [] all = (λ h. h, λ h. h)
    jobs_both [] (j ∷ js) all = (λ h. h, λ h. h)
    jobs_both (x ∷ xs) [] all = (λ h. h, λ h. h)
    jobs_both (x ∷ xs) (j ∷ js) all =
        let one =
        job_both d e plan n s.item (normal_schedule (forms.master_of d.domains) s).item x.item
        (normal_entry (entry_names s.item.entries) (or_home s.item.ws (forms.master_of d.domains)) x).item j
        (entry_same x all.0) in
        let more = jobs_both xs js all.1 in
        (λ h. (one.0 h.0, more.0 h.1), λ h. (one.1 h.0, more.1 h.1))

    stream_both : IsSchedule s.item → (draft : StreamDraft)
        → Both (IsStreamDraft d plan n s.item draft)
        (IsStreamDraft e plan n (normal_schedule (forms.master_of d.domains) s).item draft)
    unfolding normal_schedule
    stream_both is draft =
        let m : Option (List ℕ) = forms.master_of d.domains in
        let home : Option (List ℕ) = or_home s.item.ws m in
        let t : ScheduleDef = (normal_schedule m s).item in
        let all : List (Lined Clause) = all_unlined (normal_clauses [] home home (items s.item.clauses)) in
        let ws : number_or_master e (ws_of_stream e t) ≡ number_or_master d (ws_of_stream d s.item) =
        number_kept d e form (ws_of_stream e t) (ws_of_stream d s.item) (here.after ∙ sym here.before) in
        let priority : priority_of all ≡ priority_of s.item.clauses =
        priority_kept true [] home home s.item.clauses is.clauses in
        let limit : limit_of all ≡ limit_of s.item.clauses = limit_kept [] home home s.item.clauses in
        let carry : is_carried all ≡ is_carried s.item.clauses = carry_kept [] home home s.item.clauses in
        let deps : dependencies_of e plan n false (ws_of_stream e t) all ≡ dependencies_of d plan n false
        (ws_of_stream d s.item) s.item.clauses =
        ap (λ o. dependencies_of e plan n false o all) here.after
        ∙ dependencies_same d e form plan n false [] home home (no_header d e form.names n m s here)
        (home_at d e form.names n m s here) s.item.clauses
        ∙ sym (ap (λ o. dependencies_of d plan n false o s.item.clauses) here.before) in
        let jobs = jobs_both s.item.entries draft.jobs is.entries in (
          λ h. record {
            ws_ = h.ws_ ∙ sym ws;
            name_ = h.name_;
            priority_ = h.priority_ ∙ sym priority;
            limit_ = h.limit_ ∙ sym limit;
            carry_ = h.carry_ ∙ sym carry;
            deps_ = h.deps_ ∙ sym deps;
            jobs_ = jobs.0 h.jobs_;
          },
          λ h. record {
            ws_ = h.ws_ ∙ ws;
            name_ = h.name_;
            priority_ = h.priority_ ∙ priority;
            limit_ = h.limit_ ∙ limit;
            carry_ = h.carry_ ∙ carry;
            deps_ = h.deps_ ∙ deps;
            jobs_ = jobs.1 h.jobs_;
          },
        )

  -- the streams of a day
  at_both : (plan : PlanDay) (n : ℕ) (draft : StreamDraft) → Each IsSchedule (items d.schedules)
      → (o : Option (Lined ScheduleDef))
      → slice_get d.schedules n ≡ o
      → Both (IsDraftAt d plan n o draft)
      (IsDraftAt e plan n (option_map (normal_schedule (forms.master_of d.domains)) o) draft)
  at_both plan n draft all None at = (λ h. h, λ h. h)
  at_both plan n draft all (Some s) at =
      stream_both plan n s (placed d e form.names n (forms.master_of d.domains) (master_same d.domains) s at)
      (each_at IsSchedule d.schedules n s all at) draft

  draft_both : (plan : PlanDay) (n : ℕ) (draft : StreamDraft) → Each IsSchedule (items d.schedules)
      → Both (IsDraftAt d plan n (slice_get d.schedules n) draft) (IsDraftAt e plan n (slice_get e.schedules n) draft)
  draft_both plan n draft all =
      let m : Option (List ℕ) = forms.master_of d.domains in
      let there_ : slice_get e.schedules n ≡ option_map (normal_schedule m) (slice_get d.schedules n) =
      ap (λ (ss : List (Lined ScheduleDef)). slice_get ss n) form.schedules
      ∙ slice_get-map (normal_schedule m) d.schedules n in
      let t = at_both plan n draft all (slice_get d.schedules n) refl in (
        λ h. subst (λ o. IsDraftAt e plan n o draft) (sym there_) (t.0 h),
        λ h. t.1 (subst (λ o. IsDraftAt e plan n o draft) there_ h),
      )

  drafts_of_both : (plan : PlanDay) → Each IsSchedule (items d.schedules) → (ns : List ℕ) (drafts : List StreamDraft)
      → Both (AreDraftsOf d plan ns drafts) (AreDraftsOf e plan ns drafts)
  drafts_of_both plan all [] [] = (λ h. h, λ h. h)
  drafts_of_both plan all [] (x ∷ xs) = (λ h. h, λ h. h)
  drafts_of_both plan all (n ∷ ns) [] = (λ h. h, λ h. h)
  drafts_of_both plan all (n ∷ ns) (x ∷ xs) =
      let one = draft_both plan n x all in
      let more = drafts_of_both plan all ns xs in
      (λ h. (one.0 h.0, more.0 h.1), λ h. (one.1 h.0, more.1 h.1))

  pub drafts_both : Each IsSchedule (items d.schedules) → (day : ℕ) (drafts : List StreamDraft)
      → Both (AreDrafts d day drafts) (AreDrafts e day drafts)
  drafts_both all day drafts =
      let t = drafts_of_both (plan_day d day) all (running d day) drafts in
      let same : AreDrafts e day drafts ≡ AreDraftsOf e (plan_day d day) (running d day) drafts =
      λ i. AreDraftsOf e (plan_same d e form day i) (running_same d e form day i) drafts in
      (λ h. subst (λ T. T) (sym same) (t.0 h), λ h. t.1 (subst (λ T. T) same h))
