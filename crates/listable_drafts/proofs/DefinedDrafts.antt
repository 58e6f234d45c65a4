-- The drafts of definitions without a fault are listable.
use Rattle.std.proofs.Common.{◌≡◌, ◌≤◌, ◌<◌, ◌+◌, ◌||◌, not, ℕ, zero, suc, Bool, true, false, List, [], ◌∷◌, ◌++◌, length, inl, inr}
use Rattle.std.proofs.Common.{Option, Some, None, refl, ap, sym, subst, ◌∙◌, arith, bytes_eq, eqb, flat_map, map, min, option_map, slice_get}
use Rattle.std.proofs.Common.{append-nil, unwrap_or}
use Rattle.std.specs.Prelude.{nat_lt}
use Rattle.std.specs.List.{AllByRecursion, enumerate_from, list_any, range_with_len}
use Rattle.std.proofs.lemmas.Bool.Decides.{nat_tests}
use Rattle.std.proofs.lemmas.Str.{IsUtf8-nil, is_utf8-from_IsUtf8}
use Rattle.lemmas.proofs.Booleans.{and_parts, neither}
use Rattle.lemmas.proofs.Numbers.{number_itself, number_tells}
use Rattle.lemmas.proofs.Texts.{text_tells}
use Rattle.composer_laws.specs.Written.{AreDefs, Each, IsCommand, IsEntry, IsSchedule, IsText, IsWork, WhenGiven}
use Rattle.composer_parser.specs.declared.Defs.{Defs}
use Rattle.composer_parser.specs.declared.EntryDef.{EntryDef}
use Rattle.composer_parser.specs.declared.Lined.{Lined}
use Rattle.composer_parser.specs.declared.ScheduleDef.{ScheduleDef}
use Rattle.composer_parser.specs.declared.WorkDef.{WorkDef}
use Rattle.composer_print.specs.Streams.{items}
use Rattle.definition_faults.specs.Clauses.{clause_faults}
use Rattle.definition_faults.specs.Entries.{entry_faults, entry_rows, faults_of_entry, lacks_job}
use Rattle.definition_faults.specs.Faults.{IsFaultless, tested_faults}
use Rattle.definition_faults.specs.Items.{is_later}
use Rattle.definition_faults.specs.Ons.{on_faults}
use Rattle.definition_faults.specs.Orders.{faults_at}
use Rattle.definition_faults.specs.Streams.{all_stream_faults, lacks_free_calendar, stream_faults, title_rows}
use Rattle.definition_faults.specs.Unknown.{is_unknown_ws}
use Rattle.definition_faults.specs.declared.Kind.{Kind}
use Rattle.definition_names.specs.Stations.{ws_of_entry, ws_of_stream}
use Rattle.definition_names.specs.Streams.{entry_of, stream_at}
use Rattle.draft_laws.proofs.Texts.{work_given}
use Rattle.history_laws.specs.Printables.{IsKeptName, IsLineText}
use Rattle.model.specs.Network.{node_count}
use Rattle.model.specs.Types.{CondOp, JobDraft, Net, StreamDraft, Work, Command, Script}
use Rattle.plan_builder.specs.Clauses.{first_number, limit_in, priority_in}
use Rattle.plan_builder.specs.Drafts.{AreDrafts, AreDraftsOf, AreJobDrafts, IsDraftAt, IsJobDraft, IsStreamDraft, run_in}
use Rattle.plan_builder.specs.Limits.{running}
use Rattle.plan_builder.specs.Times.{plan_day}
use Rattle.plan_builder.specs.Works.{IsCondOf, IsRunOf, work_of}
use Rattle.plan_builder.specs.declared.works.Run.{Run}
use Rattle.rc_conditions.specs.Grammar.{disjunction_meaning}
use Rattle.record_faults.specs.Known.{Key, key_eq}
use Rattle.record_script.proofs.Trees.{got_there}
use Rattle.record_laws.proofs.NetworkNames.{name_is_kept}
use Rattle.report_text.specs.Names.{name_of}
use Rattle.run_cycles.specs.Runs.{runs}
use Rattle.workload_defs.specs.Nets.{net_of}
use Rattle.workload_defs.proofs.Apart.{AreApart, apart_at, apart_by_places, filtered_apart}
use Rattle.workload_defs.proofs.Clean.{IsClean, NoneHolds, rows_none}
use Rattle.workload_defs.proofs.Faultless.{clean}
use Rattle.workload_defs.proofs.Lists.{both_empty, from_mapped, nothing}
use Rattle.listing_laws.specs.Listables.{AreListable, AreListableDeps, IsLineWork, IsListableCond, IsListableJob, IsListableLimit}
use Rattle.listing_laws.specs.Listables.{IsListableStream, StandOnce, job_names, stream_keys}
use Rattle.listable_drafts.proofs.DefinedDeps.{AreGood, IsGoodSchedule, WhenSome, are_listable}
use Rattle.listable_drafts.proofs.Known.{IsOwn, entry_own, number_is, stream_own, text_line}
use Rattle.listable_drafts.proofs.Numbers.{read_fits}

-- Items that are apart stand once.

apart_front : {A : Type 0} (same : A → A → Bool) (before behind : List A) (a : A) → AreApart same (before ++ a ∷ behind)
    → list_any (same a) before ≡ false
unfolding AreApart
apart_front same [] behind a apart = refl
apart_front same (x ∷ before) behind a apart =
    ap (λ b. b || list_any (same a) before) (apart.0 (length before) a (got_there before behind a))
    ∙ apart_front same before behind a apart.1

stand_once : {A : Type 0} (same : A → A → Bool) (xs : List A) → AreApart same xs → StandOnce same xs
stand_once same xs apart = λ before behind a e. apart_front same before behind a (subst (AreApart same) e apart)

-- Numbers of a range, in order.

range_at : (from len i k : ℕ) → slice_get (range_with_len from len) i ≡ Some k → k ≡ from + i
range_at from zero i k e = absurd (cc)
range_at from (suc len) zero k e = let same : from ≡ k = cc in omega (arith, same)
range_at from (suc len) (suc i) k e = let more = range_at (from + 1) len i k e in omega (arith, more)

range_apart : (len : ℕ) → AreApart eqb (range_with_len 0 len)
range_apart len =
    apart_by_places eqb (range_with_len 0 len)
    (λ i j a b h g e.
    let one = range_at 0 len i a h in
    let other = range_at 0 len j b g in
    let same = number_tells a b e in
    omega (arith, one, other, same))

places_same : (ns : List ℕ) → AreApart eqb ns → (i j n : ℕ) → slice_get ns i ≡ Some n → slice_get ns j ≡ Some n → i ≡ j
places_same ns apart i j n h g = go (nat_lt i j) (nat_lt j i) refl refl
  where
    itself : eqb n n ≡ false → ⊥
    itself e = let one : eqb n n ≡ true = number_itself n in cc

    go : (a b : Bool) → nat_lt i j ≡ a → nat_lt j i ≡ b → i ≡ j
    go true b less more =
        let low : i < j = grind (arith, nat_tests) in absurd (itself (apart_at eqb ns apart j i n n low g h))
    go false true less more =
        let low : j < i = grind (arith, nat_tests) in absurd (itself (apart_at eqb ns apart i j n n low h g))
    go false false less more = grind (arith, nat_tests)

-- What faults tell.

pieces_none : {X Y : Type 0} (f : ℕ × X → List Y) (from : ℕ) (xs : List X) → flat_map f (enumerate_from from xs) ≡ []
    → (i n : ℕ) (x : X) → n ≡ from + i → slice_get xs i ≡ Some x → f (n, x) ≡ []
pieces_none f from [] e i n x at_ h = absurd (cc)
pieces_none {X = X} f from (y ∷ ys) e zero n x at_ h =
    let same : y ≡ x = cc in
    let place : from ≡ n = omega (arith, at_) in
    subst (λ (p : ℕ × X). f p ≡ []) (λ j. (place j, same j)) (both_empty (f (from, y)) _ e).0
pieces_none f from (y ∷ ys) e (suc i) n x at_ h =
    pieces_none f (from + 1) ys (both_empty (f (from, y)) _ e).1 i n x (omega (arith, at_)) h

no_row : (rows : List (Bool × Kind)) (line : ℕ) → faults_at line rows ≡ [] → NoneHolds rows
no_row rows line e =
    rows_none (λ (p : ℕ × ℕ). rows) (λ p. line) 0 (0 ∷ []) (append-nil (faults_at line rows) ∙ e) 0 0 0 (omega arith) refl

first_is : (o : Option ℕ) (place : ℕ) → is_later o place ≡ false → o ≡ Some place
first_is None place e = absurd (cc)
first_is (Some m) place e = ap Some (number_tells m place (turned (eqb m place) e))
  where
    turned : (b : Bool) → not b ≡ false → b ≡ true
    turned true h = refl
    turned false h = absurd (cc)

-- Numbers of clauses.

priority_low : (o : Option ℕ) → unwrap_or (option_map (λ n. min n 101) o) 10 ≤ 101
priority_low None = omega arith
priority_low (Some n) = grind (arith, nat_tests)

limit_low : (o : Option ℕ) → IsListableLimit (option_map (λ n. min n 1024) o)
limit_low None = tt
limit_low (Some n) = grind (arith, nat_tests)

-- What jobs run.

no_text : IsLineText []
no_text = record { utf8 = is_utf8-from_IsUtf8 [] IsUtf8-nil; room = omega arith; line = refl }

work_line_of : (w : Work) → IsCommand w → IsLineWork w
work_line_of (Command text) h = text_line text h
work_line_of (Script path) h = text_line path h

logon_line_of : (o : Option (List ℕ)) → WhenGiven IsText o → IsLineText (unwrap_or o [])
logon_line_of None h = no_text
logon_line_of (Some text) h = text_line text h

cond_listable : (o : Option (List ℕ)) (ops : List CondOp) → IsCondOf o ops → IsListableCond ops
cond_listable None ops e = inl e
cond_listable (Some text) ops (inl h) =
    let reads = h.0 in
    inr (record {
      expression = disjunction_meaning reads.condition;
      is = reads.means;
      fits = read_fits text reads.condition reads.spelled;
      few = h.1;
    })
cond_listable (Some text) ops (inr h) = inl h.1

record IsLineRun (run : Run) : Type 0 where
  work : IsLineWork run.work
  logon : IsLineText run.logon
  cond : IsListableCond run.cond

run_lines : (o : Option WorkDef) (run : Run) → WhenGiven IsWork o → IsRunOf o run → IsLineRun run
run_lines None run h e =
    subst IsLineRun (sym e) (record { work = no_text; logon = no_text; cond = inl refl })
run_lines (Some w) run h e =
    record {
      work = subst IsLineWork (sym e.work_) (work_line_of w.work h.work);
      logon = subst IsLineText (sym e.logon_) (logon_line_of w.logon h.logon);
      cond = cond_listable w.cond run.cond e.cond_;
    }

module _ (d : Defs) (all : AreDefs d) (sound : IsFaultless d) where
  abbrev net : Net
  net = net_of d

  abbrev whole : IsClean d
  whole = clean d sound

  no_stream_faults : all_stream_faults d ≡ []
  unfolding tested_faults
  no_stream_faults =
      let none : tested_faults d ≡ [] = nothing (tested_faults d) (λ f there. sound f (inl there)) in
      (both_empty _ (all_stream_faults d) none).1

  -- A stream at a place.
  record IsSoundStream (n : ℕ) (s : ScheduleDef) : Type 0 where
    place : stream_at d (ws_of_stream d s) s.name ≡ Some n
    own : IsOwn d (ws_of_stream d s)
    clauses : clause_faults d n false (ws_of_stream d s) s.clauses ≡ []
    entries : entry_faults d n s ≡ []

  sound_stream : (n : ℕ) (s : Lined ScheduleDef) → slice_get d.schedules n ≡ Some s → IsSoundStream n s.item
  unfolding all_stream_faults stream_faults
  sound_stream n s e =
      let none =
      pieces_none (λ (p : ℕ × Lined ScheduleDef). stream_faults d p.0 p.1) 0 d.schedules no_stream_faults n n s (omega arith) e in
      let three = both_empty _ (entry_faults d n s.item) none in
      let two = both_empty _ (clause_faults d n false (ws_of_stream d s.item) s.item.clauses) three.0 in
      let one = both_empty (faults_at s.line (title_rows d n s.item)) (on_faults d s.item.ons) two.0 in
      let rows = no_row (title_rows d n s.item) s.line one.0 in
      let unknown = neither (is_unknown_ws d s.item.ws) (lacks_free_calendar d s.item) rows.1.0 in
      record {
        place = first_is (stream_at d (ws_of_stream d s.item) s.item.name) n rows.0;
        own = stream_own d whole s.item unknown.0;
        clauses = two.1;
        entries = three.1;
      }

  written_stream : (xs : List (Lined ScheduleDef)) (n : ℕ) (s : Lined ScheduleDef) → Each IsSchedule (items xs)
      → slice_get xs n ≡ Some s → IsSchedule s.item
  written_stream [] n s h e = absurd (cc)
  written_stream (x ∷ xs) zero s h e = let same : x ≡ s = cc in subst (λ (y : Lined ScheduleDef). IsSchedule y.item) same h.0
  written_stream (x ∷ xs) (suc n) s h e = written_stream xs n s h.1 e

  good : AreGood d whole
  good n = go (slice_get d.schedules n) refl
    where
      go : (o : Option (Lined ScheduleDef)) → slice_get d.schedules n ≡ o
          → WhenSome (λ (s : Lined ScheduleDef). IsGoodSchedule d whole s.item) o
      go None e = tt
      go (Some s) e =
          record { written = written_stream d.schedules n s all.schedules e; own = (sound_stream n s e).own }

  -- Entries.

  record IsSoundEntry (n i : ℕ) (s : ScheduleDef) (e : EntryDef) : Type 0 where
    place : entry_of d n e.name ≡ Some i
    own : IsOwn d (ws_of_entry d s e)
    clauses : clause_faults d n true (ws_of_entry d s e) e.clauses ≡ []

  sound_entry : (n i : ℕ) (s : ScheduleDef) (e : Lined EntryDef) → IsOwn d (ws_of_stream d s) → entry_faults d n s ≡ []
      → slice_get s.entries i ≡ Some e → IsSoundEntry n i s e.item
  unfolding entry_faults
  sound_entry n i s e own none at_ =
      let here = pieces_none (faults_of_entry d n s) 0 s.entries none i i e (omega arith) at_ in
      let parts = both_empty (faults_at e.line (entry_rows d n i s e.item)) _ here in
      let rows = no_row (entry_rows d n i s e.item) e.line parts.0 in
      let unknown = neither (is_unknown_ws d e.item.ws) (lacks_job d s e.item) rows.1.0 in
      record {
        place = first_is (entry_of d n e.item.name) i rows.0;
        own = entry_own d whole s e.item own unknown.0;
        clauses = parts.1;
      }

  -- Jobs.

  job_listable : (day n i : ℕ) (s : ScheduleDef) (e : EntryDef) (draft : JobDraft) → IsEntry e → IsSoundEntry n i s e
      → IsJobDraft d (plan_day d day) n s e draft → IsListableJob net draft
  job_listable day n i s e draft h g is =
      let run = run_lines (work_of d s e) (run_in draft) (work_given d s e all.jobs h) is.run_ in
      let ws : draft.ws ≡ g.own.known.number = is.ws_ ∙ number_is d (ws_of_entry d s e) g.own in
      let deps = are_listable d whole day n true false (ws_of_entry d s e) g.own good e.clauses h.clauses g.clauses in
      record {
        ws = subst (λ w. w < node_count net) (sym ws) g.own.known.inside;
        name = subst IsKeptName (sym is.name_) (name_is_kept e.name h.name);
        priority = subst (λ k. k ≤ 101) (sym is.priority_) (priority_low (first_number priority_in e.clauses));
        work = run.work;
        logon = run.logon;
        cond = run.cond;
        deps = subst (λ w. AreListableDeps net w draft.deps) (sym ws)
            (subst (AreListableDeps net g.own.known.number) (sym is.deps_) deps);
      }

  jobs_listable : (day n : ℕ) (s : ScheduleDef) (es : List (Lined EntryDef)) (js : List JobDraft) (from : ℕ) → Each IsEntry (items es)
      → ((i : ℕ) (e : Lined EntryDef) → slice_get es i ≡ Some e → IsSoundEntry n (from + i) s e.item)
      → AreJobDrafts d (plan_day d day) n s es js
      → AllByRecursion (IsListableJob net) js × (job_names js ≡ map (λ (e : Lined EntryDef). e.item.name) es)
  jobs_listable day n s [] [] from h g are = (tt, refl)
  jobs_listable day n s [] (j ∷ js) from h g are = absurd are
  jobs_listable day n s (e ∷ es) [] from h g are = absurd are
  jobs_listable day n s (e ∷ es) (j ∷ js) from h g are =
      let rest =
      jobs_listable day n s es js (from + 1) h.1
      (λ i x at_. subst (λ k. IsSoundEntry n k s x.item) (moved from i) (g (suc i) x at_)) are.1 in (
        (job_listable day n (from + 0) s e.item j h.0 (g 0 e refl) are.0, rest.0),
        ap (λ x. x ∷ job_names js) are.0.name_ ∙ ap (λ l. e.item.name ∷ l) rest.1,
      )
    where
      moved : (k i : ℕ) → k + suc i ≡ k + 1 + i
      moved k i = omega arith

  names_apart : (n : ℕ) (s : ScheduleDef) → IsOwn d (ws_of_stream d s) → entry_faults d n s ≡ []
      → AreApart bytes_eq (map (λ (e : Lined EntryDef). e.item.name) s.entries)
  names_apart n s own none =
      apart_by_places bytes_eq (map (λ (e : Lined EntryDef). e.item.name) s.entries)
      (λ i j a b h g same.
      let one = from_mapped (λ (e : Lined EntryDef). e.item.name) s.entries i a h in
      let other = from_mapped (λ (e : Lined EntryDef). e.item.name) s.entries j b g in
      let lower : entry_of d n a ≡ Some i = ap (entry_of d n) (sym one.2) ∙ (sound_entry n i s one.0 own none one.1).place in
      let upper : entry_of d n b ≡ Some j = ap (entry_of d n) (sym other.2) ∙ (sound_entry n j s other.0 own none other.1).place in
      let both : Some i ≡ Some j = sym lower ∙ ap (entry_of d n) (text_tells a b same) ∙ upper in
      number_of_some i j both)
    where
      number_of_some : (i j : ℕ) → Some i ≡ Some j → i ≡ j
      number_of_some i j e = cc

  -- Streams.

  stream_listable : (day n : ℕ) (s : ScheduleDef) (draft : StreamDraft) → IsSchedule s → IsSoundStream n s
      → IsStreamDraft d (plan_day d day) n s draft → IsListableStream net draft
  stream_listable day n s draft h g is =
      let ws : draft.ws ≡ g.own.known.number = is.ws_ ∙ number_is d (ws_of_stream d s) g.own in
      let deps = are_listable d whole day n false true (ws_of_stream d s) g.own good s.clauses h.clauses g.clauses in
      let jobs =
      jobs_listable day n s s.entries draft.jobs 0 h.entries
      (λ i e at_. subst (λ k. IsSoundEntry n k s e.item) (from_zero i) (sound_entry n i s e g.own g.entries at_)) is.jobs_ in
      record {
        ws = subst (λ w. w < node_count net) (sym ws) g.own.known.inside;
        name = subst IsKeptName (sym is.name_) (name_is_kept s.name h.name);
        priority = subst (λ k. k ≤ 101) (sym is.priority_) (priority_low (first_number priority_in s.clauses));
        limit = subst IsListableLimit (sym is.limit_) (limit_low (first_number limit_in s.clauses));
        deps = subst (λ w. AreListableDeps net w draft.deps) (sym ws)
            (subst (AreListableDeps net g.own.known.number) (sym is.deps_) deps);
        jobs = jobs.0;
        once = subst (StandOnce bytes_eq) (sym jobs.1)
            (stand_once bytes_eq (map (λ (e : Lined EntryDef). e.item.name) s.entries) (names_apart n s g.own g.entries));
      }
    where
      from_zero : (i : ℕ) → i ≡ 0 + i
      from_zero i = omega arith

  -- a draft at a place of the streams
  record IsSoundDraft (day n : ℕ) (x : StreamDraft) : Type 0 where
    stream : Lined ScheduleDef
    there : slice_get d.schedules n ≡ Some stream
    is : IsStreamDraft d (plan_day d day) n stream.item x

  draft_there : (day n : ℕ) (x : StreamDraft) → IsDraftAt d (plan_day d day) n (slice_get d.schedules n) x → IsSoundDraft day n x
  draft_there day n x is = go (slice_get d.schedules n) refl is
    where
      go : (o : Option (Lined ScheduleDef)) → slice_get d.schedules n ≡ o → IsDraftAt d (plan_day d day) n o x → IsSoundDraft day n x
      go None e at_ = absurd at_
      go (Some s) e at_ = record { stream = s; there = e; is = at_ }

  each_listable : (day : ℕ) (ns : List ℕ) (drafts : List StreamDraft) → AreDraftsOf d (plan_day d day) ns drafts
      → AllByRecursion (IsListableStream net) drafts
  each_listable day [] [] are = tt
  each_listable day [] (x ∷ xs) are = absurd are
  each_listable day (n ∷ ns) [] are = absurd are
  each_listable day (n ∷ ns) (x ∷ xs) are =
      let t = draft_there day n x are.0 in (
        stream_listable day n t.stream.item x (written_stream d.schedules n t.stream all.schedules t.there)
            (sound_stream n t.stream t.there) t.is,
        each_listable day ns xs are.1,
      )

  draft_at : (day : ℕ) (ns : List ℕ) (drafts : List StreamDraft) → AreDraftsOf d (plan_day d day) ns drafts → (i : ℕ) (x : StreamDraft)
      → slice_get drafts i ≡ Some x → (n : ℕ) × (slice_get ns i ≡ Some n) × IsSoundDraft day n x
  draft_at day [] [] are i x e = absurd (cc)
  draft_at day [] (y ∷ ys) are i x e = absurd are
  draft_at day (n ∷ ns) [] are i x e = absurd are
  draft_at day (n ∷ ns) (y ∷ ys) are zero x e =
      let same : y ≡ x = cc in (n, refl, subst (IsSoundDraft day n) same (draft_there day n y are.0))
  draft_at day (n ∷ ns) (y ∷ ys) are (suc i) x e = draft_at day ns ys are.1 i x e

  -- the key of a draft finds its place
  key_place : (day n : ℕ) (x : StreamDraft) → IsSoundDraft day n x → stream_at d (Some (name_of net x.ws)) x.name ≡ Some n
  key_place day n x t =
      let g = sound_stream n t.stream t.there in
      let ws : name_of net x.ws ≡ g.own.ws =
      ap (name_of net) (t.is.ws_ ∙ number_is d (ws_of_stream d t.stream.item) g.own) ∙ g.own.known.called in
      ap (λ w. stream_at d (Some w) x.name) ws ∙ ap (λ o. stream_at d o x.name) (sym g.own.is)
      ∙ ap (stream_at d (ws_of_stream d t.stream.item)) t.is.name_ ∙ g.place

  keys_apart : (day : ℕ) (drafts : List StreamDraft) → AreDrafts d day drafts → AreApart key_eq (stream_keys net drafts)
  unfolding running
  keys_apart day drafts are =
      apart_by_places key_eq (stream_keys net drafts)
      (λ i j a b h g same.
      let one = from_mapped (λ (s : StreamDraft). (name_of net s.ws, s.name)) drafts i a h in
      let other = from_mapped (λ (s : StreamDraft). (name_of net s.ws, s.name)) drafts j b g in
      let first = draft_at day (running d day) drafts are i one.0 one.1 in
      let second = draft_at day (running d day) drafts are j other.0 other.1 in
      let parts = and_parts (bytes_eq a.0 b.0) (bytes_eq a.1 b.1) same in
      let lower : stream_at d (Some a.0) a.1 ≡ Some first.0 =
      ap (λ (k : Key). stream_at d (Some k.0) k.1) (sym one.2) ∙ key_place day first.0 one.0 first.2 in
      let upper : stream_at d (Some b.0) b.1 ≡ Some second.0 =
      ap (λ (k : Key). stream_at d (Some k.0) k.1) (sym other.2) ∙ key_place day second.0 other.0 second.2 in
      let both : Some first.0 ≡ Some second.0 =
      sym lower ∙ ap (λ w. stream_at d (Some w) a.1) (text_tells a.0 b.0 parts.0)
      ∙ ap (stream_at d (Some b.0)) (text_tells a.1 b.1 parts.1) ∙ upper in
      places_same (running d day) (filtered_apart eqb (λ n. runs d n day) (range_with_len 0 (length d.schedules)) (range_apart (length d.schedules)))
      i j first.0 first.1 (second.1 ∙ sym both))

  pub drafts_listable : (day : ℕ) (drafts : List StreamDraft) → AreDrafts d day drafts → AreListable net drafts
  drafts_listable day drafts are =
      record {
        each = each_listable day (running d day) drafts are;
        once = stand_once key_eq (stream_keys net drafts) (keys_apart day drafts are);
      }
