-- The dependencies of the drafts of definitions without a fault are listable.
use Rattle.std.proofs.Common.{◌≡◌, ◌≤◌, ◌<◌, ◌+◌, ◌&&◌, not, ℕ, zero, suc, Bool, true, false, List, [], ◌∷◌, ◌++◌, length}
use Rattle.std.proofs.Common.{Option, Some, None, refl, ap, sym, subst, ◌∙◌, arith, bytes_eq, flat_map, is_none, map, min, option_and_then, option_map}
use Rattle.std.proofs.Common.{slice_get, unwrap_or, if◌then◌else◌}
use Rattle.std.specs.Prelude.{nat_le, nat_lt, sum_by, take}
use Rattle.std.specs.List.{AllByRecursion, cons_option, filter_map, list_any}
use Rattle.std.specs.Option.{option_map_or, option_or}
use Rattle.std.proofs.lemmas.Bool.Decides.{nat_tests}
use Rattle.std.proofs.lemmas.Option.{slice_get_within}
use Rattle.lemmas.proofs.Booleans.{and_parts, neither}
use Rattle.lemmas.proofs.Lists.{all_append, got_below, take_whole}
use Rattle.lemmas.proofs.Texts.{text_tells}
use Rattle.composer_laws.specs.Written.{AreClauses, Each, IsClause, IsEntry, IsList, IsPromptItem, IsSchedule, IsText}
use Rattle.composer_parser.specs.declared.Clause.{Clause}
use Rattle.composer_parser.specs.declared.Clause.TheVariants as clause
use Rattle.composer_parser.specs.declared.Defs.{Defs}
use Rattle.composer_parser.specs.declared.EntryDef.{EntryDef}
use Rattle.composer_parser.specs.declared.Lined.{Lined}
use Rattle.composer_parser.specs.declared.Need.{Need}
use Rattle.composer_parser.specs.declared.Pred.{Pred}
use Rattle.composer_parser.specs.declared.PromptItem.{PromptItem}
use Rattle.composer_parser.specs.declared.PromptItem.TheVariants as ask
use Rattle.composer_parser.specs.declared.ResourceDef.{ResourceDef}
use Rattle.composer_parser.specs.declared.ScheduleDef.{ScheduleDef}
use Rattle.base_types.specs.declared.PromptDef.{PromptDef}
use Rattle.composer_print.specs.Streams.{items}
use Rattle.definition_faults.specs.Clauses.{clause_faults, clause_rows, dependencies, has_foreign, is_foreign, is_other, passes}
use Rattle.definition_faults.specs.Ranges.{dependency_count, is_out_of_range}
use Rattle.definition_faults.specs.Unknown.{has_unknown, is_unknown_need, is_unknown_prompt, is_unknown_ws}
use Rattle.definition_names.specs.Names.{is_pair, prompt_at, resource_at, resource_names}
use Rattle.definition_names.specs.Stations.{ws_of_stream}
use Rattle.definition_names.specs.Targets.{target_of}
use Rattle.definition_names.specs.declared.Target.{Target}
use Rattle.definition_names.specs.declared.Target.TheVariants.{Job, Stream}
use Rattle.draft_laws.proofs.Dependencies.{all_few}
use Rattle.draft_laws.proofs.Weights.{clause_weight, lined_weight}
use Rattle.model.specs.Network.{node_count}
use Rattle.model.specs.Types.{DraftDep, Net}
use Rattle.model.specs.Words.{nth}
use Rattle.plan_builder.specs.Dependencies.{asked_in, at_in, at_of, deadline_in, deadline_of, dependencies_of, file_of, files_in, followed_in}
use Rattle.plan_builder.specs.Dependencies.{follows_at, follows_in, follows_job, follows_of, follows_stream, need_of, needed_in, needs_in}
use Rattle.plan_builder.specs.Dependencies.{number_from_one, number_or_master, opened_in, prompt_of, prompts_in, resource_of, until_in, until_of}
use Rattle.plan_builder.specs.Times.{plan_day}
use Rattle.record_laws.proofs.NetworkNames.{name_is_kept}
use Rattle.workload_defs.specs.Nets.{net_of, resource_among}
use Rattle.workload_defs.specs.Stations.{number_of, stations}
use Rattle.workload_defs.proofs.Clean.{IsClean, rows_none}
use Rattle.workload_defs.proofs.DefinedNets.{few_prompts, few_resources}
use Rattle.workload_defs.proofs.Lists.{first_there, from_mapped, mapped}
use Rattle.workload_defs.proofs.Numbers.{named}
use Rattle.listing_laws.specs.Listables.{AreListableDeps, IsListableDep, IsResourceOn}
use Rattle.listable_drafts.proofs.Known.{IsOwn, number_is, text_line}
use Rattle.listable_drafts.proofs.Moments.{moment_low}

-- what is given where it is
abbrev pub WhenSome : {A : Type 0} → (A → Type 0) → Option A → Type 0
WhenSome P None = Unit {0}
WhenSome P (Some a) = P a

-- Numbers from 1.

numbered_from : {A : Type 0} (xs : List A) (i : ℕ) (x : A) → slice_get xs i ≡ Some x → length xs ≤ 65535
    → nth xs (number_from_one (Some i)) ≡ Some x
numbered_from xs i x e few =
    let low = slice_get_within xs i x e in
    let small : nat_lt i 65535 ≡ true = less i (omega (arith, low, few)) in
    ap (λ b. nth xs (if b then i + 1 else 0)) small ∙ ap (nth xs) (next i) ∙ e
  where
    less : (k : ℕ) → k < 65535 → nat_lt k 65535 ≡ true
    less k h = grind (arith, nat_tests)

    next : (k : ℕ) → k + 1 ≡ suc k
    next k = omega arith

at_most_1024 : (n : ℕ) → min n 1024 ≤ 1024
at_most_1024 n = grind (arith, nat_tests)

module _ (d : Defs) (clean : IsClean d) where
  abbrev net : Net
  net = net_of d

  abbrev Listed : ℕ → List DraftDep → Type 0
  Listed ws deps = AllByRecursion (IsListableDep net ws) deps

  -- Times.

  at_listed : (ws day : ℕ) (c : Clause) → IsClause c → Listed ws (at_of (plan_day d day) c)
  at_listed ws day (clause.At minute days) h = (moment_low d day minute days h.0, tt)
  at_listed ws day c h = tt

  until_listed : (ws day : ℕ) (c : Clause) → IsClause c → Listed ws (until_of (plan_day d day) c)
  until_listed ws day (clause.Until minute days then_) h = (moment_low d day minute days h.0, tt)
  until_listed ws day c h = tt

  deadline_listed : (ws day : ℕ) (c : Clause) → IsClause c → Listed ws (deadline_of (plan_day d day) c)
  deadline_listed ws day (clause.Deadline minute days) h = (moment_low d day minute days h.0, tt)
  deadline_listed ws day c h = tt

  -- What is followed.

  -- a stream whose names are names, on a workstation that is known
  pub record IsGoodSchedule (s : ScheduleDef) : Type 0 where
    pub written : IsSchedule s
    pub own : IsOwn d (ws_of_stream d s)

  abbrev pub AreGood : Type 0
  AreGood = (n : ℕ) → WhenSome (λ (s : Lined ScheduleDef). IsGoodSchedule s.item) (slice_get d.schedules n)

  stream_inside : (s : ScheduleDef) → IsGoodSchedule s → number_or_master d (ws_of_stream d s) < node_count net
  stream_inside s g =
      subst (λ w. w < node_count net) (sym (number_is d (ws_of_stream d s) g.own)) g.own.known.inside

  stream_followed : (ws : ℕ) (o : Option (Lined ScheduleDef)) → WhenSome (λ (s : Lined ScheduleDef). IsGoodSchedule s.item) o
      → WhenSome (IsListableDep net ws) (option_map (λ (s : Lined ScheduleDef). follows_stream d s.item) o)
  stream_followed ws None g = tt
  stream_followed ws (Some s) g = (stream_inside s.item g, name_is_kept s.item.name g.written.name)

  entry_followed : (ws : ℕ) (s : ScheduleDef) (o : Option (Lined EntryDef)) → IsGoodSchedule s
      → WhenSome (λ (e : Lined EntryDef). IsEntry e.item) o
      → WhenSome (IsListableDep net ws) (option_map (λ (e : Lined EntryDef). follows_job d s e.item) o)
  entry_followed ws s None g h = tt
  entry_followed ws s (Some e) g h = (stream_inside s g, name_is_kept s.name g.written.name, name_is_kept e.item.name h.name)

  abbrev entry_at_place : ℕ → Lined ScheduleDef → Option DraftDep
  entry_at_place i s = option_map (λ (e : Lined EntryDef). follows_job d s.item e.item) (slice_get s.item.entries i)

  written_at : (xs : List (Lined EntryDef)) (i : ℕ) → Each IsEntry (items xs)
      → WhenSome (λ (e : Lined EntryDef). IsEntry e.item) (slice_get xs i)
  written_at [] i h = tt
  written_at (x ∷ xs) zero h = h.0
  written_at (x ∷ xs) (suc i) h = written_at xs i h.1

  job_followed : (ws i : ℕ) (o : Option (Lined ScheduleDef)) → WhenSome (λ (s : Lined ScheduleDef). IsGoodSchedule s.item) o
      → WhenSome (IsListableDep net ws) (option_and_then (entry_at_place i) o)
  job_followed ws i None g = tt
  job_followed ws i (Some s) g =
      entry_followed ws s.item (slice_get s.item.entries i) g (written_at s.item.entries i g.written.entries)

  target_followed : (ws : ℕ) → AreGood → (o : Option Target) → WhenSome (IsListableDep net ws) (option_and_then (follows_at d) o)
  target_followed ws good None = tt
  target_followed ws good (Some (Stream n)) = stream_followed ws (slice_get d.schedules n) (good n)
  target_followed ws good (Some (Job n i)) = job_followed ws i (slice_get d.schedules n) (good n)

  preds_listed : (ws n : ℕ) (inside : Bool) → AreGood → (ps : List Pred) → Listed ws (filter_map (follows_of d n inside) ps)
  preds_listed ws n inside good [] = tt
  preds_listed ws n inside good (p ∷ ps) =
      go (follows_of d n inside p) (target_followed ws good (target_of d n inside p)) (preds_listed ws n inside good ps)
    where
      go : (o : Option DraftDep) → WhenSome (IsListableDep net ws) o → Listed ws (filter_map (follows_of d n inside) ps)
          → Listed ws (cons_option o (filter_map (follows_of d n inside) ps))
      go None h more = more
      go (Some dep) h more = (h, more)

  follows_listed : (ws n : ℕ) (inside : Bool) → AreGood → (c : Clause) → Listed ws (followed_in d n inside c)
  follows_listed ws n inside good (clause.Follows ps) = preds_listed ws n inside good ps
  follows_listed ws n inside good c = tt

  -- Resources.

  -- the resource of a name on a workstation
  resource_there : (ws name : List ℕ) (i : ℕ) → resource_at d ws name ≡ Some i
      → (r : Lined ResourceDef) × (slice_get d.resources i ≡ Some r) × (r.item.ws ≡ ws)
  resource_there ws name i e =
      let first = first_there (is_pair ws name) 0 i (resource_names d) e in
      let place : first.0 ≡ i = omega (arith, first.1) in
      let m = from_mapped (λ (r : Lined ResourceDef). (r.item.ws, r.item.name)) d.resources first.0 first.2.0 first.2.1 in
      let same : ws ≡ first.2.0.0 =
      text_tells ws first.2.0.0 (and_parts (bytes_eq ws first.2.0.0) (bytes_eq name first.2.0.1) first.2.2).0 in
      (m.0, subst (λ k. slice_get d.resources k ≡ Some m.0) place m.1, ap (λ p. p.0) m.2 ∙ sym same)

  resource_listed : (own : Option (List ℕ)) (h : IsOwn d own) (name : List ℕ) → is_none (resource_at d h.ws name) ≡ false
      → IsResourceOn net h.known.number (number_from_one (resource_at d h.ws name))
  unfolding net_of
  resource_listed own h name e = go (resource_at d h.ws name) refl e
    where
      go : (o : Option ℕ) → resource_at d h.ws name ≡ o → is_none o ≡ false
          → IsResourceOn net h.known.number (number_from_one o)
      go None is none = absurd (cc)
      go (Some i) is none =
          let r = resource_there h.ws name i is in
          record {
            resource = resource_among (stations d) r.0;
            there =
                numbered_from (map (resource_among (stations d)) d.resources) i (resource_among (stations d) r.0)
                (mapped (resource_among (stations d)) d.resources i r.0 r.1) (few_resources d clean);
            own = ap (λ w. unwrap_or (number_of d w) 0) r.2 ∙ ap (λ o. unwrap_or o 0) h.known.is;
          }

  -- the workstation that is written is the object's own
  own_written : (o own : Option (List ℕ)) (h : IsOwn d own) → option_map_or (λ w. is_other w own) o false ≡ false
      → option_or o own ≡ Some h.ws
  own_written None own h e = h.is
  own_written (Some w) own h e =
      let other : not (bytes_eq w h.ws) ≡ false = sym (ap (is_other w) h.is) ∙ e in
      ap Some (text_tells w h.ws (turned (bytes_eq w h.ws) other))
    where
      turned : (b : Bool) → not b ≡ false → b ≡ true
      turned true k = refl
      turned false k = absurd (cc)

  foreign_is : (n : Need) (own : Option (List ℕ)) → is_foreign own n ≡ false → option_map_or (λ w. is_other w own) n.ws false ≡ false
  foreign_is n own e = go n.ws e
    where
      go : (o : Option (List ℕ)) → is_foreign own (record { units = n.units; ws = o; name = n.name }) ≡ false
          → option_map_or (λ w. is_other w own) o false ≡ false
      go None f = refl
      go (Some w) f = f

  need_listed : (own : Option (List ℕ)) (h : IsOwn d own) (n : Need) → is_unknown_need d own n ≡ false → is_foreign own n ≡ false
      → IsListableDep net h.known.number (need_of d own n)
  need_listed own h n unknown foreign =
      let known : option_map_or (λ ws. is_none (resource_at d ws n.name)) (option_or n.ws own) true ≡ false =
      (neither (is_unknown_ws d n.ws) _ unknown).1 in
      let ws : option_or n.ws own ≡ Some h.ws = own_written n.ws own h (foreign_is n own foreign) in
      let some : is_none (resource_at d h.ws n.name) ≡ false =
      sym (ap (λ o. option_map_or (λ w. is_none (resource_at d w n.name)) o true) ws) ∙ known in
      let same : resource_of d own n ≡ resource_at d h.ws n.name = ap (option_and_then (λ w. resource_at d w n.name)) ws in (
        subst (λ o. IsResourceOn net h.known.number (number_from_one o)) (sym same) (resource_listed own h n.name some),
        at_most_1024 (unwrap_or n.units 1),
      )

  needs_list : (own : Option (List ℕ)) (h : IsOwn d own) (ns : List Need) → list_any (is_unknown_need d own) ns ≡ false
      → list_any (is_foreign own) ns ≡ false → Listed h.known.number (map (need_of d own) ns)
  needs_list own h [] unknown foreign = tt
  needs_list own h (n ∷ ns) unknown foreign =
      let first = neither (is_unknown_need d own n) (list_any (is_unknown_need d own) ns) unknown in
      let second = neither (is_foreign own n) (list_any (is_foreign own) ns) foreign in
      (need_listed own h n first.0 second.0, needs_list own h ns first.1 second.1)

  needs_listed : (n : ℕ) (inside : Bool) (own : Option (List ℕ)) (h : IsOwn d own) (c : Clause)
      → has_unknown d n inside own c ≡ false → has_foreign own c ≡ false → Listed h.known.number (needed_in d own c)
  needs_listed n inside own h (clause.Needs ns) unknown foreign = needs_list own h ns unknown foreign
  needs_listed n inside own h c unknown foreign = tt

  -- Prompts and files.

  prompt_listed : (ws : ℕ) (p : PromptItem) → IsPromptItem p → is_unknown_prompt d p ≡ false → IsListableDep net ws (prompt_of d p)
  unfolding net_of
  prompt_listed ws (ask.Own text) h e = text_line text h
  prompt_listed ws (ask.Name name) h e = go (prompt_at d name) refl e
    where
      go : (o : Option ℕ) → prompt_at d name ≡ o → is_none o ≡ false
          → (x : PromptDef) × (nth net.prompts (number_from_one o) ≡ Some x)
      go None is none = absurd (cc)
      go (Some i) is none =
          let own = named (λ (p : Lined PromptDef). p.item.name) d.prompts name i is in (
            own.0.item,
            numbered_from (map (λ (p : Lined PromptDef). p.item) d.prompts) i own.0.item
                (mapped (λ (p : Lined PromptDef). p.item) d.prompts i own.0 own.1) (few_prompts d clean),
          )

  prompts_list : (ws : ℕ) (ps : List PromptItem) → Each IsPromptItem ps → list_any (is_unknown_prompt d) ps ≡ false
      → Listed ws (map (prompt_of d) ps)
  prompts_list ws [] h e = tt
  prompts_list ws (p ∷ ps) h e =
      let parts = neither (is_unknown_prompt d p) (list_any (is_unknown_prompt d) ps) e in
      (prompt_listed ws p h.0 parts.0, prompts_list ws ps h.1 parts.1)

  some_prompts : (ps : List PromptItem) → IsList IsPromptItem ps → Each IsPromptItem ps
  some_prompts [] h = absurd h
  some_prompts (p ∷ ps) h = h

  prompts_listed : (ws n : ℕ) (inside : Bool) (own : Option (List ℕ)) (c : Clause) → IsClause c → has_unknown d n inside own c ≡ false
      → Listed ws (asked_in d c)
  prompts_listed ws n inside own (clause.Prompt ps) h e = prompts_list ws ps (some_prompts ps h) e
  prompts_listed ws n inside own c h e = tt

  paths_list : (ws : ℕ) (paths : List (List ℕ)) → Each IsText paths → Listed ws (map file_of paths)
  paths_list ws [] h = tt
  paths_list ws (p ∷ paths) h = (text_line p h.0, paths_list ws paths h.1)

  some_paths : (paths : List (List ℕ)) → IsList IsText paths → Each IsText paths
  some_paths [] h = absurd h
  some_paths (p ∷ paths) h = h

  files_listed : (ws : ℕ) (c : Clause) → IsClause c → Listed ws (opened_in c)
  files_listed ws (clause.Opens paths) h = paths_list ws paths (some_paths paths h)
  files_listed ws c h = tt

  -- All clauses of an object.

  -- a clause that is written, and has no unknown name and no foreign resource
  pub record IsGoodClause (n : ℕ) (inside : Bool) (own : Option (List ℕ)) (c : Clause) : Type 0 where
    pub written : IsClause c
    pub known : has_unknown d n inside own c ≡ false
    pub home : has_foreign own c ≡ false

  clauses_listed : (ws n : ℕ) (inside : Bool) (own : Option (List ℕ)) (make : Lined Clause → List DraftDep)
      → ((l : Lined Clause) → IsGoodClause n inside own l.item → Listed ws (make l)) → (cs : List (Lined Clause))
      → AllByRecursion (λ (l : Lined Clause). IsGoodClause n inside own l.item) cs → Listed ws (flat_map make cs)
  clauses_listed ws n inside own make each [] all = tt
  clauses_listed ws n inside own make each (l ∷ cs) all =
      all_append (IsListableDep net ws) (make l) (flat_map make cs) (each l all.0)
      (clauses_listed ws n inside own make each cs all.1)

  both : (ws : ℕ) (xs ys : List DraftDep) → Listed ws xs → Listed ws ys → Listed ws (xs ++ ys)
  both ws xs ys h k = all_append (IsListableDep net ws) xs ys h k

  pub all_listed : (day n : ℕ) (inside : Bool) (own : Option (List ℕ)) (h : IsOwn d own) → AreGood → (cs : List (Lined Clause))
      → AllByRecursion (λ (l : Lined Clause). IsGoodClause n inside own l.item) cs
      → Listed h.known.number (dependencies_of d (plan_day d day) n inside own cs)
  unfolding dependencies_of
  all_listed day n inside own h good cs all =
      let ws : ℕ = h.known.number in
      both ws _ (flat_map files_in cs)
      (both ws _ (flat_map (prompts_in d) cs)
      (both ws _ (flat_map (needs_in d own) cs)
      (both ws _ (flat_map (follows_in d n inside) cs)
      (both ws _ (flat_map (deadline_in (plan_day d day)) cs)
      (both ws (flat_map (at_in (plan_day d day)) cs) (flat_map (until_in (plan_day d day)) cs)
      (clauses_listed ws n inside own (at_in (plan_day d day)) (λ l g. at_listed ws day l.item g.written) cs all)
      (clauses_listed ws n inside own (until_in (plan_day d day)) (λ l g. until_listed ws day l.item g.written) cs all))
      (clauses_listed ws n inside own (deadline_in (plan_day d day)) (λ l g. deadline_listed ws day l.item g.written) cs all))
      (clauses_listed ws n inside own (follows_in d n inside) (λ l g. follows_listed ws n inside good l.item) cs all))
      (clauses_listed ws n inside own (needs_in d own) (λ l g. needs_listed n inside own h l.item g.known g.home) cs all))
      (clauses_listed ws n inside own (prompts_in d) (λ l g. prompts_listed ws n inside own l.item g.written g.known) cs all))
      (clauses_listed ws n inside own files_in (λ l g. files_listed ws l.item g.written) cs all)

  -- What their faults tell.

  good_clauses : (n : ℕ) (inside stream : Bool) (own : Option (List ℕ)) (whole : List (Lined Clause)) (from : ℕ) (done : List Clause)
      (cs : List (Lined Clause)) → AreClauses stream done (items cs)
      → ((i : ℕ) (l : Lined Clause) → slice_get cs i ≡ Some l
      → (has_unknown d n inside own l.item ≡ false) × (has_foreign own l.item ≡ false))
      → AllByRecursion (λ (l : Lined Clause). IsGoodClause n inside own l.item) cs
  good_clauses n inside stream own whole from done [] written none = tt
  good_clauses n inside stream own whole from done (l ∷ cs) written none =
      let here = none 0 l refl in (
        record { written = written.0; known = here.0; home = here.1 },
        good_clauses n inside stream own whole (from + 1) (done ++ l.item ∷ []) cs written.2 (λ i x e. none (suc i) x e),
      )

  pub clauses_good : (n : ℕ) (inside stream : Bool) (own : Option (List ℕ)) (cs : List (Lined Clause))
      → AreClauses stream [] (items cs) → clause_faults d n inside own cs ≡ []
      → AllByRecursion (λ (l : Lined Clause). IsGoodClause n inside own l.item) cs
  unfolding clause_faults
  clauses_good n inside stream own cs written none =
      good_clauses n inside stream own cs 0 [] cs written
      (λ i l e.
      let all =
      rows_none (λ (p : ℕ × Lined Clause). clause_rows d n inside own (passes cs p.0) p.1.item) (λ p. p.1.line) 0 cs none i i l
      (omega arith) e in
      (all.0, all.1.1.0))

  -- No clause passes 64 dependencies, so they have no more.

  none_passes : (cs : List (Lined Clause)) (n : ℕ) (inside : Bool) (own : Option (List ℕ)) → clause_faults d n inside own cs ≡ []
      → (i : ℕ) (l : Lined Clause) → slice_get cs i ≡ Some l → passes cs i ≡ false
  unfolding clause_faults
  none_passes cs n inside own none i l e =
      let all =
      rows_none (λ (p : ℕ × Lined Clause). clause_rows d n inside own (passes cs p.0) p.1.item) (λ p. p.1.line) 0 cs none i i l
      (omega arith) e in
      (neither (passes cs i) (is_out_of_range l.item) all.1.0).0

  not_passed : (a b : ℕ) → a ≤ 64 → (nat_le a 64 && nat_lt 64 b) ≡ false → b ≤ 64
  not_passed a b low e =
      let under : nat_le a 64 ≡ true = grind (arith, nat_tests) in
      at_most b (sym (ap (λ t. t && nat_lt 64 b) under) ∙ e)
    where
      at_most : (k : ℕ) → nat_lt 64 k ≡ false → k ≤ 64
      at_most k h = grind (arith, nat_tests)

  few_front : (cs : List (Lined Clause)) → ((i : ℕ) (l : Lined Clause) → slice_get cs i ≡ Some l → passes cs i ≡ false)
      → (k : ℕ) → k ≤ length cs → dependencies (take k cs) ≤ 64
  few_front cs none zero h = ap_zero cs
    where
      ap_zero : (xs : List (Lined Clause)) → dependencies (take 0 xs) ≤ 64
      ap_zero [] = omega arith
      ap_zero (x ∷ xs) = omega arith
  few_front cs none (suc k) h =
      let before = few_front cs none k (omega (arith, h)) in
      let there = got_below cs k (omega (arith, h)) in
      let next : suc k ≡ k + 1 = omega arith in
      subst (λ j. dependencies (take j cs) ≤ 64) (sym next)
      (not_passed (dependencies (take k cs)) (dependencies (take (k + 1) cs)) before (none k there.0 there.1))

  pub few_deps : (n : ℕ) (inside : Bool) (own : Option (List ℕ)) (cs : List (Lined Clause)) → clause_faults d n inside own cs ≡ []
      → dependencies cs ≤ 64
  few_deps n inside own cs none =
      subst (λ l. dependencies l ≤ 64) (take_whole cs (length cs) (omega arith))
      (few_front cs (none_passes cs n inside own none) (length cs) (omega arith))

  weight_same : (cs : List (Lined Clause)) → sum_by lined_weight cs ≡ dependencies cs
  weight_same cs = λ i. sum_by (λ (l : Lined Clause). one l.item i) cs
    where
      one : (c : Clause) → clause_weight c ≡ dependency_count c
      one (clause.Follows ps) = refl
      one (clause.Needs ns) = refl
      one (clause.Prompt ps) = refl
      one (clause.Opens paths) = refl
      one (clause.At minute days) = refl
      one (clause.Until minute days u) = refl
      one (clause.Deadline minute days) = refl
      one (clause.Priority k) = refl
      one (clause.Limit k) = refl
      one clause.CarryForward = refl

  pub are_listable : (day n : ℕ) (inside stream : Bool) (own : Option (List ℕ)) (h : IsOwn d own) → AreGood
      → (cs : List (Lined Clause)) → AreClauses stream [] (items cs) → clause_faults d n inside own cs ≡ []
      → AreListableDeps net h.known.number (dependencies_of d (plan_day d day) n inside own cs)
  are_listable day n inside stream own h good cs written none =
      let short = all_few d (plan_day d day) n inside own cs in
      let weight = weight_same cs in
      let few = few_deps n inside own cs none in
      record {
        few = omega (arith, short, weight, few);
        each = all_listed day n inside own h good cs (clauses_good n inside stream own cs written none);
      }
