-- The rows of a listing have no fault.
use Rattle.std.proofs.Common.{◌≡◌, ◌≤◌, ◌<◌, ◌+◌, ℕ, suc, true, false, ◌||◌, not, List, [], ◌∷◌, ◌++◌}
use Rattle.std.proofs.Common.{Option, Some, None, length, refl, ap, sym, subst, ◌∙◌, arith, map, flat_map, append-nil, append_assoc}
use Rattle.std.proofs.Common.{bytes_eq}
use Rattle.std.specs.Prelude.{count_by, filter_map, is_ok, nat_le, nat_lt}
use Rattle.std.specs.List.{AllByRecursion, list_any}
use Rattle.std.proofs.lemmas.List.{map-append}
use Rattle.lemmas.proofs.Lists.{all_append}
use Rattle.lemmas.proofs.Numbers.{le_refused}
use Rattle.base_types.specs.declared.Recovery.TheVariants.{Stop, Continue, Rerun}
use Rattle.history_laws.proofs.Accepted.{Accepted}
use Rattle.history_laws.proofs.Named.{key_of, known_name}
use Rattle.history_laws.proofs.Walking.{not_last}
use Rattle.model.specs.Network.{node_count}
use Rattle.model.specs.Types.{CondOp, DraftDep, JobDraft, Net, PromptDef, Recovery, StreamDraft, Work, Command, Script}
use Rattle.model.specs.Types.{FollowsJob, FollowsStream, Needs, Prompt, At, Until, Outside, Deadline, Global, Own, Follows, Plain}
use Rattle.model.specs.Words.{nth}
use Rattle.plan_listing.specs.Conditions.{cond_text}
use Rattle.plan_listing.specs.Dependencies.{prompt_name, resource_name}
use Rattle.rc_conditions.specs.Machine.{read_of}
use Rattle.record_faults.specs.Faults.{is_bad_line, is_bad_tree, is_beyond, is_duplicate, items_around, lacks_condition, lacks_item, lacks_station}
use Rattle.record_faults.specs.Known.{Key, Named, above_of, begins_stream, has_key, has_name, is_dep, is_object, is_plan, is_station, key_eq}
use Rattle.record_faults.specs.Known.{job_of, jobs_around, since, stream_of}
use Rattle.record_rows.specs.Ranges.{dep_in_range, in_range, part_in_range}
use Rattle.record_rows.specs.declared.rows.PartRow.{PartRow}
use Rattle.record_rows.specs.declared.rows.Row.{Row}
use Rattle.record_rows.specs.declared.rows.Row.TheVariants as row
use Rattle.report_text.specs.Names.{name_of}
use Rattle.listing_laws.specs.Listables.{IsListableDep, IsListableJob, IsListableStream, IsResourceOn}
use Rattle.listing_laws.specs.Listables.{StandOnce, job_names, stream_keys}
use Rattle.listing_laws.proofs.DepLines.{dep_row}
use Rattle.listing_laws.proofs.HeadLines.{job_part, stream_part}
use Rattle.listing_laws.proofs.ObjectLines.{IsCondLine, body_parts, cond_parts, dep_rows, job_rows, logon_parts, part_rows, recovery_parts}
use Rattle.listing_laws.proofs.ObjectLines.{stream_rows, work_parts}
use Rattle.listing_laws.proofs.Placed.{plan_rows}
use Rattle.listing_laws.proofs.Walks.{Clear, Stand, clear_both, clear_none, clear_row, counted_since, cut_since, kept_since, new_ws, same_ws}
use Rattle.listing_laws.proofs.KnownNames.{Names, key_there, name_among, numbered_cut, prompt_named, resource_named, title_of}

-- a stream, whose conditions are read
pub record IsGoodStream (net : Net) (s : StreamDraft) : Type 0 where
  pub listable : IsListableStream net s
  pub read : AllByRecursion (λ (j : JobDraft). IsCondLine j.cond) s.jobs

module _ (net : Net) (a : Accepted net) (n : Named) where
  known : Names net n → (w : ℕ) → w < node_count net → not (is_station n.stations (name_of net w)) ≡ false
  known h w low =
      ap (λ l. not (is_station l (name_of net w))) h.stations ∙ ap not (known_name net a w low)

  -- Dependencies.

  dep_station : Names net n → (ws : ℕ) (d : DraftDep) → IsListableDep net ws d → lacks_station n.stations (dep_row net d) ≡ false
  unfolding lacks_station
  dep_station h ws (Follows w s None) g = known h w g.0
  dep_station h ws (Follows w s (Some j)) g = known h w g.0
  dep_station h ws (Plain (FollowsJob j)) g = absurd g
  dep_station h ws (Plain (FollowsStream s)) g = absurd g
  dep_station h ws (Plain (Needs r k)) g = refl
  dep_station h ws (Plain (Prompt (Global p))) g = refl
  dep_station h ws (Plain (Prompt (Own t))) g = refl
  dep_station h ws (Plain (At t)) g = refl
  dep_station h ws (Plain (Until t then_)) g = refl
  dep_station h ws (Plain (Outside path)) g = refl
  dep_station h ws (Plain (Deadline t)) g = refl

  resource_found : Names net n → (ws r : ℕ) → IsResourceOn net ws r
      → has_key n.resources (name_of net ws, resource_name net r) ≡ true
  resource_found h ws r g =
      let c = numbered_cut net.resources r g.resource g.there in
      let same : (name_of net ws, resource_name net r) ≡ key_of net g.resource =
      λ i. (ap (name_of net) (sym g.own) i, resource_named net r g.resource g.there i) in
      ap (λ k. has_key n.resources k) same
      ∙ key_there n.resources (map (key_of net) c.0) (map (key_of net) c.1) (key_of net g.resource)
      (h.resources ∙ ap (map (key_of net)) c.2 ∙ map-append (key_of net) c.0 (g.resource ∷ c.1))

  prompt_found : Names net n → (p : ℕ) (x : PromptDef) → nth net.prompts p ≡ Some x → has_name n.prompts (prompt_name net p) ≡ true
  prompt_found h p x there =
      let c = numbered_cut net.prompts p x there in
      ap (has_name n.prompts) (prompt_named net p x there)
      ∙ ap (λ l. has_name l x.name)
      (h.prompts ∙ ap (map title_of) c.2 ∙ map-append title_of c.0 (x ∷ c.1))
      ∙ name_among (map title_of c.0) (map title_of c.1) x.name

  dep_item : Names net n → (ws : ℕ) (d : DraftDep) → IsListableDep net ws d → (js : List (List ℕ))
      → lacks_item (record { jobs = js; resources = n.resources; prompts = n.prompts }) (Some (name_of net ws)) (dep_row net d)
      ≡ false
  unfolding lacks_item
  dep_item h ws (Follows w s None) g js = refl
  dep_item h ws (Follows w s (Some j)) g js = refl
  dep_item h ws (Plain (FollowsJob j)) g js = absurd g
  dep_item h ws (Plain (FollowsStream s)) g js = absurd g
  dep_item h ws (Plain (Needs r k)) g js = ap not (resource_found h ws r g.0)
  dep_item h ws (Plain (Prompt (Global p))) g js = ap not (prompt_found h p g.0 g.1)
  dep_item h ws (Plain (Prompt (Own t))) g js = refl
  dep_item h ws (Plain (At t)) g js = refl
  dep_item h ws (Plain (Until t then_)) g js = refl
  dep_item h ws (Plain (Outside path)) g js = refl
  dep_item h ws (Plain (Deadline t)) g js = refl

  dep_range : (ws : ℕ) (d : DraftDep) → IsListableDep net ws d → in_range (dep_row net d) ≡ true
  unfolding in_range dep_in_range
  dep_range ws (Follows w s None) g = refl
  dep_range ws (Follows w s (Some j)) g = refl
  dep_range ws (Plain (FollowsJob j)) g = absurd g
  dep_range ws (Plain (FollowsStream s)) g = absurd g
  dep_range ws (Plain (Needs r k)) g = refl
  dep_range ws (Plain (Prompt (Global p))) g = refl
  dep_range ws (Plain (Prompt (Own t))) g = refl
  dep_range ws (Plain (At t)) g = refl
  dep_range ws (Plain (Until t then_)) g = refl
  dep_range ws (Plain (Outside path)) g = refl
  dep_range ws (Plain (Deadline t)) g = refl

  dep_passes : Names net n → (above : List Row) (keys : List Key) (names : List (List ℕ)) (ws k : ℕ)
      → Stand above keys names (Some (name_of net ws)) k → k < 64 → (d : DraftDep) → IsListableDep net ws d
      → Clear n above (dep_row net d ∷ [])
  unfolding above_of is_bad_line is_duplicate lacks_condition is_beyond is_bad_tree
  dep_passes h above keys names ws k stand low d g =
      clear_row n above (dep_row net d)
      (λ below some.
      record {
        whole = not_last above below (dep_row net d) some;
        form = refl;
        once = refl;
        station = dep_station h ws d g;
        item = ap (λ o. lacks_item (items_around n (record { above = above; here = dep_row net d; below = below })) o (dep_row net d))
            stand.ws
            ∙ dep_item h ws d g (jobs_around above (dep_row net d ∷ below));
        range = dep_range ws d g;
        condition = refl;
        count = ap (nat_le 64) stand.deps ∙ le_refused 64 k (omega (arith, low));
        tree = refl;
        plan = refl;
      })

  dep_stands : (above : List Row) (keys : List Key) (names : List (List ℕ)) (ws : Option (List ℕ)) (k : ℕ) (d : DraftDep)
      → Stand above keys names ws k → Stand (above ++ dep_row net d ∷ []) keys names ws (k + 1)
  dep_stands above keys names ws k d s =
      record {
        streams = kept_since is_plan stream_of above (dep_row net d) refl
            ∙ append-nil (filter_map stream_of (since is_plan above)) ∙ s.streams;
        jobs = kept_since begins_stream job_of above (dep_row net d) refl
            ∙ append-nil (filter_map job_of (since begins_stream above)) ∙ s.jobs;
        ws = same_ws above (dep_row net d) refl ∙ s.ws;
        deps = counted_since is_object is_dep above (dep_row net d) refl ∙ ap (λ c. c + 1) s.deps;
      }

  deps_clear : Names net n → (keys : List Key) (names : List (List ℕ)) (ws : ℕ) (deps : List DraftDep) (above : List Row) (k : ℕ)
      → Stand above keys names (Some (name_of net ws)) k → k + length deps ≤ 64 → AllByRecursion (IsListableDep net ws) deps
      → Clear n above (dep_rows net deps)
  deps_clear h keys names ws [] above k s few all = clear_none n above
  deps_clear h keys names ws (d ∷ deps) above k s few all =
      clear_both n above (dep_row net d ∷ []) (dep_rows net deps)
      (dep_passes h above keys names ws k s (omega (arith, few)) d all.0)
      (deps_clear h keys names ws deps (above ++ dep_row net d ∷ []) (k + 1)
      (dep_stands above keys names (Some (name_of net ws)) k d s) (omega (arith, few)) all.1)

  deps_stand : (keys : List Key) (names : List (List ℕ)) (ws : Option (List ℕ)) (deps : List DraftDep) (above : List Row) (k : ℕ)
      → Stand above keys names ws k → Stand (above ++ dep_rows net deps) keys names ws (k + length deps)
  deps_stand keys names ws [] above k s =
      subst (λ l. Stand l keys names ws (k + 0)) (sym (append-nil above))
      (subst (λ c. Stand above keys names ws c) (omega arith) s)
  deps_stand keys names ws (d ∷ deps) above k s =
      let more =
      deps_stand keys names ws deps (above ++ dep_row net d ∷ []) (k + 1) (dep_stands above keys names ws k d s) in
      subst (λ l. Stand l keys names ws (k + length (d ∷ deps))) (append_assoc above (dep_row net d ∷ []) (dep_rows net deps))
      (subst (λ c. Stand ((above ++ dep_row net d ∷ []) ++ dep_rows net deps) keys names ws c)
      (let same : k + 1 + length deps ≡ k + length (d ∷ deps) = omega arith in same) more)

  -- Parts.

  abbrev IsGoodPart : PartRow → Type 0
  IsGoodPart p = (part_in_range p ≡ true) × (lacks_condition (row.Part p) ≡ false)

  part_clear : (above : List Row) (p : PartRow) → IsGoodPart p → Clear n above (row.Part p ∷ [])
  unfolding above_of is_bad_line is_duplicate lacks_station lacks_item in_range is_beyond is_bad_tree
  part_clear above p g =
      clear_row n above (row.Part p)
      (λ below some.
      record {
        whole = not_last above below (row.Part p) some;
        form = refl;
        once = refl;
        station = refl;
        item = refl;
        range = g.0;
        condition = g.1;
        count = refl;
        tree = refl;
        plan = refl;
      })

  part_stands : (above : List Row) (keys : List Key) (names : List (List ℕ)) (ws : Option (List ℕ)) (k : ℕ) (p : PartRow)
      → Stand above keys names ws k → Stand (above ++ row.Part p ∷ []) keys names ws k
  part_stands above keys names ws k p s =
      record {
        streams = kept_since is_plan stream_of above (row.Part p) refl
            ∙ append-nil (filter_map stream_of (since is_plan above)) ∙ s.streams;
        jobs = kept_since begins_stream job_of above (row.Part p) refl
            ∙ append-nil (filter_map job_of (since begins_stream above)) ∙ s.jobs;
        ws = same_ws above (row.Part p) refl ∙ s.ws;
        deps = counted_since is_object is_dep above (row.Part p) refl
            ∙ (let same : count_by is_dep (since is_object above) + 0 ≡ count_by is_dep (since is_object above) = omega arith in same)
            ∙ s.deps;
      }

  parts_clear : (ps : List PartRow) (above : List Row) → AllByRecursion IsGoodPart ps → Clear n above (map row.Part ps)
  parts_clear [] above all = clear_none n above
  parts_clear (p ∷ ps) above all =
      clear_both n above (row.Part p ∷ []) (map row.Part ps) (part_clear above p all.0)
      (parts_clear ps (above ++ row.Part p ∷ []) all.1)

  parts_stand : (keys : List Key) (names : List (List ℕ)) (ws : Option (List ℕ)) (k : ℕ) (ps : List PartRow) (above : List Row)
      → Stand above keys names ws k → Stand (above ++ map row.Part ps) keys names ws k
  parts_stand keys names ws k [] above s = subst (λ l. Stand l keys names ws k) (sym (append-nil above)) s
  parts_stand keys names ws k (p ∷ ps) above s =
      subst (λ l. Stand l keys names ws k) (append_assoc above (row.Part p ∷ []) (map row.Part ps))
      (parts_stand keys names ws k ps (above ++ row.Part p ∷ []) (part_stands above keys names ws k p s))

  -- the parts of a job are good where its condition is read
  work_good : (w : Work) → AllByRecursion IsGoodPart (work_parts w)
  unfolding part_in_range lacks_condition
  work_good (Command []) = tt
  work_good (Command (c ∷ cs)) = ((refl, refl), tt)
  work_good (Script path) = ((refl, refl), tt)

  logon_good : (t : List ℕ) → AllByRecursion IsGoodPart (logon_parts t)
  unfolding part_in_range lacks_condition
  logon_good [] = tt
  logon_good (c ∷ cs) = ((refl, refl), tt)

  cond_good : (ops : List CondOp) → IsCondLine ops → AllByRecursion IsGoodPart (cond_parts ops)
  unfolding part_in_range lacks_condition
  cond_good [] h = tt
  cond_good (op ∷ ops) h =
      let text : List ℕ = cond_text (op ∷ ops) in
      let short : nat_lt 4096 (length text) ≡ false = not_longer (length text) h.0.room in
      ((refl, ap (λ b. b || not (is_ok (read_of text))) short ∙ ap (λ r. not (is_ok r)) h.1), tt)
    where
      not_longer : (k : ℕ) → k ≤ 4096 → nat_lt 4096 k ≡ false
      not_longer k low = le_refused (suc 4096) k (omega (arith, low))

  recovery_good : (r : Recovery) → AllByRecursion IsGoodPart (recovery_parts r)
  unfolding part_in_range lacks_condition
  recovery_good Stop = tt
  recovery_good Continue = ((refl, refl), tt)
  recovery_good Rerun = ((refl, refl), tt)

  body_good : (j : JobDraft) → IsCondLine j.cond → AllByRecursion IsGoodPart (body_parts j)
  body_good j h =
      all_append IsGoodPart (work_parts j.work) (logon_parts j.logon ++ (cond_parts j.cond ++ recovery_parts j.recovery))
      (work_good j.work)
      (all_append IsGoodPart (logon_parts j.logon) (cond_parts j.cond ++ recovery_parts j.recovery) (logon_good j.logon)
      (all_append IsGoodPart (cond_parts j.cond) (recovery_parts j.recovery) (cond_good j.cond h) (recovery_good j.recovery)))

  parts_joined : (j : JobDraft) → part_rows j ≡ map row.Part (body_parts j)
  parts_joined j =
      sym
      (map-append row.Part (work_parts j.work) (logon_parts j.logon ++ (cond_parts j.cond ++ recovery_parts j.recovery))
      ∙ ap (λ l. map row.Part (work_parts j.work) ++ l)
      (map-append row.Part (logon_parts j.logon) (cond_parts j.cond ++ recovery_parts j.recovery)
      ∙ ap (λ l. map row.Part (logon_parts j.logon) ++ l)
      (map-append row.Part (cond_parts j.cond) (recovery_parts j.recovery))))

  -- Jobs.

  title_clear : Names net n → (above : List Row) (keys : List Key) (names : List (List ℕ)) (ws : Option (List ℕ)) (k : ℕ) (j : JobDraft)
      → Stand above keys names ws k → j.ws < node_count net → list_any (bytes_eq j.name) names ≡ false
      → Clear n above (row.Job (job_part net j) ∷ [])
  unfolding above_of is_bad_line is_duplicate lacks_station lacks_item in_range lacks_condition is_beyond is_bad_tree
  title_clear h above keys names ws k j s low once =
      clear_row n above (row.Job (job_part net j))
      (λ below some.
      record {
        whole = not_last above below (row.Job (job_part net j)) some;
        form = refl;
        once = ap (λ l. has_name l j.name) s.jobs ∙ once;
        station = known h j.ws low;
        item = refl;
        range = refl;
        condition = refl;
        count = refl;
        tree = refl;
        plan = refl;
      })

  title_stands : (above : List Row) (keys : List Key) (names : List (List ℕ)) (ws : Option (List ℕ)) (k : ℕ) (j : JobDraft)
      → Stand above keys names ws k
      → Stand (above ++ row.Job (job_part net j) ∷ []) keys (names ++ j.name ∷ []) (Some (name_of net j.ws)) 0
  title_stands above keys names ws k j s =
      record {
        streams = kept_since is_plan stream_of above (row.Job (job_part net j)) refl
            ∙ append-nil (filter_map stream_of (since is_plan above)) ∙ s.streams;
        jobs = kept_since begins_stream job_of above (row.Job (job_part net j)) refl ∙ ap (λ l. l ++ j.name ∷ []) s.jobs;
        ws = new_ws above (row.Job (job_part net j)) (name_of net j.ws) refl;
        deps = ap (count_by is_dep) (cut_since is_object above (row.Job (job_part net j)) refl);
      }

  job_clear : Names net n → (above : List Row) (keys : List Key) (names : List (List ℕ)) (ws : Option (List ℕ)) (k : ℕ) (j : JobDraft)
      → Stand above keys names ws k → IsListableJob net j → IsCondLine j.cond → list_any (bytes_eq j.name) names ≡ false
      → Clear n above (job_rows net j)
  job_clear h above keys names ws k j s g read once =
      let here = above ++ row.Job (job_part net j) ∷ [] in
      let first = title_stands above keys names ws k j s in
      let parts =
      parts_stand keys (names ++ j.name ∷ []) (Some (name_of net j.ws)) 0 (body_parts j) here first in
      let few : 0 + length j.deps ≤ 64 = omega (arith, g.deps.few) in
      clear_both n above (row.Job (job_part net j) ∷ []) (part_rows j ++ dep_rows net j.deps)
      (title_clear h above keys names ws k j s g.ws once)
      (subst (λ l. Clear n here (l ++ dep_rows net j.deps)) (sym (parts_joined j))
      (clear_both n here (map row.Part (body_parts j)) (dep_rows net j.deps) (parts_clear (body_parts j) here (body_good j read))
      (deps_clear h keys (names ++ j.name ∷ []) j.ws j.deps (here ++ map row.Part (body_parts j)) 0 parts few g.deps.each)))

  job_stands : (above : List Row) (keys : List Key) (names : List (List ℕ)) (ws : Option (List ℕ)) (k : ℕ) (j : JobDraft)
      → Stand above keys names ws k
      → Stand (above ++ job_rows net j) keys (names ++ j.name ∷ []) (Some (name_of net j.ws)) (length j.deps)
  job_stands above keys names ws k j s =
      let here = above ++ row.Job (job_part net j) ∷ [] in
      let after : List (List ℕ) = names ++ j.name ∷ [] in
      let own : Option (List ℕ) = Some (name_of net j.ws) in
      let parts = parts_stand keys after own 0 (body_parts j) here (title_stands above keys names ws k j s) in
      let deps = deps_stand keys after own j.deps (here ++ map row.Part (body_parts j)) 0 parts in
      let together : (here ++ map row.Part (body_parts j)) ++ dep_rows net j.deps ≡ above ++ job_rows net j =
      append_assoc here (map row.Part (body_parts j)) (dep_rows net j.deps)
      ∙ append_assoc above (row.Job (job_part net j) ∷ []) (map row.Part (body_parts j) ++ dep_rows net j.deps)
      ∙ ap (λ l. above ++ row.Job (job_part net j) ∷ (l ++ dep_rows net j.deps)) (sym (parts_joined j)) in
      subst (λ l. Stand l keys after own (length j.deps)) together
      (subst (λ c. Stand ((here ++ map row.Part (body_parts j)) ++ dep_rows net j.deps) keys after own c)
      (let same : 0 + length j.deps ≡ length j.deps = omega arith in same) deps)

  -- what stands above the next object, whatever the last one was
  record Above (above : List Row) (keys : List Key) (names : List (List ℕ)) : Type 0 where
    ws : Option (List ℕ)
    deps : ℕ
    stand : Stand above keys names ws deps

  jobs_clear : Names net n → (keys : List Key) (jobs : List JobDraft) (names : List (List ℕ)) (above : List Row)
      → Above above keys names → AllByRecursion (IsListableJob net) jobs → AllByRecursion (λ (j : JobDraft). IsCondLine j.cond) jobs
      → StandOnce bytes_eq (names ++ job_names jobs) → Clear n above (flat_map (job_rows net) jobs)
  jobs_clear h keys [] names above s all read once = clear_none n above
  jobs_clear h keys (j ∷ jobs) names above s all read once =
      let next = job_stands above keys names s.ws s.deps j s.stand in
      clear_both n above (job_rows net j) (flat_map (job_rows net) jobs)
      (job_clear h above keys names s.ws s.deps j s.stand all.0 read.0 (once names (job_names jobs) j.name refl))
      (jobs_clear h keys jobs (names ++ j.name ∷ []) (above ++ job_rows net j)
      (record { ws = Some (name_of net j.ws); deps = length j.deps; stand = next }) all.1 read.1
      (subst (λ l. StandOnce bytes_eq l) (sym (append_assoc names (j.name ∷ []) (job_names jobs))) once))

  jobs_stand : (keys : List Key) (jobs : List JobDraft) (names : List (List ℕ)) (above : List Row)
      → Above above keys names → (after : List (List ℕ)) × Above (above ++ flat_map (job_rows net) jobs) keys after
  jobs_stand keys [] names above s = (names, subst (λ l. Above l keys names) (sym (append-nil above)) s)
  jobs_stand keys (j ∷ jobs) names above s =
      let next = job_stands above keys names s.ws s.deps j s.stand in
      let rest =
      jobs_stand keys jobs (names ++ j.name ∷ []) (above ++ job_rows net j)
      (record { ws = Some (name_of net j.ws); deps = length j.deps; stand = next }) in
      (rest.0, subst (λ l. Above l keys rest.0) (append_assoc above (job_rows net j) (flat_map (job_rows net) jobs)) rest.1)

  -- Streams.

  head_clear : Names net n → (above : List Row) (keys : List Key) (names : List (List ℕ)) (s : StreamDraft) → Above above keys names
      → s.ws < node_count net → list_any (key_eq (name_of net s.ws, s.name)) keys ≡ false
      → Clear n above (row.Stream (stream_part net s) ∷ [])
  unfolding above_of is_bad_line is_duplicate lacks_station lacks_item in_range lacks_condition is_beyond is_bad_tree
  head_clear h above keys names s g low once =
      clear_row n above (row.Stream (stream_part net s))
      (λ below some.
      record {
        whole = not_last above below (row.Stream (stream_part net s)) some;
        form = refl;
        once = ap (λ l. has_key l (name_of net s.ws, s.name)) g.stand.streams ∙ once;
        station = known h s.ws low;
        item = refl;
        range = refl;
        condition = refl;
        count = refl;
        tree = refl;
        plan = refl;
      })

  head_stands : (above : List Row) (keys : List Key) (names : List (List ℕ)) (s : StreamDraft) → Above above keys names
      → Stand (above ++ row.Stream (stream_part net s) ∷ []) (keys ++ (name_of net s.ws, s.name) ∷ []) [] (Some (name_of net s.ws)) 0
  head_stands above keys names s g =
      record {
        streams = kept_since is_plan stream_of above (row.Stream (stream_part net s)) refl
            ∙ ap (λ l. l ++ (name_of net s.ws, s.name) ∷ []) g.stand.streams;
        jobs = ap (filter_map job_of) (cut_since begins_stream above (row.Stream (stream_part net s)) refl);
        ws = new_ws above (row.Stream (stream_part net s)) (name_of net s.ws) refl;
        deps = ap (count_by is_dep) (cut_since is_object above (row.Stream (stream_part net s)) refl);
      }

  stream_clear : Names net n → (above : List Row) (keys : List Key) (names : List (List ℕ)) (s : StreamDraft) → Above above keys names
      → IsGoodStream net s → list_any (key_eq (name_of net s.ws, s.name)) keys ≡ false → Clear n above (stream_rows net s)
  stream_clear h above keys names s g good once =
      let here = above ++ row.Stream (stream_part net s) ∷ [] in
      let after : List Key = keys ++ (name_of net s.ws, s.name) ∷ [] in
      let first = head_stands above keys names s g in
      let deps = deps_stand after [] (Some (name_of net s.ws)) s.deps here 0 first in
      let few : 0 + length s.deps ≤ 64 = omega (arith, good.listable.deps.few) in
      clear_both n above (row.Stream (stream_part net s) ∷ []) (dep_rows net s.deps ++ flat_map (job_rows net) s.jobs)
      (head_clear h above keys names s g good.listable.ws once)
      (clear_both n here (dep_rows net s.deps) (flat_map (job_rows net) s.jobs)
      (deps_clear h after [] s.ws s.deps here 0 first few good.listable.deps.each)
      (jobs_clear h after s.jobs [] (here ++ dep_rows net s.deps)
      (record { ws = Some (name_of net s.ws); deps = 0 + length s.deps; stand = deps }) good.listable.jobs good.read
      good.listable.once))

  stream_stands : (above : List Row) (keys : List Key) (names : List (List ℕ)) (s : StreamDraft) → Above above keys names
      → (after : List (List ℕ)) × Above (above ++ stream_rows net s) (keys ++ (name_of net s.ws, s.name) ∷ []) after
  stream_stands above keys names s g =
      let here = above ++ row.Stream (stream_part net s) ∷ [] in
      let after : List Key = keys ++ (name_of net s.ws, s.name) ∷ [] in
      let deps = deps_stand after [] (Some (name_of net s.ws)) s.deps here 0 (head_stands above keys names s g) in
      let jobs =
      jobs_stand after s.jobs [] (here ++ dep_rows net s.deps)
      (record { ws = Some (name_of net s.ws); deps = 0 + length s.deps; stand = deps }) in
      let together : (here ++ dep_rows net s.deps) ++ flat_map (job_rows net) s.jobs ≡ above ++ stream_rows net s =
      append_assoc here (dep_rows net s.deps) (flat_map (job_rows net) s.jobs)
      ∙ append_assoc above (row.Stream (stream_part net s) ∷ []) (dep_rows net s.deps ++ flat_map (job_rows net) s.jobs) in
      (jobs.0, subst (λ l. Above l after jobs.0) together jobs.1)

  streams_clear : Names net n → (drafts : List StreamDraft) (keys : List Key) (names : List (List ℕ)) (above : List Row)
      → Above above keys names → AllByRecursion (IsGoodStream net) drafts → StandOnce key_eq (keys ++ stream_keys net drafts)
      → Clear n above (plan_rows net drafts)
  streams_clear h [] keys names above g all once = clear_none n above
  streams_clear h (s ∷ drafts) keys names above g all once =
      let next = stream_stands above keys names s g in
      clear_both n above (stream_rows net s) (plan_rows net drafts)
      (stream_clear h above keys names s g all.0 (once keys (stream_keys net drafts) (name_of net s.ws, s.name) refl))
      (streams_clear h drafts (keys ++ (name_of net s.ws, s.name) ∷ []) next.0 (above ++ stream_rows net s) next.1 all.1
      (subst (λ l. StandOnce key_eq l)
      (sym (append_assoc keys ((name_of net s.ws, s.name) ∷ []) (stream_keys net drafts))) once))

  -- The section.

  section_clear : (above : List Row) → Clear n above (row.Plan ∷ [])
  unfolding above_of is_bad_line is_duplicate lacks_station lacks_item in_range lacks_condition is_beyond is_bad_tree
  section_clear above =
      clear_row n above row.Plan
      (λ below some.
      record {
        whole = not_last above below row.Plan some;
        form = refl;
        once = refl;
        station = refl;
        item = refl;
        range = refl;
        condition = refl;
        count = refl;
        tree = refl;
        plan = refl;
      })

  section_stands : (above : List Row) → Above (above ++ row.Plan ∷ []) [] []
  section_stands above =
      record {
        ws = _;
        deps = _;
        stand = record {
          streams = ap (filter_map stream_of) (cut_since is_plan above row.Plan refl);
          jobs = ap (filter_map job_of) (cut_since begins_stream above row.Plan refl);
          ws = refl;
          deps = refl;
        };
      }

  pub plan_clear : Names net n → (drafts : List StreamDraft) (above : List Row) → AllByRecursion (IsGoodStream net) drafts
      → StandOnce key_eq (stream_keys net drafts) → Clear n above (row.Plan ∷ plan_rows net drafts)
  plan_clear h drafts above all once =
      clear_both n above (row.Plan ∷ []) (plan_rows net drafts) (section_clear above)
      (streams_clear h drafts [] [] (above ++ row.Plan ∷ []) (section_stands above) all once)
