-- What the rows of a plan mean: its drafts.
use Rattle.std.proofs.Common.{◌≡◌, ◌<◌, ◌≤◌, ◌+◌, ℕ, suc, true, false, not, cond, List, [], ◌∷◌, ◌++◌}
use Rattle.std.proofs.Common.{Option, Some, None, length, refl, ap, sym, ◌∙◌, arith, flat_map, map, append-nil, append_assoc}
use Rattle.std.proofs.Common.{bytes_eq, length-append, subst, unwrap_or, if◌then◌else◌}
use Rattle.std.specs.Prelude.{filter_map, nat_lt}
use Rattle.std.specs.List.{AllByRecursion, list_any, position_or_len, prefix_len}
use Rattle.std.proofs.lemmas.List.{length-map, map-append}
use Rattle.lemmas.proofs.Booleans.{neither}
use Rattle.lemmas.proofs.Lists.{all_left, all_middle}
use Rattle.lemmas.proofs.Numbers.{le_refused}
use Rattle.lemmas.proofs.Texts.{text_itself}
use Rattle.base_types.specs.declared.Recovery.TheVariants.{Stop, Continue, Rerun}
use Rattle.history_laws.proofs.Accepted.{Accepted, IsGood, good_each}
use Rattle.history_laws.proofs.Histories.{found_by}
use Rattle.history_laws.proofs.Named.{key_of, keys_other, label, number}
use Rattle.model.specs.Network.{node_count}
use Rattle.model.specs.Types.{CondOp, DraftDep, JobDraft, Net, PromptDef, Recovery, StreamDraft, Work, Command, Script}
use Rattle.model.specs.Types.{FollowsJob, FollowsStream, Needs, Prompt, At, Until, Outside, Deadline, Global, Own, Follows, Plain}
use Rattle.model.specs.Words.{nth}
use Rattle.network_tree.specs.Faults.{are_one_prompt}
use Rattle.plan_listing.specs.Conditions.{cond_text}
use Rattle.plan_listing.specs.Dependencies.{prompt_name, resource_name}
use Rattle.rc_conditions.specs.Machine.{read_of}
use Rattle.record_faults.specs.Known.{Key, begins_stream, is_object, key_eq, until}
use Rattle.record_rows.specs.declared.rows.JobRow.{JobRow}
use Rattle.record_rows.specs.declared.rows.PartRow.TheVariants as part
use Rattle.record_rows.specs.declared.rows.Ranged.TheVariants.{Within}
use Rattle.record_rows.specs.declared.rows.Row.{Row}
use Rattle.record_rows.specs.declared.rows.Row.TheVariants as row
use Rattle.record_rows.specs.declared.rows.StreamRow.{StreamRow}
use Rattle.record_script.specs.Networks.{first_or}
use Rattle.record_script.specs.Numbers.{Numbered, place_of, place_of_key, prompt_no, resource_no, ws_no}
use Rattle.record_script.specs.Plans.{cond_in, condition, dep_in, draft_of, each, job_draft, job_in, jobs_in, logon_in, operations, recovery_in}
use Rattle.record_script.specs.Plans.{stream_draft, stream_in, streams_in, work_in}
use Rattle.report_text.specs.Names.{name_of}
use Rattle.listing_laws.specs.Listables.{IsListableDep, IsListableJob, IsResourceOn}
use Rattle.listing_laws.proofs.DepLines.{dep_part}
use Rattle.listing_laws.proofs.RowKinds.{deps_are, in_job, in_stream, inside_job, inside_stream, is_dep}
use Rattle.listing_laws.proofs.HeadLines.{job_part, stream_part}
use Rattle.listing_laws.proofs.ObjectLines.{IsCondLine, cond_parts, dep_rows, job_rows, logon_parts, part_rows, recovery_parts}
use Rattle.listing_laws.proofs.ObjectLines.{work_parts}
use Rattle.listing_laws.proofs.KnownNames.{numbered_cut, prompt_named, resource_named, title_of}
use Rattle.listing_laws.proofs.Passing.{IsGoodStream}
use Rattle.listing_laws.proofs.Picks.{each_past, first_past, listed, until_past}
use Rattle.listing_laws.proofs.Placed.{plan_rows}

-- The place of a key and of a name.

key_place : (k : Key) (before behind : List Key) → list_any (key_eq k) before ≡ false
    → position_or_len (key_eq k) (before ++ k ∷ behind) ≡ length before
key_place k [] behind free =
    let here : key_eq k k ≡ true = rw (text_itself k.0, text_itself k.1) refl in
    ap (λ t. cond (not t) (1 + prefix_len (λ x. not (key_eq k x)) behind) 0) here
key_place k (x ∷ before) behind free =
    let parts = neither (key_eq k x) (list_any (key_eq k) before) free in
    ap (λ t. cond (not t) (1 + prefix_len (λ y. not (key_eq k y)) (before ++ k ∷ behind)) 0) parts.0
    ∙ ap (λ n. 1 + n) (key_place k before behind parts.1) ∙ omega arith

prompt_place : (p : PromptDef) (before behind : List PromptDef) → list_any (are_one_prompt p) before ≡ false
    → position_or_len (bytes_eq p.name) (map title_of (before ++ p ∷ behind)) ≡ length before
prompt_place p [] behind free =
    ap (λ t. cond (not t) (1 + prefix_len (λ x. not (bytes_eq p.name x)) (map title_of behind)) 0) (text_itself p.name)
prompt_place p (x ∷ before) behind free =
    let parts = neither (bytes_eq p.name x.name) (list_any (are_one_prompt p) before) free in
    ap (λ t. cond (not t) (1 + prefix_len (λ y. not (bytes_eq p.name y)) (map title_of (before ++ p ∷ behind))) 0) parts.0
    ∙ ap (λ n. 1 + n) (prompt_place p before behind parts.1) ∙ omega arith

-- a place in front of a list
placed_by : (p k long : ℕ) → p ≡ k → k < long → unwrap_or (cond (nat_lt p long) (Some p) None) 0 ≡ k
placed_by p k long is low = ap (λ o. unwrap_or o 0) (found_by p k long is low)

-- What is picked first, past parts and dependencies.

module _ {A : Type 0} (other : A) (pick : Row → Option A) where
  past_work : ((p : _) → pick (row.Part (part.Command p)) ≡ None) → ((p : _) → pick (row.Part (part.Script p)) ≡ None)
      → (w : Work) (rest : List Row) → first_or other pick (map row.Part (work_parts w) ++ rest) ≡ first_or other pick rest
  past_work command script (Command []) rest = refl
  past_work command script (Command (c ∷ cs)) rest =
      ap (λ o. unwrap_or o (first_or other pick rest)) (command (Within (c ∷ cs)))
  past_work command script (Script path) rest = ap (λ o. unwrap_or o (first_or other pick rest)) (script (Within path))

  past_logon : ((p : _) → pick (row.Part (part.Logon p)) ≡ None) → (t : List ℕ) (rest : List Row)
      → first_or other pick (map row.Part (logon_parts t) ++ rest) ≡ first_or other pick rest
  past_logon none [] rest = refl
  past_logon none (c ∷ cs) rest = ap (λ o. unwrap_or o (first_or other pick rest)) (none (Within (c ∷ cs)))

  past_cond : ((p : _) → pick (row.Part (part.Cond p)) ≡ None) → (ops : List CondOp) (rest : List Row)
      → first_or other pick (map row.Part (cond_parts ops) ++ rest) ≡ first_or other pick rest
  past_cond none [] rest = refl
  past_cond none (op ∷ ops) rest = ap (λ o. unwrap_or o (first_or other pick rest)) (none (Within (cond_text (op ∷ ops))))

  past_recovery : ((p : _) → pick (row.Part (part.Recovery p)) ≡ None) → (r : Recovery) (rest : List Row)
      → first_or other pick (map row.Part (recovery_parts r) ++ rest) ≡ first_or other pick rest
  past_recovery none Stop rest = refl
  past_recovery none Continue rest = ap (λ o. unwrap_or o (first_or other pick rest)) (none Continue)
  past_recovery none Rerun rest = ap (λ o. unwrap_or o (first_or other pick rest)) (none Rerun)

  past_deps : ((r : Row) → is_dep r ≡ true → pick r ≡ None) → (net : Net) (deps : List DraftDep)
      → first_or other pick (dep_rows net deps) ≡ other
  past_deps none net deps =
      ap (first_or other pick) (sym (append-nil (dep_rows net deps)))
      ∙ first_past is_dep other pick none (dep_rows net deps) [] (listed is_dep (dep_rows net deps) (deps_are net deps))

-- no dependency is picked
dep_no_work : (r : Row) → is_dep r ≡ true → work_in r ≡ None
dep_no_work (row.Dep d) e = refl
dep_no_work r e = absurd (cc)

dep_no_logon : (r : Row) → is_dep r ≡ true → logon_in r ≡ None
dep_no_logon (row.Dep d) e = refl
dep_no_logon r e = absurd (cc)

dep_no_cond : (r : Row) → is_dep r ≡ true → cond_in r ≡ None
dep_no_cond (row.Dep d) e = refl
dep_no_cond r e = absurd (cc)

dep_no_recovery : (r : Row) → is_dep r ≡ true → recovery_in r ≡ None
dep_no_recovery (row.Dep d) e = refl
dep_no_recovery r e = absurd (cc)

dep_no_job : (r : Row) → is_dep r ≡ true → job_in r ≡ None
dep_no_job (row.Dep d) e = refl
dep_no_job r e = absurd (cc)

part_no_job : (r : Row) → in_job r ≡ true → job_in r ≡ None
part_no_job (row.Part p) e = refl
part_no_job (row.Dep d) e = refl
part_no_job r e = absurd (cc)

no_object : (r : Row) → in_job r ≡ true → is_object r ≡ false
no_object (row.Part p) e = refl
no_object (row.Dep d) e = refl
no_object r e = absurd (cc)

dep_no_object : (r : Row) → is_dep r ≡ true → is_object r ≡ false
dep_no_object (row.Dep d) e = refl
dep_no_object r e = absurd (cc)

no_begin : (r : Row) → in_stream r ≡ true → begins_stream r ≡ false
no_begin (row.Job j) e = refl
no_begin (row.Part p) e = refl
no_begin (row.Dep d) e = refl
no_begin r e = absurd (cc)

no_stream : (r : Row) → in_stream r ≡ true → stream_in r ≡ None
no_stream (row.Job j) e = refl
no_stream (row.Part p) e = refl
no_stream (row.Dep d) e = refl
no_stream r e = absurd (cc)

-- the one that is there

work_first : (w : Work) (rest : List Row) → first_or (Command []) work_in rest ≡ Command []
    → first_or (Command []) work_in (map row.Part (work_parts w) ++ rest) ≡ w
work_first (Command []) rest none = none
work_first (Command (c ∷ cs)) rest none = refl
work_first (Script path) rest none = refl

logon_first : (t : List ℕ) (rest : List Row) → first_or [] logon_in rest ≡ []
    → first_or [] logon_in (map row.Part (logon_parts t) ++ rest) ≡ t
logon_first [] rest none = none
logon_first (c ∷ cs) rest none = refl

condition_back : (op : CondOp) (ops : List CondOp) → IsCondLine (op ∷ ops) → condition (cond_text (op ∷ ops)) ≡ op ∷ ops
condition_back op ops h =
    let text : List ℕ = cond_text (op ∷ ops) in
    let short : nat_lt 4096 (length text) ≡ false = not_longer (length text) h.0.room in
    ap (λ b. if b then [] else operations (read_of text)) short ∙ ap operations h.1
  where
    not_longer : (k : ℕ) → k ≤ 4096 → nat_lt 4096 k ≡ false
    not_longer k low = le_refused (suc 4096) k (omega (arith, low))

cond_first : (ops : List CondOp) (rest : List Row) → IsCondLine ops → first_or [] cond_in rest ≡ []
    → first_or [] cond_in (map row.Part (cond_parts ops) ++ rest) ≡ ops
cond_first [] rest h none = none
cond_first (op ∷ ops) rest h none = condition_back op ops h

recovery_first : (r : Recovery) (rest : List Row) → first_or Stop recovery_in rest ≡ Stop
    → first_or Stop recovery_in (map row.Part (recovery_parts r) ++ rest) ≡ r
recovery_first Stop rest none = none
recovery_first Continue rest none = refl
recovery_first Rerun rest none = refl

gathered : (w l c r d : List Row) → (w ++ (l ++ (c ++ r))) ++ d ≡ w ++ (l ++ (c ++ (r ++ d)))
gathered w l c r d = simp append_assoc

-- what a record numbers
pub record Numbers (net : Net) (n : Numbered) : Type 0 where
  pub stations : n.stations ≡ map label net.nodes
  pub resources : n.resources ≡ map (key_of net) net.resources
  pub prompts : n.prompts ≡ map title_of net.prompts

module _ (net : Net) (a : Accepted net) (n : Numbered) where
  station_back : Numbers net n → (w : ℕ) → w < node_count net → ws_no n (name_of net w) ≡ w
  station_back h w low = ap (λ l. place_of l (name_of net w)) h.stations ∙ number net a w low

  resource_back : Numbers net n → (ws r : ℕ) → IsResourceOn net ws r → resource_no n (name_of net ws, resource_name net r) ≡ r
  resource_back h ws r g =
      let c = numbered_cut net.resources r g.resource g.there in
      let k : Key = key_of net g.resource in
      let same : (name_of net ws, resource_name net r) ≡ k =
      λ i. (ap (name_of net) (sym g.own) i, resource_named net r g.resource g.there i) in
      let good = good_each net net.resources a.good in
      let split : AllByRecursion (IsGood net) (c.0 ++ g.resource ∷ c.1) = subst (AllByRecursion (IsGood net)) c.2 good in
      let free : list_any (key_eq k) (map (key_of net) c.0) ≡ false =
      keys_other net a g.resource c.0 (all_middle (IsGood net) c.0 c.1 g.resource split).ws
      (all_left (IsGood net) c.0 (g.resource ∷ c.1) split) (a.resources.once c.0 c.1 g.resource c.2) in
      let keys : n.resources ≡ map (key_of net) c.0 ++ k ∷ map (key_of net) c.1 =
      h.resources ∙ ap (map (key_of net)) c.2 ∙ map-append (key_of net) c.0 (g.resource ∷ c.1) in
      let front : List Key = map (key_of net) c.0 in
      let all : List Key = front ++ k ∷ map (key_of net) c.1 in
      ap (resource_no n) same
      ∙ ap (λ l. place_of_key l k + 1) keys
      ∙ ap (λ p. p + 1)
      (placed_by (position_or_len (key_eq k) all) (length front) (length all) (key_place k front (map (key_of net) c.1) free)
      (omega (arith, length-append front (k ∷ map (key_of net) c.1))))
      ∙ ap (λ p. p + 1) (length-map c.0 (key_of net))
      ∙ (let last : length c.0 + 1 ≡ suc (length c.0) = omega arith in last) ∙ c.3

  prompt_back : Numbers net n → (p : ℕ) (x : PromptDef) → nth net.prompts p ≡ Some x → prompt_no n (prompt_name net p) ≡ p
  prompt_back h p x there =
      let c = numbered_cut net.prompts p x there in
      let all : List (List ℕ) = map title_of (c.0 ++ x ∷ c.1) in
      ap (prompt_no n) (prompt_named net p x there)
      ∙ ap (λ l. place_of l x.name + 1) (h.prompts ∙ ap (map title_of) c.2)
      ∙ ap (λ k. k + 1)
      (placed_by (position_or_len (bytes_eq x.name) all) (length c.0) (length all)
      (prompt_place x c.0 c.1 (a.prompts.once c.0 c.1 x c.2))
      (omega (arith, length-map (c.0 ++ x ∷ c.1) title_of, length-append c.0 (x ∷ c.1))))
      ∙ (let last : length c.0 + 1 ≡ suc (length c.0) = omega arith in last) ∙ c.3

  dep_back : Numbers net n → (s : StreamRow) (ws : ℕ) (d : DraftDep) → IsListableDep net ws d
      → draft_of n s (name_of net ws) (dep_part net d) ≡ d
  unfolding draft_of
  dep_back h s ws (Follows w name None) g = ap (λ k. Follows k name None) (station_back h w g.0)
  dep_back h s ws (Follows w name (Some job)) g = ap (λ k. Follows k name (Some job)) (station_back h w g.0)
  dep_back h s ws (Plain (FollowsJob j)) g = absurd g
  dep_back h s ws (Plain (FollowsStream j)) g = absurd g
  dep_back h s ws (Plain (Needs r k)) g = ap (λ x. Plain (Needs x k)) (resource_back h ws r g.0)
  dep_back h s ws (Plain (Prompt (Global p))) g = ap (λ x. Plain (Prompt (Global x))) (prompt_back h p g.0 g.1)
  dep_back h s ws (Plain (Prompt (Own t))) g = refl
  dep_back h s ws (Plain (At t)) g = refl
  dep_back h s ws (Plain (Until t then_)) g = refl
  dep_back h s ws (Plain (Outside path)) g = refl
  dep_back h s ws (Plain (Deadline t)) g = refl

  deps_back : Numbers net n → (s : StreamRow) (ws : ℕ) (deps : List DraftDep) → AllByRecursion (IsListableDep net ws) deps
      → filter_map (dep_in n s (name_of net ws)) (dep_rows net deps) ≡ deps
  deps_back h s ws [] all = refl
  deps_back h s ws (d ∷ deps) all =
      ap (λ x. x ∷ filter_map (dep_in n s (name_of net ws)) (dep_rows net deps)) (dep_back h s ws d all.0)
      ∙ ap (λ l. d ∷ l) (deps_back h s ws deps all.1)

  -- no dependency stands among the parts
  no_deps : (s : StreamRow) (ws : List ℕ) (ps : List _) (rest : List Row)
      → filter_map (dep_in n s ws) (map row.Part ps ++ rest) ≡ filter_map (dep_in n s ws) rest
  no_deps s ws [] rest = refl
  no_deps s ws (p ∷ ps) rest = no_deps s ws ps rest

  parts_no_deps : (s : StreamRow) (ws : List ℕ) (j : JobDraft) (rest : List Row)
      → filter_map (dep_in n s ws) (part_rows j ++ rest) ≡ filter_map (dep_in n s ws) rest
  parts_no_deps s ws j rest =
      ap (filter_map (dep_in n s ws))
      (gathered (map row.Part (work_parts j.work)) (map row.Part (logon_parts j.logon)) (map row.Part (cond_parts j.cond))
      (map row.Part (recovery_parts j.recovery)) rest)
      ∙ no_deps s ws (work_parts j.work) _ ∙ no_deps s ws (logon_parts j.logon) _ ∙ no_deps s ws (cond_parts j.cond) _
      ∙ no_deps s ws (recovery_parts j.recovery) rest

  -- A job, where the rows behind it end it.

  job_is : Numbers net n → (s : StreamRow) (j : JobDraft) (more : List Row) → IsListableJob net j → IsCondLine j.cond
      → until is_object more ≡ [] → job_draft n s (job_part net j) ((part_rows j ++ dep_rows net j.deps) ++ more) ≡ j
  unfolding job_draft
  job_is h s j more g read ends =
      let own : List Row = part_rows j ++ dep_rows net j.deps in
      let inner : until is_object (own ++ more) ≡ own =
      until_past in_job is_object no_object own more (listed in_job own (inside_job net j)) ∙ ap (λ l. own ++ l) ends
      ∙ append-nil own in
      let work_ : List Row = map row.Part (work_parts j.work) in
      let logon_ : List Row = map row.Part (logon_parts j.logon) in
      let cond_ : List Row = map row.Part (cond_parts j.cond) in
      let recovery_ : List Row = map row.Part (recovery_parts j.recovery) in
      let deps_ : List Row = dep_rows net j.deps in
      let whole : until is_object (own ++ more) ≡ work_ ++ (logon_ ++ (cond_ ++ (recovery_ ++ deps_))) =
      inner ∙ gathered work_ logon_ cond_ recovery_ deps_ in
      let ws : ws_no n (name_of net j.ws) ≡ j.ws = station_back h j.ws g.ws in
      let work : first_or (Command []) work_in (until is_object (own ++ more)) ≡ j.work =
      ap (first_or (Command []) work_in) whole
      ∙ work_first j.work (logon_ ++ (cond_ ++ (recovery_ ++ deps_)))
      (past_logon (Command []) work_in (λ p. refl) j.logon (cond_ ++ (recovery_ ++ deps_))
      ∙ past_cond (Command []) work_in (λ p. refl) j.cond (recovery_ ++ deps_)
      ∙ past_recovery (Command []) work_in (λ p. refl) j.recovery deps_
      ∙ past_deps (Command []) work_in dep_no_work net j.deps) in
      let logon : first_or [] logon_in (until is_object (own ++ more)) ≡ j.logon =
      ap (first_or [] logon_in) whole
      ∙ past_work [] logon_in (λ p. refl) (λ p. refl) j.work (logon_ ++ (cond_ ++ (recovery_ ++ deps_)))
      ∙ logon_first j.logon (cond_ ++ (recovery_ ++ deps_))
      (past_cond [] logon_in (λ p. refl) j.cond (recovery_ ++ deps_)
      ∙ past_recovery [] logon_in (λ p. refl) j.recovery deps_
      ∙ past_deps [] logon_in dep_no_logon net j.deps) in
      let condition_ : first_or [] cond_in (until is_object (own ++ more)) ≡ j.cond =
      ap (first_or [] cond_in) whole
      ∙ past_work [] cond_in (λ p. refl) (λ p. refl) j.work (logon_ ++ (cond_ ++ (recovery_ ++ deps_)))
      ∙ past_logon [] cond_in (λ p. refl) j.logon (cond_ ++ (recovery_ ++ deps_))
      ∙ cond_first j.cond (recovery_ ++ deps_) read
      (past_recovery [] cond_in (λ p. refl) j.recovery deps_ ∙ past_deps [] cond_in dep_no_cond net j.deps) in
      let recovery : first_or Stop recovery_in (until is_object (own ++ more)) ≡ j.recovery =
      ap (first_or Stop recovery_in) whole
      ∙ past_work Stop recovery_in (λ p. refl) (λ p. refl) j.work (logon_ ++ (cond_ ++ (recovery_ ++ deps_)))
      ∙ past_logon Stop recovery_in (λ p. refl) j.logon (cond_ ++ (recovery_ ++ deps_))
      ∙ past_cond Stop recovery_in (λ p. refl) j.cond (recovery_ ++ deps_)
      ∙ recovery_first j.recovery deps_ (past_deps Stop recovery_in dep_no_recovery net j.deps) in
      let deps : filter_map (dep_in n s (name_of net j.ws)) (until is_object (own ++ more)) ≡ j.deps =
      ap (filter_map (dep_in n s (name_of net j.ws))) inner ∙ parts_no_deps s (name_of net j.ws) j deps_
      ∙ deps_back h s j.ws j.deps g.deps.each in
      λ i. record {
        ws = ws i;
        name = j.name;
        priority = j.priority;
        work = work i;
        logon = logon i;
        cond = condition_ i;
        recovery = recovery i;
        deps = deps i;
      }

  -- where jobs stand behind it, or nothing
  jobs_end : (jobs : List JobDraft) → until is_object (flat_map (job_rows net) jobs) ≡ []
  jobs_end [] = refl
  jobs_end (j ∷ jobs) = refl

  abbrev drafted : StreamRow → List (JobRow × List Row) → List JobDraft
  drafted s ps = map (λ (p : JobRow × List Row). job_draft n s p.0 p.1) ps

  jobs_are : Numbers net n → (s : StreamRow) (jobs : List JobDraft) → AllByRecursion (IsListableJob net) jobs
      → AllByRecursion (λ (j : JobDraft). IsCondLine j.cond) jobs
      → drafted s (each job_in (flat_map (job_rows net) jobs)) ≡ jobs
  jobs_are h s [] all read = refl
  jobs_are h s (j ∷ jobs) all read =
      let own : List Row = part_rows j ++ dep_rows net j.deps in
      let more : List Row = flat_map (job_rows net) jobs in
      ap (λ l. drafted s ((job_part net j, own ++ more) ∷ l))
      (each_past in_job job_in part_no_job own more (listed in_job own (inside_job net j)))
      ∙ ap (λ x. x ∷ drafted s (each job_in more)) (job_is h s j more all.0 read.0 (jobs_end jobs))
      ∙ ap (λ l. j ∷ l) (jobs_are h s jobs all.1 read.1)

  -- A stream, where the rows behind it end it.

  stream_is : Numbers net n → (s : StreamDraft) (more : List Row) → IsGoodStream net s → until begins_stream more ≡ []
      → stream_draft n (stream_part net s) ((dep_rows net s.deps ++ flat_map (job_rows net) s.jobs) ++ more) ≡ s
  unfolding stream_draft
  stream_is h s more g ends =
      let row_ : StreamRow = stream_part net s in
      let deps_ : List Row = dep_rows net s.deps in
      let jobs_ : List Row = flat_map (job_rows net) s.jobs in
      let own : List Row = deps_ ++ jobs_ in
      let inner : until begins_stream (own ++ more) ≡ own =
      until_past in_stream begins_stream no_begin own more (listed in_stream own (inside_stream net s)) ∙ ap (λ l. own ++ l) ends
      ∙ append-nil own in
      let before_jobs : until is_object own ≡ deps_ =
      until_past is_dep is_object dep_no_object deps_ jobs_ (listed is_dep deps_ (deps_are net s.deps))
      ∙ ap (λ l. deps_ ++ l) (jobs_end s.jobs) ∙ append-nil deps_ in
      let ws : ws_no n (name_of net s.ws) ≡ s.ws = station_back h s.ws g.listable.ws in
      let deps : filter_map (dep_in n row_ (name_of net s.ws)) (until is_object (until begins_stream (own ++ more))) ≡ s.deps =
      ap (λ l. filter_map (dep_in n row_ (name_of net s.ws)) (until is_object l)) inner
      ∙ ap (filter_map (dep_in n row_ (name_of net s.ws))) before_jobs
      ∙ deps_back h row_ s.ws s.deps g.listable.deps.each in
      let jobs : jobs_in n row_ (until begins_stream (own ++ more)) ≡ s.jobs =
      ap (λ l. jobs_in n row_ l) inner
      ∙ ap (drafted row_) (each_past is_dep job_in dep_no_job deps_ jobs_ (listed is_dep deps_ (deps_are net s.deps)))
      ∙ jobs_are h row_ s.jobs g.listable.jobs g.read in
      λ i. record {
        ws = ws i;
        name = s.name;
        priority = s.priority;
        limit = s.limit;
        carry = s.carry;
        deps = deps i;
        jobs = jobs i;
      }

  streams_end : (drafts : List StreamDraft) → until begins_stream (plan_rows net drafts) ≡ []
  streams_end [] = refl
  streams_end (s ∷ drafts) = refl

  pub streams_are : Numbers net n → (drafts : List StreamDraft) → AllByRecursion (IsGoodStream net) drafts
      → streams_in n (plan_rows net drafts) ≡ drafts
  streams_are h [] all = refl
  streams_are h (s ∷ drafts) all =
      let own : List Row = dep_rows net s.deps ++ flat_map (job_rows net) s.jobs in
      let more : List Row = plan_rows net drafts in
      ap (λ l. map (λ (p : StreamRow × List Row). stream_draft n p.0 p.1) ((stream_part net s, own ++ more) ∷ l))
      (each_past in_stream stream_in no_stream own more (listed in_stream own (inside_stream net s)))
      ∙ ap (λ x. x ∷ streams_in n more) (stream_is h s more all.0 (streams_end drafts))
      ∙ ap (λ l. s ∷ l) (streams_are h drafts all.1)
