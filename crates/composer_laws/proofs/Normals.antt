-- The normal form of definitions that may be written may be written.
use Rattle.std.proofs.Common.{◌≡◌, ◌⊎◌, inl, inr, ◌<◌, ℕ, suc, Bool, true, false, cond, eqb, List, [], ◌∷◌, ◌++◌, map, filter, flat_map, filter_map, Option, Some, None, option_map, refl, ap, sym, subst, ◌∙◌, arith, append-nil, codes, ◌||◌}
use Rattle.std.specs.List.{list_any}
use Rattle.std.specs.Str.{bytes_eq}
use Rattle.std.proofs.lemmas.List.Folds.{list_any-append}
use Rattle.composer_print.proofs.Joins.{items_unlined}
use Rattle.composer_parser.specs.declared.definitions.Lined.{Lined}
use Rattle.composer_parser.specs.declared.definitions.Defs.{Defs}
use Rattle.composer_parser.specs.declared.definitions.CpuDef.{CpuDef}
use Rattle.composer_parser.specs.declared.definitions.DomainDef.{DomainDef}
use Rattle.composer_parser.specs.declared.clauses.Clause.{Clause}
use Rattle.composer_parser.specs.declared.clauses.Clause.TheVariants.{At, Until, Deadline, Priority, Limit, CarryForward, Follows, Needs, Prompt, Opens as Files}
use Rattle.composer_parser.specs.declared.clauses.Pred.{Pred}
use Rattle.composer_parser.specs.declared.clauses.PredPart.{PredPart}
use Rattle.composer_parser.specs.declared.clauses.PredPart.TheVariants as part
use Rattle.composer_parser.specs.declared.clauses.Need.{Need}
use Rattle.composer_parser.specs.declared.clauses.PromptItem.{PromptItem}
use Rattle.composer_parser.specs.declared.schedules.EntryDef.{EntryDef}
use Rattle.composer_parser.specs.declared.schedules.ScheduleDef.{ScheduleDef}
use Rattle.composer_parser.specs.Clauses.{is_at, is_until, is_deadline, is_priority, is_limit, is_carry}
use Rattle.composer_print.specs.Texts.{unless, item_of}
use Rattle.composer_print.specs.Stations.{unless_utc}
use Rattle.composer_print.specs.Scopes.{or_home, is_own, pred_ws, whole_part, normal_pred, normal_need, is_own_priority, is_of, preds_in, needs_in, prompts_in, files_in, follows_of, needs_of, prompt_of, opens_of, normal_clauses}
use Rattle.composer_print.specs.Streams.{items}
use Rattle.composer_print.specs.Normal.{unlined, bare, bare_cpu, manager_of, only, master_of, entry_names, normal_entry}
use Rattle.composer_print.specs.Normal.{normal_schedule, normal}
use Rattle.composer_laws.specs.Written.{IsName, IsText, IsNumber, IsTime, WhenGiven, Each, IsList, IsCpu, IsDomain, IsPart, IsPred, IsNeed, IsPromptItem, IsClause, Stands, AreClauses, IsOn, IsEntry, IsSchedule, AreDefs}

-- defaults
kept_unless : (P : ℕ → Type 0) (k : ℕ) (o : Option ℕ) → WhenGiven P o → WhenGiven P (unless k o)
kept_unless P k None h = tt
kept_unless P k (Some n) h = by_test (eqb n k)
  where
    by_test : (b : Bool) → WhenGiven P (cond b None (Some n))
    by_test true = tt
    by_test false = h

kept_zone : (o : Option (List ℕ)) → WhenGiven IsText o → WhenGiven IsText (unless_utc o)
kept_zone None h = tt
kept_zone (Some z) h = by_test (bytes_eq z (codes "UTC"))
  where
    by_test : (b : Bool) → WhenGiven IsText (cond b None (Some z))
    by_test true = tt
    by_test false = h

kept_unlined : {A : Type 0} (P : A → Type 0) (o : Option A) → WhenGiven P o → WhenGiven P (item_of (option_map unlined o))
kept_unlined P None h = tt
kept_unlined P (Some a) h = h

kept_cpus : (xs : List (Lined CpuDef)) → Each IsCpu (items xs) → Each IsCpu (items (map bare_cpu xs))
kept_cpus [] h = tt
kept_cpus (x ∷ xs) h =
    let c = h.0 in (
      record {
        name = c.name;
        os = c.os;
        high = c.high;
        host = c.host;
        port = kept_unless IsNumber 31111 x.item.port c.port;
        domain = c.domain;
      },
      kept_cpus xs h.1,
    )

kept_bare : {A : Type 0} (P : A → Type 0) (xs : List (Lined A)) → Each P (items xs) → Each P (items (map bare xs))
kept_bare P [] h = tt
kept_bare P (x ∷ xs) h = (h.0, kept_bare P xs h.1)

-- names
kept_home : (ws home : Option (List ℕ)) → WhenGiven IsName ws → WhenGiven IsName home → WhenGiven IsName (or_home ws home)
kept_home None home h k = k
kept_home (Some w) home h k = h

kept_pred_ws : (names : List (List ℕ)) (home : Option (List ℕ)) (p : Pred) → WhenGiven IsName p.ws → WhenGiven IsName home
    → WhenGiven IsName (pred_ws names home p)
kept_pred_ws names home p h k = by_test (is_own names p)
  where
    by_test : (b : Bool) → WhenGiven IsName (cond b p.ws (or_home p.ws home))
    by_test true = h
    by_test false = kept_home p.ws home h k

kept_part : (q : PredPart) (ws : Option (List ℕ)) → IsPart q → IsPart (whole_part q ws)
kept_part part.Plain ws h = tt
kept_part part.All None h = tt
kept_part part.All (Some w) h = tt
kept_part (part.Job j) ws h = h

kept_pred : (names : List (List ℕ)) (home : Option (List ℕ)) (p : Pred) → IsPred p → WhenGiven IsName home
    → IsPred (normal_pred names home p)
unfolding normal_pred
kept_pred names home p h k =
    record { ws = kept_pred_ws names home p h.ws k; name = h.name; part = kept_part p.part (pred_ws names home p) h.part }

kept_need : (own : Option (List ℕ)) (n : Need) → IsNeed n → WhenGiven IsName own → IsNeed (normal_need own n)
unfolding normal_need
kept_need own n h k =
    record { units = kept_unless IsNumber 1 n.units h.units; ws = kept_home n.ws own h.ws k; name = h.name }

-- lists
each_mapped : {A B : Type 0} (P : A → Type 0) (Q : B → Type 0) (f : A → B) → ((x : A) → P x → Q (f x)) → (xs : List A)
    → Each P xs → Each Q (map f xs)
each_mapped P Q f h [] e = tt
each_mapped P Q f h (x ∷ xs) e = (h x e.0, each_mapped P Q f h xs e.1)

pub each_both : {A : Type 0} (P : A → Type 0) (xs ys : List A) → Each P xs → Each P ys → Each P (xs ++ ys)
each_both P [] ys h k = k
each_both P (x ∷ xs) ys h k = (h.0, each_both P xs ys h.1 k)

each_of_list : {A : Type 0} (P : A → Type 0) (xs : List A) → IsList P xs → Each P xs
each_of_list P [] h = tt
each_of_list P (x ∷ xs) h = h

clauses_are : (stream : Bool) (done cs : List Clause) → AreClauses stream done cs → Each IsClause cs
clauses_are stream done [] h = tt
clauses_are stream done (c ∷ cs) h = (h.0, clauses_are stream (done ++ c ∷ []) cs h.2)

each_flat : {A : Type 0} (P : A → Type 0) (g : Clause → List A) → ((c : Clause) → IsClause c → Each P (g c)) → (cs : List Clause)
    → Each IsClause cs → Each P (flat_map g cs)
each_flat P g h [] e = tt
each_flat P g h (c ∷ cs) e = each_both P (g c) (flat_map g cs) (h c e.0) (each_flat P g h cs e.1)

each_pred : (c : Clause) → IsClause c → Each IsPred (preds_in c)
unfolding preds_in
each_pred (Follows ps) h = each_of_list IsPred ps h
each_pred (At t d) h = tt
each_pred (Until t d u) h = tt
each_pred (Deadline t d) h = tt
each_pred (Priority n) h = tt
each_pred (Limit n) h = tt
each_pred CarryForward h = tt
each_pred (Needs ns) h = tt
each_pred (Prompt ps) h = tt
each_pred (Files fs) h = tt

each_need : (c : Clause) → IsClause c → Each IsNeed (needs_in c)
unfolding needs_in
each_need (Needs ns) h = each_of_list IsNeed ns h
each_need (At t d) h = tt
each_need (Until t d u) h = tt
each_need (Deadline t d) h = tt
each_need (Priority n) h = tt
each_need (Limit n) h = tt
each_need CarryForward h = tt
each_need (Follows ps) h = tt
each_need (Prompt ps) h = tt
each_need (Files fs) h = tt

each_prompt : (c : Clause) → IsClause c → Each IsPromptItem (prompts_in c)
unfolding prompts_in
each_prompt (Prompt ps) h = each_of_list IsPromptItem ps h
each_prompt (At t d) h = tt
each_prompt (Until t d u) h = tt
each_prompt (Deadline t d) h = tt
each_prompt (Priority n) h = tt
each_prompt (Limit n) h = tt
each_prompt CarryForward h = tt
each_prompt (Follows ps) h = tt
each_prompt (Needs ns) h = tt
each_prompt (Files fs) h = tt

each_file : (c : Clause) → IsClause c → Each IsText (files_in c)
unfolding files_in
each_file (Files fs) h = each_of_list IsText fs h
each_file (At t d) h = tt
each_file (Until t d u) h = tt
each_file (Deadline t d) h = tt
each_file (Priority n) h = tt
each_file (Limit n) h = tt
each_file CarryForward h = tt
each_file (Follows ps) h = tt
each_file (Needs ns) h = tt
each_file (Prompt ps) h = tt

-- the place of a clause's kind in the normal form
abbrev rank : Clause → ℕ
rank (At t d) = 0
rank (Until t d u) = 1
rank (Deadline t d) = 2
rank (Priority n) = 3
rank (Limit n) = 4
rank CarryForward = 5
rank (Follows ps) = 6
rank (Needs ns) = 7
rank (Prompt ps) = 8
rank (Files fs) = 9

abbrev Below : ℕ → List Clause → Type 0
Below n cs = Each (λ c. rank c < n) cs

-- LIMIT and CARRYFORWARD stand on streams alone
abbrev Allowed : Bool → Clause → Type 0
Allowed stream (Limit n) = stream ≡ true
Allowed stream CarryForward = stream ≡ true
Allowed stream c = Unit {0}

allowed : (stream : Bool) (done : List Clause) (c : Clause) → Stands stream done c → Allowed stream c
allowed stream done (At t d) h = tt
allowed stream done (Until t d u) h = tt
allowed stream done (Deadline t d) h = tt
allowed stream done (Priority n) h = tt
allowed stream done (Limit n) h = h.0
allowed stream done CarryForward h = h.0
allowed stream done (Follows ps) h = tt
allowed stream done (Needs ns) h = tt
allowed stream done (Prompt ps) h = tt
allowed stream done (Files fs) h = tt

none_below : (p : Clause → Bool) (n : ℕ) → ((c : Clause) → p c ≡ true → rank c ≡ n) → (cs : List Clause) → Below n cs
    → list_any p cs ≡ false
none_below p n h [] e = refl
none_below p n h (c ∷ cs) e = by_test (p c) refl (none_below p n h cs e.1)
  where
    by_test : (b : Bool) → p c ≡ b → list_any p cs ≡ false → list_any p (c ∷ cs) ≡ false
    by_test true k rest = let same = h c k in let low = e.0 in absurd (omega (arith, same, low))
    by_test false k rest = rw (k, rest) refl

at_rank : (c : Clause) → is_at c ≡ true → rank c ≡ 0
at_rank (At t d) h = refl
at_rank c h = cc

until_rank : (c : Clause) → is_until c ≡ true → rank c ≡ 1
until_rank (Until t d u) h = refl
until_rank c h = cc

deadline_rank : (c : Clause) → is_deadline c ≡ true → rank c ≡ 2
deadline_rank (Deadline t d) h = refl
deadline_rank c h = cc

priority_rank : (c : Clause) → is_priority c ≡ true → rank c ≡ 3
priority_rank (Priority n) h = refl
priority_rank c h = cc

limit_rank : (c : Clause) → is_limit c ≡ true → rank c ≡ 4
limit_rank (Limit n) h = refl
limit_rank c h = cc

carry_rank : (c : Clause) → is_carry c ≡ true → rank c ≡ 5
carry_rank CarryForward h = refl
carry_rank c h = cc

own_is_priority : (c : Clause) → is_own_priority c ≡ true → is_priority c ≡ true
own_is_priority (Priority n) h = refl
own_is_priority c h = cc

stands_below : (stream : Bool) (done : List Clause) (c : Clause) → Below (rank c) done → Allowed stream c → Stands stream done c
stands_below stream done (At t d) h k = none_below is_at 0 at_rank done h
stands_below stream done (Until t d u) h k = none_below is_until 1 until_rank done h
stands_below stream done (Deadline t d) h k = none_below is_deadline 2 deadline_rank done h
stands_below stream done (Priority n) h k = none_below is_priority 3 priority_rank done h
stands_below stream done (Limit n) h k = (k, none_below is_limit 4 limit_rank done h)
stands_below stream done CarryForward h k = (k, none_below is_carry 5 carry_rank done h)
stands_below stream done (Follows ps) h k = tt
stands_below stream done (Needs ns) h k = tt
stands_below stream done (Prompt ps) h k = tt
stands_below stream done (Files fs) h k = tt

-- at most one clause, of one kind
abbrev Single : Bool → ℕ → List Clause → Type 0
Single stream n xs = (xs ≡ []) ⊎ ((c : Clause) × (xs ≡ c ∷ []) × (rank c ≡ n) × IsClause c × Allowed stream c)

below_more : (n : ℕ) (cs : List Clause) → Below n cs → Below (suc n) cs
below_more n [] h = tt
below_more n (c ∷ cs) h = let low = h.0 in (omega (arith, low), below_more n cs h.1)

step : (stream : Bool) (n : ℕ) (done xs rest : List Clause) → Single stream n xs → Below n done
    → ((more : List Clause) → Below (suc n) more → AreClauses stream more rest) → AreClauses stream done (xs ++ rest)
step stream n done xs rest (inl e) h go =
    subst (λ (ys : List Clause). AreClauses stream done (ys ++ rest)) (sym e) (go done (below_more n done h))
step stream n done xs rest (inr (c, e, k, is, ok)) h go =
    let here : Below (rank c) done = subst (λ (m : ℕ). Below m done) (sym k) h in
    let more : Below (suc n) (done ++ c ∷ []) =
    each_both (λ z. rank z < suc n) done (c ∷ []) (below_more n done h) (omega (arith, k), tt) in
    subst (λ (ys : List Clause). AreClauses stream done (ys ++ rest)) (sym e)
    (is, stands_below stream done c here ok, go (done ++ c ∷ []) more)

-- those of a kind that stands once
any_put : (q : Clause → Bool) (done : List Clause) (c : Clause) → list_any q done ≡ true → list_any q (done ++ c ∷ []) ≡ true
any_put q done c h = list_any-append q done (c ∷ []) ∙ ap (λ b. b || list_any q (c ∷ [])) h

any_last : (q : Clause → Bool) (done : List Clause) (c : Clause) → q c ≡ true → list_any q (done ++ c ∷ []) ≡ true
any_last q done c h = list_any-append q done (c ∷ []) ∙ by_front (list_any q done)
  where
    by_front : (b : Bool) → (b || list_any q (c ∷ [])) ≡ true
    by_front true = refl
    by_front false = rw h refl

abbrev Tells : (Clause → Bool) → (Clause → Bool) → Type 0
Tells p q = (stream : Bool) (done : List Clause) (c : Clause) → p c ≡ true → Stands stream done c → list_any q done ≡ false

no_more : (p q : Clause → Bool) → Tells p q → (stream : Bool) (done cs : List Clause) → AreClauses stream done cs
    → list_any q done ≡ true → filter p cs ≡ []
no_more p q tells stream done [] h k = refl
no_more p q tells stream done (c ∷ cs) h k =
    by_test (p c) refl (no_more p q tells stream (done ++ c ∷ []) cs h.2 (any_put q done c k))
  where
    by_test : (b : Bool) → p c ≡ b → filter p cs ≡ [] → filter p (c ∷ cs) ≡ []
    by_test true e rest = let no : true ≡ false = sym k ∙ tells stream done c e h.1 in cc
    by_test false e rest = rw e rest

single_of : (p q : Clause → Bool) (n : ℕ) → Tells p q → ((c : Clause) → p c ≡ true → q c ≡ true)
    → ((c : Clause) → p c ≡ true → rank c ≡ n) → (stream : Bool) (done cs : List Clause) → AreClauses stream done cs
    → Single stream n (filter p cs)
single_of p q n tells within ranks stream done [] h = inl refl
single_of p q n tells within ranks stream done (c ∷ cs) h =
    by_test (p c) refl (single_of p q n tells within ranks stream (done ++ c ∷ []) cs h.2)
  where
    by_test : (b : Bool) → p c ≡ b → Single stream n (filter p cs) → Single stream n (filter p (c ∷ cs))
    by_test true e rest =
        let none = no_more p q tells stream (done ++ c ∷ []) cs h.2 (any_last q done c (within c e)) in
        inr (c, rw e (ap (λ ys. c ∷ ys) none), ranks c e, h.0, allowed stream done c h.1)
    by_test false e rest = rw e rest

at_tells : Tells is_at is_at
at_tells stream done (At t d) h s = s
at_tells stream done c h s = cc

until_tells : Tells is_until is_until
until_tells stream done (Until t d u) h s = s
until_tells stream done c h s = cc

deadline_tells : Tells is_deadline is_deadline
deadline_tells stream done (Deadline t d) h s = s
deadline_tells stream done c h s = cc

priority_tells : Tells is_own_priority is_priority
priority_tells stream done (Priority n) h s = s
priority_tells stream done c h s = cc

limit_tells : Tells is_limit is_limit
limit_tells stream done (Limit n) h s = s.1
limit_tells stream done c h s = cc

carry_tells : Tells is_carry is_carry
carry_tells stream done CarryForward h s = s.1
carry_tells stream done c h s = cc

-- those of lists
single_follows : (stream : Bool) (ps : List Pred) → Each IsPred ps → Single stream 6 (follows_of ps)
single_follows stream [] h = inl refl
single_follows stream (p ∷ ps) h = inr (Follows (p ∷ ps), refl, refl, h, tt)

single_needs : (stream : Bool) (ns : List Need) → Each IsNeed ns → Single stream 7 (needs_of ns)
single_needs stream [] h = inl refl
single_needs stream (n ∷ ns) h = inr (Needs (n ∷ ns), refl, refl, h, tt)

single_prompts : (stream : Bool) (ps : List PromptItem) → Each IsPromptItem ps → Single stream 8 (prompt_of ps)
single_prompts stream [] h = inl refl
single_prompts stream (p ∷ ps) h = inr (Prompt (p ∷ ps), refl, refl, h, tt)

single_files : (stream : Bool) (fs : List (List ℕ)) → Each IsText fs → Single stream 9 (opens_of fs)
single_files stream [] h = inl refl
single_files stream (f ∷ fs) h = inr (Files (f ∷ fs), refl, refl, h, tt)

last_step : (stream : Bool) (n : ℕ) (done xs : List Clause) → Single stream n xs → Below n done → AreClauses stream done xs
last_step stream n done xs s h =
    subst (λ (ys : List Clause). AreClauses stream done ys) (append-nil xs) (step stream n done xs [] s h (λ more k. tt))

ten_kinds : (stream : Bool) (a b c d e f g h i j : List Clause) → Single stream 0 a → Single stream 1 b → Single stream 2 c
    → Single stream 3 d → Single stream 4 e → Single stream 5 f → Single stream 6 g → Single stream 7 h → Single stream 8 i
    → Single stream 9 j
    → AreClauses stream [] (a ++ (b ++ (c ++ (d ++ (e ++ (f ++ (g ++ (h ++ (i ++ j)))))))))
ten_kinds stream a b c d e f g h i j sa sb sc sd se sf sg sh si sj =
    step stream 0 [] a _ sa tt (λ m0 k0.
    step stream 1 m0 b _ sb k0 (λ m1 k1.
    step stream 2 m1 c _ sc k1 (λ m2 k2.
    step stream 3 m2 d _ sd k2 (λ m3 k3.
    step stream 4 m3 e _ se k3 (λ m4 k4.
    step stream 5 m4 f _ sf k4 (λ m5 k5.
    step stream 6 m5 g _ sg k5 (λ m6 k6.
    step stream 7 m6 h _ sh k6 (λ m7 k7.
    step stream 8 m7 i j si k7 (λ m8 k8. last_step stream 9 m8 j sj k8)))))))))

clauses_normal : (stream : Bool) (names : List (List ℕ)) (home own : Option (List ℕ)) (cs : List Clause)
    → AreClauses stream [] cs → WhenGiven IsName home → WhenGiven IsName own
    → AreClauses stream [] (normal_clauses names home own cs)
unfolding normal_clauses is_of
clauses_normal stream names home own cs h k l =
    let all = clauses_are stream [] cs h in
    ten_kinds stream _ _ _ _ _ _ _ _ _ _
    (single_of is_at is_at 0 at_tells (λ c e. e) at_rank stream [] cs h)
    (single_of is_until is_until 1 until_tells (λ c e. e) until_rank stream [] cs h)
    (single_of is_deadline is_deadline 2 deadline_tells (λ c e. e) deadline_rank stream [] cs h)
    (single_of is_own_priority is_priority 3 priority_tells own_is_priority (λ c e. priority_rank c (own_is_priority c e)) stream [] cs h)
    (single_of is_limit is_limit 4 limit_tells (λ c e. e) limit_rank stream [] cs h)
    (single_of is_carry is_carry 5 carry_tells (λ c e. e) carry_rank stream [] cs h)
    (single_follows stream (map (normal_pred names home) (flat_map preds_in cs))
    (each_mapped IsPred IsPred (normal_pred names home) (λ p e. kept_pred names home p e k) (flat_map preds_in cs) (each_flat IsPred preds_in each_pred cs all)))
    (single_needs stream (map (normal_need own) (flat_map needs_in cs))
    (each_mapped IsNeed IsNeed (normal_need own) (λ n e. kept_need own n e l) (flat_map needs_in cs) (each_flat IsNeed needs_in each_need cs all)))
    (single_prompts stream (flat_map prompts_in cs) (each_flat IsPromptItem prompts_in each_prompt cs all))
    (single_files stream (flat_map files_in cs) (each_flat IsText files_in each_file cs all))

-- entries and streams
entry_normal : (names : List (List ℕ)) (home : Option (List ℕ)) (e : Lined EntryDef) → IsEntry e.item → WhenGiven IsName home
    → IsEntry (normal_entry names home e).item
unfolding normal_entry
entry_normal names home e h k =
    let own = kept_home e.item.ws home h.ws k in
    record {
      ws = own;
      name = h.name;
      work = h.work;
      clauses =
          subst (λ (cs : List Clause). AreClauses false [] cs)
          (sym (items_unlined (normal_clauses names home (or_home e.item.ws home) (items e.item.clauses))))
          (clauses_normal false names home (or_home e.item.ws home) (items e.item.clauses) h.clauses k own);
    }

entries_normal : (names : List (List ℕ)) (home : Option (List ℕ)) (es : List (Lined EntryDef)) → Each IsEntry (items es)
    → WhenGiven IsName home → Each IsEntry (items (map (normal_entry names home) es))
entries_normal names home [] h k = tt
entries_normal names home (e ∷ es) h k = (entry_normal names home e h.0 k, entries_normal names home es h.1 k)

schedule_normal : (master : Option (List ℕ)) (s : Lined ScheduleDef) → IsSchedule s.item → WhenGiven IsName master
    → IsSchedule (normal_schedule master s).item
unfolding normal_schedule
schedule_normal master s h k =
    let home = or_home s.item.ws master in
    let at = kept_home s.item.ws master h.ws k in
    record {
      ws = at;
      name = h.name;
      free = h.free;
      ons = kept_bare IsOn s.item.ons h.ons;
      clauses =
          subst (λ (cs : List Clause). AreClauses true [] cs)
          (sym (items_unlined (normal_clauses [] home home (items s.item.clauses))))
          (clauses_normal true [] home home (items s.item.clauses) h.clauses at at);
      entries = entries_normal (entry_names s.item.entries) home s.item.entries h.entries at;
    }

schedules_normal : (master : Option (List ℕ)) (xs : List (Lined ScheduleDef)) → Each IsSchedule (items xs) → WhenGiven IsName master
    → Each IsSchedule (items (map (normal_schedule master) xs))
schedules_normal master [] h k = tt
schedules_normal master (x ∷ xs) h k = (schedule_normal master x h.0 k, schedules_normal master xs h.1 k)

-- the master workstation
managers : (ds : List (Lined DomainDef)) → Each IsDomain (items ds) → Each IsName (filter_map manager_of ds)
managers [] h = tt
managers (d ∷ ds) h = by_parent d.item.parent refl (managers ds h.1)
  where
    by_parent : (p : Option (List ℕ)) → d.item.parent ≡ p → Each IsName (filter_map manager_of ds)
        → Each IsName (filter_map manager_of (d ∷ ds))
    by_parent None e rest = rw e (h.0.manager, rest)
    by_parent (Some p) e rest = rw e rest

only_name : (ms : List (List ℕ)) → Each IsName ms → WhenGiven IsName (only ms)
only_name [] h = tt
only_name (m ∷ []) h = h.0
only_name (m ∷ n ∷ ms) h = tt

master_name : (ds : List (Lined DomainDef)) → Each IsDomain (items ds) → WhenGiven IsName (master_of ds)
unfolding master_of
master_name ds h = only_name (filter_map manager_of ds) (managers ds h)

pub defs_normal : (d : Defs) → AreDefs d → AreDefs (normal d)
unfolding normal
defs_normal d h = record {
  start = kept_unlined IsTime (unless 360 (item_of d.start)) (kept_unless IsTime 360 (item_of d.start) h.start);
  zone = kept_unlined IsText (unless_utc (item_of d.zone)) (kept_zone (item_of d.zone) h.zone);
  cpus = kept_cpus d.cpus h.cpus;
  domains = kept_bare _ d.domains h.domains;
  calendars = kept_bare _ d.calendars h.calendars;
  prompts = kept_bare _ d.prompts h.prompts;
  resources = kept_bare _ d.resources h.resources;
  jobs = kept_bare _ d.jobs h.jobs;
  schedules = schedules_normal (master_of d.domains) d.schedules h.schedules (master_name d.domains h.domains);
}
