-- The catalogue of a view that has the first of a master's events: what they brought of the catalogue of all of them.
use Rattle.std.proofs.Common.{[], ℕ, ◌&&◌, ◌++◌, ◌∙◌, ◌∷◌, ◌≡◌, Bool, List, None, Option, Some, ap, cond, false, filter}
use Rattle.std.proofs.Common.{flat_map, is_some, option_and_then, refl, subst, sym, true}
use Rattle.std.proofs.lemmas.Bool.{eqb-true}
use Rattle.std.proofs.lemmas.Grind.{flat_map-append}
use Rattle.std.proofs.lemmas.List.{append-nil}
use Rattle.std.proofs.lemmas.List.Elements.{filter-append}
use Rattle.std.proofs.lemmas.List.Folds.{find-append, list_any-append}
use Rattle.std.specs.Bool.{then_some}
use Rattle.std.specs.List.{AllByRecursion, list_any}
use Rattle.std.specs.Option.{option_or}
use Rattle.std.specs.Prelude.{◌==◌, ◌||◌, find, fold, unwrap_or}
use Rattle.lemmas.proofs.Booleans.{contrary}
use Rattle.lemmas.proofs.Lists.{all_map, all_such, either_first, flat_all}
use Rattle.model_laws.proofs.Inside.{firsts_all}
use Rattle.model.specs.Types.{Events, JobDoc, StreamDoc}
use Rattle.model.specs.Words.{firsts, has}
use Rattle.model.specs.History.{View}
use Rattle.model.specs.Catalogue.{StreamJob, catalogue, docs_in, is_member, job, jobs, jobs_in, jobs_of, jobs_of_stream}
use Rattle.model.specs.Catalogue.{members, members_with, named_members, stream, streams_of}
use Rattle.model_laws.proofs.Firsts.{firsts-append, firsts_fresh, known_after}
use Rattle.model_laws.proofs.Growth.{Grows, job_grows, stream_grows}
use Rattle.model_laws.proofs.Lists.{each_such}
use Rattle.model_laws.proofs.Options.{filter_all, there_if}
use Rattle.dependencies.specs.Planned.{IsPlannedJob, IsPlannedStream}
use Rattle.dependencies.proofs.Found.{job_planned, jobs_left_planned, streams_left_planned}
use Rattle.dependencies.proofs.Lists.{all_found}
use Rattle.counted_facts.specs.Facts.{is_named}
use Rattle.counted_facts.specs.Subjects.{brings}

-- a number that is known
known_so : (known : List ℕ) (m n : ℕ) → has known m ≡ true → (m == n) ≡ true → has known n ≡ true
known_so known m n h e = subst (λ (k : ℕ). has known k ≡ true) (eqb-true m n e) h

or_turned : (a b c : Bool) → ((a || b) || c) ≡ (b || (a || c))
or_turned true true c = refl
or_turned true false c = refl
or_turned false b c = refl

module _ {X : Type 0} (number : X → ℕ) where
  -- one has the number where one counts of it
  find_first : (known : List ℕ) (n : ℕ) (xs : List X) → has known n ≡ false
      → is_some (find (λ (x : X). number x == n) (firsts number known xs)) ≡ list_any (λ (x : X). number x == n) xs
  find_first known n [] h = refl
  find_first known n (x ∷ xs) h =
      go (has known (number x)) refl (number x == n) refl (find_first known n xs h)
      (λ e. find_first (number x ∷ known) n xs (ap (λ (b : Bool). b || has known n) e ∙ h))
    where
      go : (a : Bool) → has known (number x) ≡ a → (b : Bool) → (number x == n) ≡ b
          → is_some (find (λ (y : X). number y == n) (firsts number known xs))
          ≡ list_any (λ (y : X). number y == n) xs
          → ((number x == n) ≡ false
          → is_some (find (λ (y : X). number y == n) (firsts number (number x ∷ known) xs))
          ≡ list_any (λ (y : X). number y == n) xs)
          → is_some (find (λ (y : X). number y == n)
          (cond a (firsts number known xs) (x ∷ firsts number (number x ∷ known) xs)))
          ≡ (b || list_any (λ (y : X). number y == n) xs)
      go true f true e old new = absurd (contrary (known_so known (number x) n f e) h)
      go true f false e old new = old
      go false f true e old new = rw e refl
      go false f false e old new = rw e (new e)

  -- the numbers that are known after some more are those, and theirs
  known_law : (known : List ℕ) (n : ℕ) (xs : List X)
      → has (known_after number known xs) n ≡ (has known n || list_any (λ (x : X). number x == n) xs)
  known_law known n [] = sym (alone (has known n))
    where
      alone : (b : Bool) → (b || false) ≡ b
      alone true = refl
      alone false = refl
  known_law known n (x ∷ xs) =
      go (has known (number x)) refl (number x == n) refl (known_law known n xs) (known_law (number x ∷ known) n xs)
    where
      go : (a : Bool) → has known (number x) ≡ a → (b : Bool) → (number x == n) ≡ b
          → has (known_after number known xs) n ≡ (has known n || list_any (λ (y : X). number y == n) xs)
          → has (known_after number (number x ∷ known) xs) n
          ≡ ((number x == n || has known n) || list_any (λ (y : X). number y == n) xs)
          → has (cond a (known_after number known xs) (known_after number (number x ∷ known) xs)) n
          ≡ (has known n || (b || list_any (λ (y : X). number y == n) xs))
      go true f true e old new =
          old ∙ ap (λ (c : Bool). c || list_any (λ (y : X). number y == n) xs) (known_so known (number x) n f e)
          ∙ sym (ap (λ (c : Bool). c || true) (known_so known (number x) n f e))
      go true f false e old new = old
      go false f b e old new =
          new ∙ or_turned (number x == n) (has known n) (list_any (λ (y : X). number y == n) xs)
          ∙ ap (λ (c : Bool). has known n || (c || list_any (λ (y : X). number y == n) xs)) e

any_flat : {X Y : Type 0} (p : Y → Bool) (f : X → List Y) (xs : List X)
    → list_any p (flat_map f xs) ≡ list_any (λ (x : X). list_any p (f x)) xs
any_flat p f [] = refl
any_flat {X} p f (x ∷ xs) =
    list_any-append p (f x) (flat_map f xs) ∙ ap (λ (b : Bool). list_any p (f x) || b) (any_flat p f xs)

-- lists that are filtered
all_pass : {X : Type 0} (p : X → Bool) (xs : List X) → AllByRecursion (λ (x : X). p x ≡ true) xs → filter p xs ≡ xs
all_pass p [] h = refl
all_pass {X} p (x ∷ xs) h = rw h.0 (ap (λ (l : List X). x ∷ l) (all_pass p xs h.1))

none_pass : {X : Type 0} (p : X → Bool) (xs : List X) → AllByRecursion (λ (x : X). p x ≡ false) xs → filter p xs ≡ []
none_pass p [] h = refl
none_pass {X} p (x ∷ xs) h = rw h.0 (none_pass p xs h.1)

front_passes : {X : Type 0} (p : X → Bool) (all xs ys : List X) → all ≡ xs ++ ys
    → AllByRecursion (λ (x : X). p x ≡ true) xs → AllByRecursion (λ (x : X). p x ≡ false) ys → xs ≡ filter p all
front_passes {X} p all xs ys e yes_ no_ =
    sym (ap (filter p) e ∙ filter-append p xs ys
    ∙ ap (λ (l : List X). l ++ filter p ys) (all_pass p xs yes_)
    ∙ ap (λ (l : List X). xs ++ l) (none_pass p ys no_) ∙ append-nil xs)

has_filter : (p : ℕ → Bool) (ns : List ℕ) (n : ℕ) → has (filter p ns) n ≡ (p n && has ns n)
has_filter p [] n = sym (none (p n))
  where
    none : (b : Bool) → (b && false) ≡ false
    none true = refl
    none false = refl
has_filter p (m ∷ ms) n = go (p m) refl (m == n) refl (has_filter p ms n)
  where
    same : (m == n) ≡ true → p m ≡ p n
    same e = ap p (eqb-true m n e)

    go : (a : Bool) → p m ≡ a → (b : Bool) → (m == n) ≡ b → has (filter p ms) n ≡ (p n && has ms n)
        → has (cond a (m ∷ filter p ms) (filter p ms)) n ≡ (p n && (b || has ms n))
    go true f true e h = let k : p n ≡ true = sym (same e) ∙ f in rw (e, k) refl
    go true f false e h = rw e h
    go false f true e h = let k : p n ≡ false = sym (same e) ∙ f in h ∙ rw k refl
    go false f false e h = h

module _ (U V : View) (grows : Grows U V) where
  -- the stream's document is brought
  abbrev pub brought : ℕ → Bool
  brought s = list_any (brings s) (U (Events 0))

  docs_brought : (s : ℕ) → list_any (λ (d : StreamDoc). d.no == s) (flat_map docs_in (U (Events 0))) ≡ brought s
  docs_brought s = any_flat (λ (d : StreamDoc). d.no == s) docs_in (U (Events 0))

  pub stream_brought : (s : ℕ) → is_some (stream U s) ≡ brought s
  unfolding stream catalogue
  stream_brought s =
      find_first (λ (d : StreamDoc). d.no) [] s (flat_map docs_in (U (Events 0))) refl ∙ docs_brought s

  -- a stream of it
  pub stream_seen : (s : ℕ) → stream U s ≡ cond (brought s) (stream V s) None
  stream_seen s = go (stream U s) refl
    where
      go : (o : Option StreamDoc) → stream U s ≡ o → stream U s ≡ cond (brought s) (stream V s) None
      go None e = e ∙ sym (ap (λ (b : Bool). cond b (stream V s) None) (sym (stream_brought s) ∙ ap is_some e))
      go (Some d) e =
          e ∙ sym (ap (λ (b : Bool). cond b (stream V s) None) (sym (stream_brought s) ∙ ap is_some e)
          ∙ stream_grows U V s d grows e)

  found_brought : (d : StreamDoc) → stream U d.no ≡ Some d → brought d.no ≡ true
  found_brought d e = sym (stream_brought d.no) ∙ ap is_some e

  -- the rest of the streams
  later_streams : List StreamDoc
  later_streams =
      firsts (λ (d : StreamDoc). d.no) (known_after (λ (d : StreamDoc). d.no) [] (flat_map docs_in (U (Events 0))))
      (flat_map docs_in grows.rest)

  streams_split : catalogue V ≡ catalogue U ++ later_streams
  unfolding catalogue later_streams
  streams_split = rw (grows.more, flat_map-append, firsts-append) refl

  early_streams_brought : AllByRecursion (λ (d : StreamDoc). brought d.no ≡ true) (catalogue U)
  early_streams_brought =
      all_such (IsPlannedStream U) (λ (d : StreamDoc). brought d.no ≡ true) (catalogue U)
      (λ d h. found_brought d h.found) (streams_left_planned U (catalogue U) refl)

  later_streams_not : AllByRecursion (λ (d : StreamDoc). brought d.no ≡ false) later_streams
  unfolding later_streams
  later_streams_not =
      all_such
      (λ (d : StreamDoc).
      has (known_after (λ (x : StreamDoc). x.no) [] (flat_map docs_in (U (Events 0)))) d.no ≡ false)
      (λ (d : StreamDoc). brought d.no ≡ false) later_streams
      (λ d h. sym (docs_brought d.no)
      ∙ sym (known_law (λ (x : StreamDoc). x.no) [] d.no (flat_map docs_in (U (Events 0)))) ∙ h)
      (firsts_fresh (λ (x : StreamDoc). x.no) (known_after (λ (x : StreamDoc). x.no) [] (flat_map docs_in (U (Events 0))))
      (flat_map docs_in grows.rest))

  pub streams_seen : catalogue U ≡ filter (λ (d : StreamDoc). brought d.no) (catalogue V)
  streams_seen =
      front_passes (λ (d : StreamDoc). brought d.no) (catalogue V) (catalogue U) later_streams streams_split
      early_streams_brought later_streams_not

  -- the rest of the jobs
  later_jobs : List StreamJob
  later_jobs =
      firsts (λ (p : StreamJob). p.doc.no)
      (known_after (λ (p : StreamJob). p.doc.no) [] (flat_map jobs_in (catalogue U))) (flat_map jobs_in later_streams)

  jobs_split : jobs V ≡ jobs U ++ later_jobs
  unfolding jobs later_jobs
  jobs_split = rw (streams_split, flat_map-append, firsts-append) refl

  early_jobs_brought : AllByRecursion (λ (p : StreamJob). brought p.parent.no ≡ true) (jobs U)
  early_jobs_brought =
      all_such (IsPlannedJob U) (λ (p : StreamJob). brought p.parent.no ≡ true) (jobs U)
      (λ p h. found_brought p.parent h.parent.found) (jobs_left_planned U (jobs U) refl)

  later_jobs_not : AllByRecursion (λ (p : StreamJob). brought p.parent.no ≡ false) later_jobs
  unfolding later_jobs
  later_jobs_not =
      firsts_all (λ (p : StreamJob). brought p.parent.no ≡ false) (λ (p : StreamJob). p.doc.no)
      (known_after (λ (p : StreamJob). p.doc.no) [] (flat_map jobs_in (catalogue U))) (flat_map jobs_in later_streams)
      (flat_all (λ (p : StreamJob). brought p.parent.no ≡ false) jobs_in later_streams
      (all_such (λ (d : StreamDoc). brought d.no ≡ false)
      (λ (d : StreamDoc). AllByRecursion (λ (p : StreamJob). brought p.parent.no ≡ false) (jobs_in d)) later_streams
      (λ d h. all_map (λ (p : StreamJob). brought p.parent.no ≡ false)
      (λ (j : JobDoc). record { parent = d; doc = j }) d.jobs
      (each_such (λ (j : JobDoc). brought d.no ≡ false) d.jobs (λ j. h))) later_streams_not))

  pub jobs_seen : jobs U ≡ filter (λ (p : StreamJob). brought p.parent.no) (jobs V)
  jobs_seen =
      front_passes (λ (p : StreamJob). brought p.parent.no) (jobs V) (jobs U) later_jobs jobs_split
      early_jobs_brought later_jobs_not

  -- a job
  in_rest : (j : ℕ) (q : StreamJob) → job U j ≡ None → job V j ≡ Some q
      → find (λ (p : StreamJob). p.doc.no == j) later_jobs ≡ Some q
  unfolding job
  in_rest j q e f =
      sym (ap (λ (o : Option StreamJob). option_or o (find (λ (p : StreamJob). p.doc.no == j) later_jobs)) e)
      ∙ sym (find-append (λ (p : StreamJob). p.doc.no == j) (jobs U) later_jobs)
      ∙ sym (ap (find (λ (p : StreamJob). p.doc.no == j)) jobs_split) ∙ f

  behind : (j : ℕ) (q : StreamJob) → job U j ≡ None → job V j ≡ Some q → brought q.parent.no ≡ false
  behind j q e f =
      (there_if (λ (p : StreamJob). (brought p.parent.no ≡ false) × ((p.doc.no == j) ≡ true))
      (find (λ (p : StreamJob). p.doc.no == j) later_jobs) q
      (all_found (λ (p : StreamJob). brought p.parent.no ≡ false) (λ (p : StreamJob). p.doc.no == j) later_jobs
      later_jobs_not) (in_rest j q e f)).0

  pub job_seen : (j : ℕ) → job U j ≡ option_and_then (λ (p : StreamJob). then_some (brought p.parent.no) p) (job V j)
  job_seen j = go (job U j) refl
    where
      there : (o : Option StreamJob) → job U j ≡ None → job V j ≡ o
          → None ≡ option_and_then (λ (p : StreamJob). then_some (brought p.parent.no) p) o
      there None e f = refl
      there (Some q) e f = sym (ap (λ (b : Bool). then_some b q) (behind j q e f))

      go : (o : Option StreamJob) → job U j ≡ o
          → job U j ≡ option_and_then (λ (p : StreamJob). then_some (brought p.parent.no) p) (job V j)
      go None e = e ∙ there (job V j) e refl
      go (Some p) e =
          e
          ∙ sym (ap (option_and_then (λ (q : StreamJob). then_some (brought q.parent.no) q)) (job_grows U V j p grows e)
          ∙ ap (λ (b : Bool). then_some b p) (found_brought p.parent (job_planned U j p e).parent.found))

  -- those of a workstation, and of a stream
  pub jobs_of_seen : (w : ℕ) → jobs_of U w ≡ filter (λ (p : StreamJob). brought p.parent.no) (jobs_of V w)
  unfolding jobs_of
  jobs_of_seen w =
      ap (filter (λ (p : StreamJob). p.doc.ws == w)) jobs_seen
      ∙ either_first (λ (p : StreamJob). p.doc.ws == w) (λ (p : StreamJob). brought p.parent.no) (jobs V)

  pub streams_of_seen : (w : ℕ) → streams_of U w ≡ filter (λ (d : StreamDoc). brought d.no) (streams_of V w)
  unfolding streams_of
  streams_of_seen w =
      ap (filter (λ (d : StreamDoc). d.ws == w)) streams_seen
      ∙ either_first (λ (d : StreamDoc). d.ws == w) (λ (d : StreamDoc). brought d.no) (catalogue V)

  pub of_stream_brought : (s : ℕ) (ps : List StreamJob) → brought s ≡ true
      → filter (λ (p : StreamJob). brought p.parent.no) (filter (λ (p : StreamJob). p.parent.no == s) ps)
      ≡ filter (λ (p : StreamJob). p.parent.no == s) ps
  of_stream_brought s ps h =
      all_pass (λ (p : StreamJob). brought p.parent.no) (filter (λ (p : StreamJob). p.parent.no == s) ps)
      (all_such (λ (p : StreamJob). (p.parent.no == s) ≡ true) (λ (p : StreamJob). brought p.parent.no ≡ true)
      (filter (λ (p : StreamJob). p.parent.no == s) ps)
      (λ p e. subst (λ (n : ℕ). brought n ≡ true) (sym (eqb-true p.parent.no s e)) h)
      (filter_all (λ (p : StreamJob). p.parent.no == s) ps))

  pub jobs_of_stream_seen : (s : ℕ) → brought s ≡ true → jobs_of_stream U s ≡ jobs_of_stream V s
  unfolding jobs_of_stream
  jobs_of_stream_seen s h =
      ap (filter (λ (p : StreamJob). p.parent.no == s)) jobs_seen
      ∙ either_first (λ (p : StreamJob). p.parent.no == s) (λ (p : StreamJob). brought p.parent.no) (jobs V)
      ∙ of_stream_brought s (jobs V) h

  -- a member
  pub member_seen : (s : ℕ) → is_member U s ≡ (brought s && is_named s (U (Events 0)))
  unfolding is_member members named_members
  member_seen s =
      has_filter (λ (t : ℕ). is_some (stream U t)) (unwrap_or (fold members_with None (U (Events 0))) []) s
      ∙ ap (λ (b : Bool). b && is_named s (U (Events 0))) (stream_brought s)
