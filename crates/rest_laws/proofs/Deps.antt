-- How many dependencies a workstation can find an object of its own to have never grows by a turn.
use Rattle.std.proofs.Common.{◌≡◌, ◌≢◌, ℕ, ◌+◌, ◌-◌, ◌<◌, ◌≤◌, Bool, true, false, inl, inr}
use Rattle.std.proofs.Common.{List, [], ◌∷◌, ◌++◌, length, map, drop, refl, ap, sym, subst, ◌∙◌, arith, Option, Some, None, cond}
use Rattle.std.proofs.Common.{append-nil, length-append, take}
use Rattle.std.proofs.lemmas.Bool.{eq-eqb}
use Rattle.std.proofs.lemmas.Bool.Decides.{eqb_tells}
use Rattle.std.proofs.lemmas.Grind.{flat_map-append}
use Rattle.std.proofs.lemmas.List.{length-take}
use Rattle.std.proofs.lemmas.List.Elements.{filter_map-append}
use Rattle.std.specs.List.{AllByRecursion, enumerate_from}
use Rattle.std.specs.Option.{option_map_or}
use Rattle.std.specs.Prelude.{if◌then◌else◌, IfSome, eqb, filter_map, find, flat_map, option_map, slice_get}
use Rattle.lemmas.proofs.Lists.{all_such, filter_map_short, flat_all, found_within}
use Rattle.lemmas.proofs.Options.{map_none}
use Rattle.model.specs.Types.{AddDep, Added, Body, Cmd, Dep, Entry, Events, Job, JobDoc, JobDraft, Net, Obeyed, Obj}
use Rattle.model.specs.Types.{Order, Orders, Stream, StreamDoc, StreamDraft, Submit}
use Rattle.model.specs.Words.{below, firsts}
use Rattle.model.specs.Equalities.{obj_eq}
use Rattle.model.specs.Network.{node_count}
use Rattle.model.specs.History.{View, list_of}
use Rattle.model.specs.Catalogue.{StreamJob, catalogue, docs_in, job, jobs, jobs_in, members, owner, stream}
use Rattle.model.specs.Dependencies.{deps, deps_added_by, document_deps, owner_events}
use Rattle.model.specs.Facts.{answered, commands, obeyed_command}
use Rattle.model.specs.Invariant.{Invariant, docs_of}
use Rattle.model.specs.NewEntry.{next_entry}
use Rattle.model.specs.NewPlan.{Fresh, Named, doc_of, doc_of_job, last_job, last_stream, named_doc, named_fresh, numbered}
use Rattle.model.specs.NewPlan.{resolve_dep}
use Rattle.model.specs.World.{World, view_at}
use Rattle.model_laws.proofs.Answered.{answered-append}
use Rattle.model_laws.proofs.Firsts.{firsts-append, known_after}
use Rattle.model_laws.proofs.Growth.{Grows, history_grows, job_grows, owned_grows, stream_grows, view_grows}
use Rattle.model_laws.proofs.Inside.{find_all, firsts_all}
use Rattle.model_laws.proofs.Options.{there_if}
use Rattle.model_laws.proofs.Turns.{TurnGives, turn_gives}
use Rattle.rest_laws.specs.Gains.{sum_over}
use Rattle.rest_laws.specs.Left.{added_ahead, deps_ahead, drafted_ahead, drafted_deps, written_ahead}
use Rattle.rest_laws.specs.Rest.{net_at}
use Rattle.rest_laws.proofs.Ahead.{drop_low, drop_next}
use Rattle.rest_laws.proofs.Entered.{Made, all_orders_same, events_here, events_same, issuer_in, next_given, own_events}
use Rattle.rest_laws.proofs.Falls.{answered_one, one_of_all, sum_over_falls}
use Rattle.rest_laws.proofs.Gains.{sum_over_low}

-- each of a sum is at most the sum
sum_over_each : {X : Type 0} (f : X → ℕ) (xs : List X) → AllByRecursion (λ x. f x ≤ sum_over f xs) xs
sum_over_each f [] = tt
sum_over_each f (x ∷ xs) = (
  omega arith,
  all_such (λ y. f y ≤ sum_over f xs) (λ y. f y ≤ f x + sum_over f xs) xs (λ y h. omega (arith, h)) (sum_over_each f xs),
)

-- the dependencies of a document and of its jobs
deps_of_doc : StreamDoc → ℕ
deps_of_doc d = length d.deps + sum_over (λ (j : JobDoc). length j.deps) d.jobs

own_deps : (d : StreamDoc) → length d.deps ≤ deps_of_doc d
unfolding deps_of_doc
own_deps d = omega arith

brought : List Body → ℕ
brought M = sum_over deps_of_doc (docs_of M)

find_later : {X : Type 0} (q : X → Bool) (xs ys : List X) → find q xs ≡ None → find q (xs ++ ys) ≡ find q ys
find_later q [] ys e = refl
find_later {X} q (x ∷ xs) ys e = go (q x) e (λ k. find_later q xs ys k)
  where
    go : (b : Bool) → cond b (Some x) (find q xs) ≡ None → (find q xs ≡ None → find q (xs ++ ys) ≡ find q ys)
        → cond b (Some x) (find q (xs ++ ys)) ≡ find q ys
    go true k more = cc
    go false k more = more k

if_found : {X : Type 0} (P : X → Type 0) (o p : Option X) → o ≡ p → IfSome p P → IfSome o P
if_found P o p e h = subst (λ o. IfSome o P) (sym e) h

-- a longer list of the master keeps what documents there are, and brings what is new
module _ (V W : View) (M : List Body) (more : W (Events 0) ≡ V (Events 0) ++ M) where
  known : List ℕ
  known = known_after (λ (d : StreamDoc). d.no) [] (docs_of (V (Events 0)))

  new_docs : List StreamDoc
  new_docs = firsts (λ (d : StreamDoc). d.no) known (docs_of M)

  catalogue_more : catalogue W ≡ catalogue V ++ new_docs
  unfolding catalogue known new_docs
  catalogue_more =
      ap (λ L. firsts (λ (d : StreamDoc). d.no) [] (docs_of L)) more
      ∙ ap (firsts (λ (d : StreamDoc). d.no) []) (flat_map-append docs_in (V (Events 0)) M)
      ∙ firsts-append (λ (d : StreamDoc). d.no) [] (docs_of (V (Events 0))) (docs_of M)

  new_streams : AllByRecursion (λ (d : StreamDoc). deps_of_doc d ≤ brought M) new_docs
  unfolding new_docs brought
  new_streams =
      firsts_all (λ (d : StreamDoc). deps_of_doc d ≤ brought M) (λ (d : StreamDoc). d.no) known (docs_of M)
      (sum_over_each deps_of_doc (docs_of M))

  new_jobs : List StreamJob
  new_jobs =
      firsts (λ (p : StreamJob). p.doc.no) (known_after (λ (p : StreamJob). p.doc.no) [] (flat_map jobs_in (catalogue V)))
      (flat_map jobs_in new_docs)

  jobs_more : jobs W ≡ jobs V ++ new_jobs
  unfolding jobs new_jobs
  jobs_more =
      ap (λ c. firsts (λ (p : StreamJob). p.doc.no) [] (flat_map jobs_in c)) catalogue_more
      ∙ ap (firsts (λ (p : StreamJob). p.doc.no) []) (flat_map-append jobs_in (catalogue V) new_docs)
      ∙ firsts-append (λ (p : StreamJob). p.doc.no) [] (flat_map jobs_in (catalogue V)) (flat_map jobs_in new_docs)

  abbrev IsFew : StreamJob → Type 0
  IsFew p = length p.doc.deps ≤ brought M

  jobs_of_doc : (d : StreamDoc) → deps_of_doc d ≤ brought M → AllByRecursion IsFew (jobs_in d)
  unfolding deps_of_doc
  jobs_of_doc d low =
      go d.jobs
      (all_such (λ (j : JobDoc). length j.deps ≤ sum_over (λ (j : JobDoc). length j.deps) d.jobs)
      (λ (j : JobDoc). length j.deps ≤ brought M) d.jobs (λ j h. omega (arith, h, low))
      (sum_over_each (λ (j : JobDoc). length j.deps) d.jobs))
    where
      go : (js : List JobDoc) → AllByRecursion (λ (j : JobDoc). length j.deps ≤ brought M) js
          → AllByRecursion IsFew (map (λ (j : JobDoc). record { parent = d; doc = j }) js)
      go [] h = tt
      go (j ∷ js) h = (h.0, go js h.1)

  few_jobs : AllByRecursion IsFew new_jobs
  unfolding new_jobs
  few_jobs =
      firsts_all IsFew (λ (p : StreamJob). p.doc.no) _ (flat_map jobs_in new_docs)
      (flat_all IsFew jobs_in new_docs
      (all_such (λ (d : StreamDoc). deps_of_doc d ≤ brought M) (λ (d : StreamDoc). AllByRecursion IsFew (jobs_in d)) new_docs
      jobs_of_doc new_streams))

  docs_new : (o : Obj) → owner V o ≡ None → length (document_deps W o) ≤ brought M
  unfolding owner document_deps stream job
  docs_new (Stream s) e = go (stream W s) found
    where
      none : stream V s ≡ None
      none = map_none (λ (d : StreamDoc). d.ws) (stream V s) e

      found : IfSome (stream W s) (λ (d : StreamDoc). deps_of_doc d ≤ brought M)
      found =
          if_found (λ (d : StreamDoc). deps_of_doc d ≤ brought M) (stream W s) (find (λ (d : StreamDoc). eqb d.no s) new_docs)
          (ap (find (λ (d : StreamDoc). eqb d.no s)) catalogue_more
          ∙ find_later (λ (d : StreamDoc). eqb d.no s) (catalogue V) new_docs none)
          (find_all (λ (d : StreamDoc). deps_of_doc d ≤ brought M) (λ (d : StreamDoc). eqb d.no s) new_docs new_streams)

      few : (d : StreamDoc) → deps_of_doc d ≤ brought M → length d.deps ≤ brought M
      few d h = omega (arith, h, own_deps d)

      go : (o : Option StreamDoc) → IfSome o (λ (d : StreamDoc). deps_of_doc d ≤ brought M)
          → length (option_map_or (λ (d : StreamDoc). d.deps) o []) ≤ brought M
      go None h = omega arith
      go (Some d) h = few d h
  docs_new (Job j) e = go (job W j) found
    where
      none : job V j ≡ None
      none = map_none (λ (p : StreamJob). p.doc.ws) (job V j) e

      found : IfSome (job W j) IsFew
      found =
          if_found IsFew (job W j) (find (λ (p : StreamJob). eqb p.doc.no j) new_jobs)
          (ap (find (λ (p : StreamJob). eqb p.doc.no j)) jobs_more
          ∙ find_later (λ (p : StreamJob). eqb p.doc.no j) (jobs V) new_jobs none)
          (find_all IsFew (λ (p : StreamJob). eqb p.doc.no j) new_jobs few_jobs)

      go : (o : Option StreamJob) → IfSome o IsFew
          → length (option_map_or (λ (p : StreamJob). p.doc.deps) o []) ≤ brought M
      go None h = omega arith
      go (Some p) h = h

-- what is there keeps its document
docs_same : (V W : View) → Grows V W → (o : Obj) (w : ℕ) → owner V o ≡ Some w → document_deps W o ≡ document_deps V o
unfolding owner document_deps
docs_same V W grows (Stream s) w e = go (stream V s) refl e
  where
    go : (o : Option StreamDoc) → stream V s ≡ o → option_map (λ (d : StreamDoc). d.ws) o ≡ Some w
        → option_map_or (λ (d : StreamDoc). d.deps) (stream W s) [] ≡ option_map_or (λ (d : StreamDoc). d.deps) (stream V s) []
    go None f e = cc
    go (Some d) f e = rw (f, stream_grows V W s d grows f) refl
docs_same V W grows (Job j) w e = go (job V j) refl e
  where
    go : (o : Option StreamJob) → job V j ≡ o → option_map (λ (p : StreamJob). p.doc.ws) o ≡ Some w
        → option_map_or (λ (p : StreamJob). p.doc.deps) (job W j) [] ≡ option_map_or (λ (p : StreamJob). p.doc.deps) (job V j) []
    go None f e = cc
    go (Some p) f e = rw (f, job_grows V W j p grows f) refl

-- a submitted stream brings no more dependencies than its draft has
jobs_brought : (fresh earlier : List Named) (n : ℕ) (ds : List JobDraft)
    → sum_over (λ (j : JobDoc). length j.deps) (map (doc_of_job fresh earlier) (enumerate_from n ds))
    ≤ sum_over (λ (d : JobDraft). length d.deps) ds
jobs_brought fresh earlier n [] = omega arith
jobs_brought fresh earlier n (d ∷ ds) =
    omega (arith, filter_map_short (resolve_dep fresh earlier) d.deps, jobs_brought fresh earlier (n + 1) ds)

draft_brought : (V : View) (a k : ℕ) (draft : StreamDraft)
    → brought (Added a k (numbered V draft) ∷ []) ≤ drafted_deps (Order (Submit draft))
unfolding brought deps_of_doc numbered
draft_brought V a k draft = go (named_fresh fresh ∷ []) (map named_doc (filter_map (stream V) (members V)))
  where
    fresh : Fresh
    fresh = record { number = 1 + last_stream V; first_job = 1 + last_job V; draft = draft }

    go : (ns earlier : List Named)
        → brought (Added a k (doc_of ns earlier (record { number = 1 + last_stream V; first_job = 1 + last_job V; draft = draft })) ∷ [])
        ≤ drafted_deps (Order (Submit draft))
    go ns earlier =
        omega (
          arith,
          filter_map_short (resolve_dep ns earlier) draft.deps,
          jobs_brought ns earlier (1 + last_job V) draft.jobs,
        )

-- the commands that add a dependency
adds : Obj → List Body → ℕ
adds o L = length (flat_map (deps_added_by o) (commands L))

adds_more : (o : Obj) (L M : List Body) → adds o (L ++ M) ≡ adds o L + adds o M
unfolding adds commands
adds_more o L M =
    ap (λ cs. length (flat_map (deps_added_by o) cs)) (filter_map-append obeyed_command L M)
    ∙ ap length (flat_map-append (deps_added_by o) (filter_map obeyed_command L) (filter_map obeyed_command M))
    ∙ length-append (flat_map (deps_added_by o) (filter_map obeyed_command L))
    (flat_map (deps_added_by o) (filter_map obeyed_command M))

-- a workstation finds no more dependencies than are counted
pub deps_few : (net : Net) (x : World) (w : ℕ) → Invariant net x → (o : Obj) → owner (view_at x w) o ≡ Some w
    → length (deps (view_at x w) o) ≤ deps_ahead net x.history w o
unfolding deps deps_ahead owner_events adds
deps_few net x w inv o mine =
    omega (
      arith,
      at_most (document_deps (view_at x w) o ++ flat_map (deps_added_by o) (commands (owner_events (view_at x w) o))),
      length-append (document_deps (view_at x w) o) (flat_map (deps_added_by o) (commands (owner_events (view_at x w) o))),
      ap length (docs_same (view_at x w) (list_of x.history) grows o w mine),
      ap (adds o) own_of,
      here,
    )
  where
    grows : Grows (view_at x w) (list_of x.history)
    grows = view_grows x.history (x.holdings w)

    at_most : (ds : List Dep) → length (take 65535 ds) ≤ length ds
    at_most ds = omega (arith, length-take 65535 ds)

    own_of : owner_events (view_at x w) o ≡ list_of x.history (Events w)
    own_of =
        ap (λ (p : Option ℕ). option_map_or (λ v. view_at x w (Events v)) p []) mine ∙ own_events net x w inv

    here : written_ahead net x.history w o ≡ length (document_deps (list_of x.history) o)
    here = rw (owned_grows (view_at x w) (list_of x.history) o w grows mine, eq-eqb w w refl) refl

-- of a list of w's own and one more entry
abbrev Tail : ℕ → Obj → (ℕ → List Body) → List Body → ℕ
Tail n o given L = adds o L + sum_over (λ a. length (given a) - answered a L) (below n)

one_added : (o : Obj) (a k : ℕ) (c : Cmd) → adds o (Obeyed a k c ∷ []) ≤ 1
unfolding adds commands
one_added o a k (AddDep p d) = go (obj_eq o p)
  where
    go : (b : Bool) → length ((if b then d ∷ [] else []) ++ []) ≤ 1
    go true = omega arith
    go false = omega arith
one_added o a k c = omega arith

none_added : (o : Obj) (b : Body) → obeyed_command b ≡ None → adds o (b ∷ []) ≡ 0
unfolding adds commands
none_added o b e = rw e refl

tail_low : (n : ℕ) (o : Obj) (given : ℕ → List Body) (L : List Body) (b : Body) → obeyed_command b ≡ None
    → Tail n o given (L ++ b ∷ []) ≤ Tail n o given L
tail_low n o given L b none =
    omega (
      arith,
      adds_more o L (b ∷ []),
      none_added o b none,
      sum_over_low (λ a. length (given a) - answered a (L ++ b ∷ [])) (λ a. length (given a) - answered a L) (below n)
          (λ a. omega (arith, answered-append a L (b ∷ []))),
    )

tail_obeyed : (n : ℕ) (o : Obj) (given : ℕ → List Body) (L : List Body) (a k : ℕ) (c : Cmd) → a < n
    → answered a L < length (given a) → Tail n o given (L ++ Obeyed a k c ∷ []) ≤ Tail n o given L
tail_obeyed n o given L a k c low more =
    omega (
      arith,
      adds_more o L (Obeyed a k c ∷ []),
      one_added o a k c,
      sum_over_falls (λ i. length (given i) - answered i (L ++ Obeyed a k c ∷ [])) (λ i. length (given i) - answered i L)
          1 n a (λ i. omega (arith, answered-append i L (Obeyed a k c ∷ []))) low
          (omega (
            arith,
            answered-append a L (Obeyed a k c ∷ []),
            answered_one a (Obeyed a k c) (eq-eqb a a refl),
            more,
          )),
    )

-- after an entry of w's own
module _ (net : Net) (G : List Entry) (e : Entry) (w : ℕ) (feed : e.feed ≡ Events w) where
  abbrev after : List Entry
  after = G ++ e ∷ []

  abbrev given : ℕ → ℕ → List Body
  given v a = list_of G (Orders a v)

  -- w's commands, and the orders to it, add no more than before
  abbrev TailFalls : Type 0
  TailFalls =
      (o : Obj)
      → Tail (node_count net) o (given w) (list_of G (Events w) ++ e.body ∷ [])
      ≤ Tail (node_count net) o (given w) (list_of G (Events w))

  -- at the master it brings no more than drafts that were ahead
  abbrev BringsDrafted : Type 0
  BringsDrafted = 0 ≡ w → brought (e.body ∷ []) ≤ drafted_ahead net G

  added_by : (v : ℕ) (o : Obj) (L : List Body) → list_of after (Events v) ≡ L
      → Tail (node_count net) o (given v) L ≤ Tail (node_count net) o (given v) (list_of G (Events v))
      → added_ahead net after v o ≤ added_ahead net G v o
  unfolding adds
  added_by v o L same low =
      let whole : added_ahead net after v o ≡ Tail (node_count net) o (given v) L =
      ap (λ (given : ℕ → List Body). Tail (node_count net) o given (list_of after (Events v)))
      (all_orders_same net G e w feed v)
      ∙ ap (Tail (node_count net) o (given v)) same in
      omega (arith, whole, low)

  added_less : TailFalls → (v : ℕ) (o : Obj) → added_ahead net after v o ≤ added_ahead net G v o
  added_less falls v o =
      elim (eqb_tells v w) [
        | inl k ↦ subst (λ (v : ℕ). added_ahead net after v o ≤ added_ahead net G v o) (sym k.1)
            (added_by w o (list_of G (Events w) ++ e.body ∷ []) (events_here net G e w feed) (falls o))
        | inr k ↦ added_by v o (list_of G (Events v)) (events_same net G e w feed v k.1) (omega arith)
      ]

  -- documents that can still come to the master's list
  abbrev Drafts : List Body → ℕ
  Drafts L = sum_over (λ a. sum_over drafted_deps (drop (answered a L) (given 0 a))) (below (node_count net))

  drafts_low : (L M : List Body) → ((a : ℕ) → answered a L ≤ answered a M) → Drafts M ≤ Drafts L
  drafts_low L M low =
      sum_over_low (λ a. sum_over drafted_deps (drop (answered a M) (given 0 a)))
      (λ a. sum_over drafted_deps (drop (answered a L) (given 0 a))) (below (node_count net))
      (λ a. drop_low drafted_deps (answered a M) (answered a L) (given 0 a) (low a))

  -- a longer list of the master, with what it brings
  record Longer : Type 0 where
    rest : List Body
    more : list_of after (Events 0) ≡ list_of G (Events 0) ++ rest
    brings : brought rest ≤ drafted_ahead net G
    less : drafted_ahead net after ≤ drafted_ahead net G

  drafts_are : (L : List Body) → list_of after (Events 0) ≡ L → drafted_ahead net after ≡ Drafts L
  drafts_are L same =
      ap (λ (given : ℕ → List Body). sum_over (λ a. sum_over drafted_deps (drop (answered a (list_of after (Events 0))) (given a)))
      (below (node_count net))) (all_orders_same net G e w feed 0)
      ∙ ap Drafts same

  by_others : 0 ≢ w → Longer
  unfolding brought
  by_others other =
      let same : list_of after (Events 0) ≡ list_of G (Events 0) = events_same net G e w feed 0 other in
      record {
        rest = [];
        more = same ∙ sym (append-nil (list_of G (Events 0)));
        brings = omega arith;
        less = omega (arith, drafts_are (list_of G (Events 0)) same);
      }

  by_master : BringsDrafted → 0 ≡ w → Longer
  by_master drafted is =
      let same : list_of after (Events 0) ≡ list_of G (Events 0) ++ e.body ∷ [] =
      subst (λ (v : ℕ). list_of after (Events v) ≡ list_of G (Events v) ++ e.body ∷ []) (sym is) (events_here net G e w feed) in
      record {
        rest = e.body ∷ [];
        more = same;
        brings = drafted is;
        less =
            omega (
              arith,
              drafts_are (list_of G (Events 0) ++ e.body ∷ []) same,
              drafts_low (list_of G (Events 0)) (list_of G (Events 0) ++ e.body ∷ [])
                  (λ a. omega (arith, answered-append a (list_of G (Events 0)) (e.body ∷ []))),
            );
      }

  written_less : BringsDrafted → (v : ℕ) (o : Obj) → written_ahead net after v o ≤ written_ahead net G v o
  written_less drafted v o =
      elim (eqb_tells 0 w) [ inl k ↦ with_list (by_master drafted k.1) | inr k ↦ with_list (by_others k.1) ]
    where
      with_list : Longer → written_ahead net after v o ≤ written_ahead net G v o
      with_list l = go (owner (list_of G) o) refl
        where
          here : (b : Bool) (m n : ℕ) → m ≤ n → cond b m 0 ≤ n
          here true m n h = h
          here false m n h = omega arith

          new : owner (list_of G) o ≡ None → (p : Option ℕ)
              → option_map_or (λ u. cond (eqb u v) (length (document_deps (list_of after) o)) 0) p (drafted_ahead net after)
              ≤ drafted_ahead net G
          new none None = l.less
          new none (Some u) =
              here (eqb u v) (length (document_deps (list_of after) o)) (drafted_ahead net G)
              (omega (arith, docs_new (list_of G) (list_of after) l.rest l.more o none, l.brings))

          go : (p : Option ℕ) → owner (list_of G) o ≡ p
              → written_ahead net after v o
              ≤ option_map_or (λ u. cond (eqb u v) (length (document_deps (list_of G) o)) 0) p (drafted_ahead net G)
          go None k = new k (owner (list_of after) o)
          go (Some u) k =
              rw (
                owned_grows (list_of G) (list_of after) o u (history_grows G (e ∷ [])) k,
                docs_same (list_of G) (list_of after) (history_grows G (e ∷ [])) o u k,
              )
              (omega arith)

  deps_behind : TailFalls → BringsDrafted → (v : ℕ) (o : Obj) → deps_ahead net after v o ≤ deps_ahead net G v o
  unfolding deps_ahead
  deps_behind falls drafted v o = omega (arith, written_less drafted v o, added_less falls v o)

nothing_brought : (c : Body) → docs_in c ≡ [] → brought (c ∷ []) ≡ 0
unfolding brought
nothing_brought c none = rw none refl

-- an entry without a document and without a command leaves no more
pub deps_plain : (net : Net) (G : List Entry) (e : Entry) (w : ℕ) → e.feed ≡ Events w → docs_in e.body ≡ []
    → obeyed_command e.body ≡ None → (v : ℕ) (o : Obj) → deps_ahead net (G ++ e ∷ []) v o ≤ deps_ahead net G v o
deps_plain net G e w feed no_docs no_command =
    deps_behind net G e w feed
    (λ o. tail_low (node_count net) o (λ a. list_of G (Orders a w)) (list_of G (Events w)) e.body no_command)
    (λ same. omega (arith, nothing_brought e.body no_docs))

-- one that a turn makes leaves no more
module _ (net : Net) (x z : World) (w t : ℕ) (inv : Invariant net x) (b : Body) (made : Made net x z w t b) where
  abbrev new : Entry
  new = next_entry (view_at x w) (Events w) b

  abbrev old : List Entry
  old = x.history

  gives : TurnGives (net_at net x w) (view_at x w) w (x.sessions w).live t b
  gives =
      there_if (TurnGives (net_at net x w) (view_at x w) w (x.sessions w).live t) _ b
      (turn_gives (net_at net x w) (view_at x w) w (x.sessions w).live t) made.body

  abbrev orders : ℕ → ℕ → List Body
  orders v a = list_of old (Orders a v)

  -- commands of its own, and orders to it
  own_tail : (o : Obj) → Tail (node_count net) o (orders w) (list_of old (Events w) ++ b ∷ [])
      ≤ Tail (node_count net) o (orders w) (list_of old (Events w))
  own_tail o = go b gives
    where
      go : (c : Body) → TurnGives (net_at net x w) (view_at x w) w (x.sessions w).live t c
          → Tail (node_count net) o (orders w) (list_of old (Events w) ++ c ∷ [])
          ≤ Tail (node_count net) o (orders w) (list_of old (Events w))
      go c (TurnGives.clocked g) = tail_low (node_count net) o (orders w) (list_of old (Events w)) c refl
      go c (TurnGives.lost j n f dead) = tail_low (node_count net) o (orders w) (list_of old (Events w)) c refl
      go c (TurnGives.declined a d why g) = tail_low (node_count net) o (orders w) (list_of old (Events w)) c refl
      go c (TurnGives.added a draft g v) = tail_low (node_count net) o (orders w) (list_of old (Events w)) c refl
      go c (TurnGives.obeyed a d g) =
          let there : slice_get (list_of old (Orders a w)) (answered a (list_of old (Events w))) ≡ Some (Order d) =
          next_given net x w inv a d g in
          tail_obeyed (node_count net) o (orders w) (list_of old (Events w)) a _ d (issuer_in net x w inv a _ (Order d) there)
          (found_within (list_of old (Orders a w)) _ (Order d) there)
      go c (TurnGives.until o p u m g l) = tail_low (node_count net) _ (orders w) (list_of old (Events w)) c refl
      go c (TurnGives.late o p m g) = tail_low (node_count net) _ (orders w) (list_of old (Events w)) c refl
      go c (TurnGives.released s g) = tail_low (node_count net) o (orders w) (list_of old (Events w)) c refl
      go c (TurnGives.ended s g) = tail_low (node_count net) o (orders w) (list_of old (Events w)) c refl
      go c (TurnGives.launched j ready) = tail_low (node_count net) o (orders w) (list_of old (Events w)) c refl

  master_brings : 0 ≡ w → brought (b ∷ []) ≤ drafted_ahead net old
  master_brings same = go b gives
    where
      go : (c : Body) → TurnGives (net_at net x w) (view_at x w) w (x.sessions w).live t c
          → brought (c ∷ []) ≤ drafted_ahead net old
      go c (TurnGives.clocked g) = omega (arith, nothing_brought c refl)
      go c (TurnGives.lost j n f dead) = omega (arith, nothing_brought c refl)
      go c (TurnGives.declined a d why g) = omega (arith, nothing_brought c refl)
      go c (TurnGives.added a draft g v) =
          let there : slice_get (orders 0 a) (answered a (list_of old (Events 0))) ≡ Some (Order (Submit draft)) =
          subst (λ (w : ℕ). slice_get (list_of old (Orders a w)) (answered a (list_of old (Events w))) ≡ Some (Order (Submit draft)))
          (sym same) (next_given net x w inv a (Submit draft) g) in
          omega (
            arith,
            draft_brought (view_at x w) a (1 + answered a (view_at x w (Events w))) draft,
            drop_next drafted_deps (answered a (list_of old (Events 0))) (orders 0 a) (Order (Submit draft)) there,
            one_of_all (λ a. sum_over drafted_deps (drop (answered a (list_of old (Events 0))) (orders 0 a))) (node_count net) a
                (issuer_in net x 0 inv a _ (Order (Submit draft)) there),
          )
      go c (TurnGives.obeyed a d g) = omega (arith, nothing_brought c refl)
      go c (TurnGives.until o p u m g l) = omega (arith, nothing_brought c refl)
      go c (TurnGives.late o p m g) = omega (arith, nothing_brought c refl)
      go c (TurnGives.released s g) = omega (arith, nothing_brought c refl)
      go c (TurnGives.ended s g) = omega (arith, nothing_brought c refl)
      go c (TurnGives.launched j ready) = omega (arith, nothing_brought c refl)

  pub deps_less : (v : ℕ) (o : Obj) → deps_ahead net (x.history ++ new ∷ []) v o ≤ deps_ahead net x.history v o
  deps_less = deps_behind net old new w refl own_tail master_brings
