-- A replay keeps too few bytes to spend the numbers of streams and jobs.
use Rattle.std.proofs.Common.{◌≡◌, ◌≢◌, ◌+◌, ◌≤◌, ℕ, zero, suc, Bool, List, [], ◌∷◌, Option, None, Some, ap, arith, cond, false, length, length-append, map, refl, subst, sym, true}
use Rattle.std.proofs.lemmas.Bool.Decides.{nat_tests}
use Rattle.std.proofs.lemmas.List.Sums.{sum_by-append, sum_by-cons, sum_by_push}
use Rattle.std.specs.Option.{option_map_or}
use Rattle.std.specs.Prelude.{Err, filter, flat_map, nat_lt, sum_by}
use Rattle.lemmas.proofs.Booleans.{contrary}
use Rattle.model.specs.Types.{Added, Body, Entry, Events, Feed, Input, JobDoc, Local, Net, NewPlan, StreamDoc, StreamDraft}
use Rattle.model.specs.Types.{WorldStep}
use Rattle.model.specs.Words.{firsts, greatest, has, numbers_from}
use Rattle.model.specs.Equalities.{feed_eq}
use Rattle.model.specs.History.{View, list_of}
use Rattle.model.specs.Catalogue.{StreamJob, catalogue, docs_in, jobs, jobs_in}
use Rattle.model.specs.NewPlan.{are_numbers_spent, jobs_in_drafts, last_job, last_stream}
use Rattle.model.specs.Sizes.{body_size, entry_size, job_doc_size, stream_doc_size}
use Rattle.model.specs.StepFaults.{CarryFault, StepFault, is_next}
use Rattle.model.specs.Step.{Effect}
use Rattle.model.specs.World.{Origin, StepRefused, World, apply_effect, empty_world, history_with, mark_delivered}
use Rattle.model.specs.World.{or_as_before, run, step, view_at}
use Rattle.model.specs.Invariant.{IsNumbered}
use Rattle.model_laws.proofs.Keeps.{always_invariant}
use Rattle.model_laws.proofs.Numbers.{jobs_numbered, map-length, streams_numbered}
use Rattle.model_laws.proofs.Sends.{always_kept}
use Rattle.model_laws.proofs.Steps.{always, here, moves}
use Rattle.refusal_laws.specs.Named.{drafts_in, drafts_of}
use Rattle.refusal_laws.proofs.Faults.{Faulty, IsInputOf, came, came_cut, fault_tells, faulty, own, own_cut}
use Rattle.refusal_laws.proofs.Runs.{at_master, master_holds, plan_tells}
use Rattle.refusal_laws.proofs.Strangers.{no_plan}

-- sums
long_by : {A : Type 0} (size : A → ℕ) → ((a : A) → 1 ≤ size a) → (xs : List A) → length xs ≤ sum_by size xs
long_by size each [] = omega arith
long_by size each (x ∷ xs) = omega (arith, sum_by-cons size x xs, each x, long_by size each xs)

firsts_light : {A : Type 0} (size number : A → ℕ) (known : List ℕ) (xs : List A)
    → sum_by size (firsts number known xs) ≤ sum_by size xs
firsts_light size number known [] = omega arith
firsts_light {A} size number known (x ∷ xs) =
    go (has known (number x)) (firsts_light size number known xs) (firsts_light size number (number x ∷ known) xs)
  where
    go : (b : Bool) → sum_by size (firsts number known xs) ≤ sum_by size xs
        → sum_by size (firsts number (number x ∷ known) xs) ≤ sum_by size xs
        → sum_by size (cond b (firsts number known xs) (x ∷ firsts number (number x ∷ known) xs)) ≤ sum_by size (x ∷ xs)
    go true h k = omega (arith, sum_by-cons size x xs, h)
    go false h k =
        omega (arith, sum_by-cons size x xs, sum_by-cons size x (firsts number (number x ∷ known) xs), k)

firsts_short : {A : Type 0} (number : A → ℕ) (known : List ℕ) (xs : List A)
    → length (firsts number known xs) ≤ length xs
firsts_short number known [] = omega arith
firsts_short {A} number known (x ∷ xs) =
    go (has known (number x)) (firsts_short number known xs) (firsts_short number (number x ∷ known) xs)
  where
    go : (b : Bool) → length (firsts number known xs) ≤ length xs
        → length (firsts number (number x ∷ known) xs) ≤ length xs
        → length (cond b (firsts number known xs) (x ∷ firsts number (number x ∷ known) xs)) ≤ length (x ∷ xs)
    go true h k = omega (arith, h)
    go false h k = omega (arith, k)

-- the bytes of documents
job_sized : (j : JobDoc) → 1 ≤ job_doc_size j
job_sized j = omega arith

stream_sized : (d : StreamDoc) → 1 ≤ stream_doc_size d
stream_sized d = omega arith

jobs_sized : (d : StreamDoc) → length (jobs_in d) ≤ stream_doc_size d
jobs_sized d =
    omega (
      arith,
      map-length {B = StreamJob} (λ (j : JobDoc). record { parent = d; doc = j }) d.jobs,
      long_by job_doc_size job_sized d.jobs,
    )

all_jobs_sized : (ds : List StreamDoc) → length (flat_map jobs_in ds) ≤ sum_by stream_doc_size ds
all_jobs_sized [] = omega arith
all_jobs_sized (d ∷ ds) =
    omega (
      arith,
      length-append (jobs_in d) (flat_map jobs_in ds),
      sum_by-cons stream_doc_size d ds,
      jobs_sized d,
      all_jobs_sized ds,
    )

body_sized : (b : Body) → sum_by stream_doc_size (docs_in b) ≤ body_size b
body_sized (NewPlan run_ cut carried docs) = omega arith
body_sized (Added a k doc) = omega arith
body_sized b = omega arith

bodies_sized : (bs : List Body) → sum_by stream_doc_size (flat_map docs_in bs) ≤ sum_by body_size bs
bodies_sized [] = omega arith
bodies_sized (b ∷ bs) =
    omega (
      arith,
      sum_by-append stream_doc_size (docs_in b) (flat_map docs_in bs),
      sum_by-cons body_size b bs,
      body_sized b,
      bodies_sized bs,
    )

feed_sized : (f : Feed) (G : List Entry) → sum_by body_size (list_of G f) ≤ sum_by entry_size G
unfolding list_of entry_size
feed_sized f [] = omega arith
feed_sized f (e ∷ G) = go (feed_eq f e.feed) (feed_sized f G)
  where
    go : (b : Bool)
        → sum_by body_size (map (λ (d : Entry). d.body) (filter (λ (d : Entry). feed_eq f d.feed) G)) ≤ sum_by entry_size G
        → sum_by body_size (map (λ (d : Entry). d.body) (cond b (e ∷ filter (λ (d : Entry). feed_eq f d.feed) G) (filter (λ (d : Entry). feed_eq f d.feed) G)))
        ≤ sum_by entry_size (e ∷ G)
    go true h =
        omega (
          arith,
          sum_by-cons entry_size e G,
          sum_by-cons body_size e.body
              (map (λ (d : Entry). d.body) (filter (λ (d : Entry). feed_eq f d.feed) G)),
          h,
        )
    go false h = omega (arith, sum_by-cons entry_size e G, h)

-- what a history has was kept
abbrev IsWeighed : World → Type 0
IsWeighed x = sum_by entry_size x.history ≤ x.kept

weighed_with : (o : Origin) (G : List Entry) (made : Option Entry) (n : ℕ) → sum_by entry_size G ≤ n
    → sum_by entry_size (history_with o G made) ≤ n + option_map_or entry_size made 0
weighed_with Origin.Own G None n h = omega (arith, h)
weighed_with Origin.Mailed G None n h = omega (arith, h)
weighed_with Origin.Mailed G (Some e) n h = omega (arith, h)
weighed_with Origin.Own G (Some e) n h = omega (arith, h, sum_by_push entry_size G e)

weighed_after : (x : World) (w : ℕ) (o : Origin) (d : Effect) → IsWeighed x → IsWeighed (apply_effect x w o d)
unfolding apply_effect
weighed_after x w o d h = weighed_with o x.history d.made x.kept h

weighed_marked : (x : World) (a b k : ℕ) → IsWeighed x → IsWeighed (mark_delivered x a b k)
unfolding mark_delivered
weighed_marked x a b k h = h

weighed_step : (net : Net) (x : World) (s : WorldStep) → IsWeighed x → IsWeighed (or_as_before x (step net x s))
weighed_step net x s h =
    moves net IsWeighed x h (λ w d done. weighed_after x w Origin.Own d h)
    (λ a b k d done. weighed_marked (apply_effect x b Origin.Mailed d) a b k (weighed_after x b Origin.Mailed d h)) s

docs_few : (net : Net) (steps : List WorldStep)
    → sum_by stream_doc_size (flat_map docs_in (list_of (run net steps empty_world).history (Events 0))) ≤ 272629759
docs_few net steps =
    let x : World = run net steps empty_world in
    let weighed : IsWeighed x = always net IsWeighed (weighed_step net) steps empty_world (omega arith) in
    omega (
      arith,
      bodies_sized (list_of x.history (Events 0)),
      feed_sized (Events 0) x.history,
      weighed,
      always_kept net steps,
    )

-- the last numbers
greatest_low : (a n : ℕ) → greatest (numbers_from a n) ≤ a + n
greatest_low a zero = omega arith
greatest_low a (suc n) =
    go (nat_lt a (greatest (numbers_from (a + 1) n))) (greatest_low (a + 1) n)
  where
    go : (b : Bool) → greatest (numbers_from (a + 1) n) ≤ a + 1 + n
        → cond b (greatest (numbers_from (a + 1) n)) a ≤ a + suc n
    go true h = omega (arith, h)
    go false h = omega arith

module _ (V : View) (numbered : IsNumbered (V (Events 0)))
    (few : sum_by stream_doc_size (flat_map docs_in (V (Events 0))) ≤ 272629759) where
  catalogue_light : sum_by stream_doc_size (catalogue V) ≤ 272629759
  unfolding catalogue
  catalogue_light =
      omega (
        arith,
        firsts_light stream_doc_size (λ (d : StreamDoc). d.no) [] (flat_map docs_in (V (Events 0))),
        few,
      )

  jobs_short : length (jobs V) ≤ 272629759
  unfolding jobs
  jobs_short =
      omega (
        arith,
        firsts_short (λ (p : StreamJob). p.doc.no) [] (flat_map jobs_in (catalogue V)),
        all_jobs_sized (catalogue V),
        catalogue_light,
      )

  stream_low : last_stream V ≤ 272629760
  stream_low =
      omega (
        arith,
        ap greatest (streams_numbered V numbered),
        greatest_low 1 (length (catalogue V)),
        long_by stream_doc_size stream_sized (catalogue V),
        catalogue_light,
      )

  job_low : last_job V ≤ 272629760
  job_low = omega (arith, ap greatest (jobs_numbered V numbered), greatest_low 1 (length (jobs V)), jobs_short)

  pub numbers_left : (drafts : List StreamDraft) → length drafts ≤ 4022337535 → jobs_in_drafts drafts ≤ 4022337535
      → are_numbers_spent V drafts ≡ false
  unfolding are_numbers_spent
  numbers_left drafts streams jobs_ = rw (low (last_stream V + length drafts) a, low (last_job V + jobs_in_drafts drafts) b) refl
    where
      a : last_stream V + length drafts ≤ 4294967295
      a = omega (arith, stream_low, streams)

      b : last_job V + jobs_in_drafts drafts ≤ 4294967295
      b = omega (arith, job_low, jobs_)

      low : (n : ℕ) → n ≤ 4294967295 → nat_lt 4294967295 n ≡ false
      low n h = grind (arith, h, nat_tests)

-- the drafts of a step are those of its input
drafts_are : (x : World) (s : WorldStep) (w : ℕ) (i : Input) (drafts : List StreamDraft) → IsInputOf x s w i
    → i ≡ Input.Local (Local.Next drafts) → drafts_in s ≡ drafts
drafts_are x s w i drafts (own v l) is = ap drafts_of (same is)
  where
    same : Input.Local l ≡ Input.Local (Local.Next drafts) → l ≡ Local.Next drafts
    same e = cc
drafts_are x s w i drafts (own_cut v l kept) is = ap drafts_of (same is)
  where
    same : Input.Local l ≡ Input.Local (Local.Next drafts) → l ≡ Local.Next drafts
    same e = cc
drafts_are x s w i drafts (came a b k j e) is = absurd (contrary (ap is_next is) (no_plan x a b k j e))
drafts_are x s w i drafts (came_cut a b k kept j e) is = absurd (contrary (ap is_next is) (no_plan x a b k j e))

pub no_number_spent : (net : Net) (steps : List WorldStep) (s : WorldStep) → length (drafts_in s) ≤ 4022337535
    → jobs_in_drafts (drafts_in s) ≤ 4022337535
    → step net (run net steps empty_world) s ≢ Err (StepRefused.Step (StepFault.Carry CarryFault.NumbersSpent))
no_number_spent net steps s streams jobs_ e =
    let x : World = run net steps empty_world in
    let t : Faulty net x s (StepFault.Carry CarryFault.NumbersSpent) =
    faulty net x s (StepFault.Carry CarryFault.NumbersSpent) e in
    let c = fault_tells (here net x t.node) t.node (view_at x t.node) (x.sessions t.node) t.input
    (StepFault.Carry CarryFault.NumbersSpent) t.fault in
    let p = plan_tells (here net x t.node) (view_at x t.node) t.input CarryFault.NumbersSpent c.1 in
    let first : t.node ≡ 0 = at_master t.node t.input p.0 p.1 c.0 in
    let same : drafts_in s ≡ p.0 = drafts_are x s t.node t.input p.0 t.is_its p.1 in
    let all : view_at x 0 (Events 0) ≡ list_of x.history (Events 0) = master_holds net steps in
    contrary
    (subst (λ (w : ℕ). are_numbers_spent (view_at x w) p.0 ≡ true) first p.2)
    (numbers_left (view_at x 0) (subst IsNumbered (sym all) (always_invariant net steps).numbers)
    (subst (λ (l : List Body). sum_by stream_doc_size (flat_map docs_in l) ≤ 272629759) (sym all) (docs_few net steps))
    p.0 (subst (λ (ds : List StreamDraft). length ds ≤ 4022337535) same streams)
    (subst (λ (ds : List StreamDraft). jobs_in_drafts ds ≤ 4022337535) same jobs_))
