-- The first ready candidate is the best job.
use Rattle.std.proofs.Common.{[], ℕ, ◌*◌, ◌+◌, ◌<◌, ◌∙◌, ◌∷◌, ◌≡◌, ◌≢◌, ◌⊎◌, Bool, List, None, Option, Some, ap}
use Rattle.std.proofs.Common.{arith, cond, false, filter, find, fold, inl, inr, nat_lt, option_map, refl}
use Rattle.std.proofs.Common.{slice_get, subst, suc, sym, true, zero}
use Rattle.std.proofs.lemmas.Bool.Decides.{eqb_tells, nat_tests}
use Rattle.std.specs.List.{list_all}
use Rattle.std.specs.Option.{option_map_or}
use Rattle.std.specs.Prelude.{◌%◌, not}
use Rattle.lemmas.proofs.Booleans.{and_left, and_right}
use Rattle.lemmas.proofs.Numbers.{lt_told}
use Rattle.model.specs.Types.{At, Dep, Events, Job, Net, Obj, Stream}
use Rattle.model.specs.Types.{Deadline, FollowsJob, FollowsStream, Needs, Outside, Prompt, Until}
use Rattle.model.specs.History.{View}
use Rattle.model.specs.Words.{all_of}
use Rattle.model.specs.Catalogue.{StreamJob, is_member, job, jobs_of}
use Rattle.model.specs.Facts.{is_cancelled, is_due, is_released}
use Rattle.model.specs.Dependencies.{NumberedDep, all_satisfied, is_met}
use Rattle.model.specs.Dependencies.{unwaived_deps}
use Rattle.model.specs.Readiness.{best, better_of, higher, is_better, is_ready, is_ready_in, job_priority}
use Rattle.model.specs.Readiness.{ready_conditions, stream_priority}
use Rattle.ready_index.specs.declared.targets.Target.{Target}
use Rattle.ready_index.specs.Awaited.{IsAwaited, held_back, held_back_by, is_in_play}
use Rattle.ready_index.specs.Lists.{Among, InOrder}
use Rattle.ready_index.specs.Places.{IsPlaceHere, IsPlaceOf, number_at}
use Rattle.ready_index.proofs.Elements.{chosen_of, filter_has, filter_keeps, filter_none}

-- what decides between two ready jobs
pub record Rank : Type 0 where
  pub stream : ℕ
  pub job : ℕ
  pub number : ℕ

abbrev rank_of : View → StreamJob → Rank
rank_of V p = record { stream = stream_priority V p.parent; job = job_priority V p; number = p.doc.no }

abbrev comes_before : Rank → Rank → Bool
comes_before a b = higher a.stream b.stream (higher a.job b.job (nat_lt a.number b.number))

not_both : (a b c d e f : ℕ) → higher a b (higher c d (nat_lt e f)) ≡ true → higher b a (higher d c (nat_lt f e)) ≡ false
not_both a b c d e f h = grind (arith, h)

after : (r s : Rank) → comes_before r s ≡ true → comes_before s r ≡ false
after r s h = not_both r.stream s.stream r.job s.job r.number s.number h

not_itself : (r : Rank) → comes_before r r ≡ false
not_itself r = go (comes_before r r) refl
  where
    go : (b : Bool) → comes_before r r ≡ b → comes_before r r ≡ false
    go true e = after r r e
    go false e = e

better_by_rank : (V : View) (p q : StreamJob) → is_better V p q ≡ comes_before (rank_of V p) (rank_of V q)
unfolding is_better
better_by_rank V p q = refl

module _ (V : View) (p : StreamJob) where
  -- p, or one that p comes before
  abbrev NotBetter : StreamJob → Type 0
  NotBetter q = (rank_of V q ≡ rank_of V p) ⊎ (comes_before (rank_of V p) (rank_of V q) ≡ true)

  abbrev SoFar : Option StreamJob → Type 0
  SoFar None = Unit {0}
  SoFar (Some a) = NotBetter a

  abbrev Chosen : Option StreamJob → Type 0
  Chosen None = ⊥
  Chosen (Some a) = rank_of V a ≡ rank_of V p

  -- p is chosen where it stands or was chosen, and none is better
  chosen : (xs : List StreamJob) (acc : Option StreamJob) → SoFar acc → (Among p xs ⊎ Chosen acc)
      → ((q : StreamJob) → Among q xs → NotBetter q)
      → option_map (λ (x : StreamJob). x.doc.no) (fold (better_of V) acc xs) ≡ Some p.doc.no
  chosen [] None so there none = elim there [ inl e ↦ absurd e | inr e ↦ absurd e ]
  chosen [] (Some a) so there none = elim there [ inl e ↦ absurd e | inr e ↦ ap (λ (r : Rank). Some r.number) e ]
  chosen (x ∷ xs) None so there none =
      chosen xs (Some x) (none x (inl refl)) (next there) (λ q h. none q (inr h))
    where
      next : (Among p (x ∷ xs) ⊎ Chosen None) → (Among p xs ⊎ Chosen (Some x))
      next (inl (inl e)) = inr (ap (rank_of V) (sym e))
      next (inl (inr h)) = inl h
      next (inr e) = absurd e
  chosen (x ∷ xs) (Some a) so there none =
      go (is_better V x a) refl (λ acc s t. chosen xs acc s t (λ q h. none q (inr h)))
    where
      clash : comes_before (rank_of V x) (rank_of V p) ≡ true → NotBetter x → ⊥
      clash b (inl e) =
          let t : comes_before (rank_of V p) (rank_of V p) ≡ true =
          subst (λ (r : Rank). comes_before r (rank_of V p) ≡ true) e b in
          let f : comes_before (rank_of V p) (rank_of V p) ≡ false = not_itself (rank_of V p) in cc
      clash b (inr c) =
          let f : comes_before (rank_of V x) (rank_of V p) ≡ false = after (rank_of V p) (rank_of V x) c in cc

      newer : is_better V x a ≡ true → (Among p (x ∷ xs) ⊎ Chosen (Some a)) → (Among p xs ⊎ Chosen (Some x))
      newer b (inl (inl e)) = inr (ap (rank_of V) (sym e))
      newer b (inl (inr h)) = inl h
      newer b (inr e) =
          absurd (clash (subst (λ (r : Rank). comes_before (rank_of V x) r ≡ true) e
          (sym (better_by_rank V x a) ∙ b)) (none x (inl refl)))

      older : is_better V x a ≡ false → NotBetter a → (Among p (x ∷ xs) ⊎ Chosen (Some a)) → (Among p xs ⊎ Chosen (Some a))
      older b (inl s) (inl (inl e)) = inr s
      older b (inr s) (inl (inl e)) =
          let f : comes_before (rank_of V p) (rank_of V a) ≡ false =
          subst (λ (y : StreamJob). comes_before (rank_of V y) (rank_of V a) ≡ false) (sym e)
          (sym (better_by_rank V x a) ∙ b) in absurd (cc)
      older b s (inl (inr h)) = inl h
      older b s (inr e) = inr e

      go : (b : Bool) → is_better V x a ≡ b
          → ((acc : Option StreamJob) → SoFar acc → (Among p xs ⊎ Chosen acc)
          → option_map (λ (x : StreamJob). x.doc.no) (fold (better_of V) acc xs) ≡ Some p.doc.no)
          → option_map (λ (x : StreamJob). x.doc.no) (fold (better_of V) (cond b (Some x) (Some a)) xs) ≡ Some p.doc.no
      go true b ih = ih (Some x) (none x (inl refl)) (newer b there)
      go false b ih = ih (Some a) so (older b so there)

-- places
number_by : (place high number : ℕ) → number < 4294967296 → place ≡ high * 4294967296 + number
    → place % 4294967296 ≡ number
number_by place high number small e = omega arith

-- the number at a place is that of the job
pub place_number : (V : View) (p : StreamJob) (place : ℕ) → IsPlaceOf V p place → number_at place ≡ p.doc.no
place_number V p place h = number_by place (h.below_stream * 256 + h.below_job) p.doc.no h.number h.place_is

ranks_same : (a b c d e f : ℕ) → a ≡ d → b ≡ e → c ≡ f
    → record { stream = a; job = b; number = c } ≡ (let r : Rank = record { stream = d; job = e; number = f } in r)
ranks_same a b c d e f s j n = cc

-- two jobs at one place have one rank
same_place : (V : View) (p q : StreamJob) (place : ℕ) → IsPlaceOf V p place → IsPlaceOf V q place
    → rank_of V q ≡ rank_of V p
same_place V p q place h k =
    let n : q.doc.no ≡ p.doc.no = sym (place_number V q place k) ∙ place_number V p place h in
    let s : h.below_stream ≡ k.below_stream = omega (arith, h.place_is, k.place_is, h.stream, k.stream, h.job, k.job, n) in
    let j : h.below_job ≡ k.below_job = omega (arith, h.place_is, k.place_is, s, n) in
    let a : stream_priority V q.parent ≡ stream_priority V p.parent = omega (arith, h.stream, k.stream, s) in
    let b : job_priority V q ≡ job_priority V p = omega (arith, h.job, k.job, j) in
    cc

higher_by : (a b : ℕ) (tied : Bool) → b < a → higher a b tied ≡ true
higher_by a b tied h = grind (arith, nat_tests)

higher_tied : (a b : ℕ) (tied : Bool) → a ≡ b → tied ≡ true → higher a b tied ≡ true
higher_tied a b tied e h = grind (arith, nat_tests)

-- which of two numbers is lower
abbrev Compared : ℕ → ℕ → Type 0
Compared x y = (x < y) ⊎ ((x ≡ y) ⊎ (y < x))

compared : (x y : ℕ) → Compared x y
compared x y = elim (eqb_tells x y) [ inl e ↦ inr (inl e.1) | inr e ↦ go (nat_lt x y) refl e.1 ]
  where
    below : nat_lt x y ≡ true → x < y
    below h = grind (arith, nat_tests)

    above : nat_lt x y ≡ false → x ≢ y → y < x
    above h e = grind (arith, nat_tests)

    go : (b : Bool) → nat_lt x y ≡ b → x ≢ y → Compared x y
    go true h e = inl (below h)
    go false h e = inr (inr (above h e))

-- and the job at the lower of two places comes before the other
lower_place : (V : View) (p q : StreamJob) (low high : ℕ) → low < high → IsPlaceOf V p low → IsPlaceOf V q high
    → comes_before (rank_of V p) (rank_of V q) ≡ true
lower_place V p q low high less h k = by_stream (compared h.below_stream k.below_stream)
  where
    by_number : h.below_stream ≡ k.below_stream → h.below_job ≡ k.below_job → p.doc.no < q.doc.no
    by_number s j = omega (arith, less, h.place_is, k.place_is, s, j)

    by_job : h.below_stream ≡ k.below_stream → Compared h.below_job k.below_job
        → higher (job_priority V p) (job_priority V q) (nat_lt p.doc.no q.doc.no) ≡ true
    by_job s (inl c) =
        let more : job_priority V q < job_priority V p = omega (arith, h.job, k.job, c) in
        higher_by (job_priority V p) (job_priority V q) (nat_lt p.doc.no q.doc.no) more
    by_job s (inr (inl c)) =
        let same : job_priority V p ≡ job_priority V q = omega (arith, h.job, k.job, c) in
        higher_tied (job_priority V p) (job_priority V q) (nat_lt p.doc.no q.doc.no) same
        (lt_told p.doc.no q.doc.no (by_number s c))
    by_job s (inr (inr c)) = absurd (omega (arith, less, h.place_is, k.place_is, h.number, k.number, s, c))

    by_stream : Compared h.below_stream k.below_stream → comes_before (rank_of V p) (rank_of V q) ≡ true
    by_stream (inl c) =
        let more : stream_priority V q.parent < stream_priority V p.parent = omega (arith, h.stream, k.stream, c) in
        higher_by (stream_priority V p.parent) (stream_priority V q.parent)
        (higher (job_priority V p) (job_priority V q) (nat_lt p.doc.no q.doc.no)) more
    by_stream (inr (inl c)) =
        let same : stream_priority V p.parent ≡ stream_priority V q.parent = omega (arith, h.stream, k.stream, c) in
        higher_tied (stream_priority V p.parent) (stream_priority V q.parent)
        (higher (job_priority V p) (job_priority V q) (nat_lt p.doc.no q.doc.no)) same (by_job c (compared h.below_job k.below_job))
    by_stream (inr (inr c)) =
        absurd (omega (arith, less, h.place_is, k.place_is, h.number, k.number, h.job, k.job, c))

-- each of the conditions that hold
pub held : (bs : List Bool) (i : ℕ) (b : Bool) → all_of bs ≡ true → slice_get bs i ≡ Some b → b ≡ true
held [] i b h e = cc
held (c ∷ cs) zero b h e = let s : c ≡ b = cc in sym s ∙ and_left c (all_of cs) h
held (c ∷ cs) (suc i) b h e = held cs i b (and_right c (all_of cs) h) e

-- a ready job is in play, its stream is released, and its dependencies are satisfied
pub record IsOpenTo (net : Net) (V : View) (w : ℕ) (p : StreamJob) : Type 0 where
  pub play : is_in_play V w p ≡ true
  pub released : is_released p.parent.no (V (Events p.parent.ws)) ≡ true
  pub satisfied : all_satisfied net V w (Job p.doc.no) ≡ true

in_play : (V : View) (w : ℕ) (p : StreamJob) → is_due p.doc.no (V (Events w)) ≡ true
    → is_member V p.parent.no ≡ true
    → not (is_cancelled (Stream p.parent.no) (V (Events p.parent.ws))) ≡ true
    → not (is_cancelled (Job p.doc.no) (V (Events w))) ≡ true → is_in_play V w p ≡ true
unfolding is_in_play
in_play V w p a b c d = rw (a, b, c, d) refl

pub open_to : (net : Net) (V : View) (w : ℕ) (p : StreamJob) → job V p.doc.no ≡ Some p → is_ready net V w p.doc.no ≡ true
    → IsOpenTo net V w p
unfolding is_ready
open_to net V w p found h =
    let all : all_of (ready_conditions net V w p) ≡ true =
    sym (ap (λ (o : Option StreamJob). option_map_or (is_ready_in net V w) o false) found) ∙ h in
    record {
      play =
          in_play V w p
          (held (ready_conditions net V w p) 6 (is_due p.doc.no (V (Events w))) all refl)
          (held (ready_conditions net V w p) 1 (is_member V p.parent.no) all refl)
          (held (ready_conditions net V w p) 3
          (not (is_cancelled (Stream p.parent.no) (V (Events p.parent.ws)))) all refl)
          (held (ready_conditions net V w p) 4 (not (is_cancelled (Job p.doc.no) (V (Events w)))) all refl);
      released =
          held (ready_conditions net V w p) 2 (is_released p.parent.no (V (Events p.parent.ws))) all refl;
      satisfied =
          held (ready_conditions net V w p) 8 (all_satisfied net V w (Job p.doc.no)) all refl;
    }

all_has : {X : Type 0} (f : X → Bool) (xs : List X) (x : X) → list_all f xs ≡ true → Among x xs → f x ≡ true
all_has f [] x h k = absurd k
all_has {X} f (y ∷ ys) x h (inl e) = ap f e ∙ and_left (f y) (list_all f ys) h
all_has {X} f (y ∷ ys) x h (inr k) = all_has f ys x (and_right (f y) (list_all f ys) h) k

-- a dependency that is met holds nobody back
pub met_lets_go : (net : Net) (V : View) (w : ℕ) (o : Obj) (i : ℕ) (d : Dep) → is_met net V w o i d ≡ true
    → held_back V d ≡ None
unfolding is_met
met_lets_go net V w o i (FollowsJob k) h = rw h refl
met_lets_go net V w o i (FollowsStream s) h = rw h refl
met_lets_go net V w o i (Needs r n) h = refl
met_lets_go net V w o i (Prompt p) h = refl
met_lets_go net V w o i (At t) h = refl
met_lets_go net V w o i (Until t then_) h = refl
met_lets_go net V w o i (Outside path) h = refl
met_lets_go net V w o i (Deadline t) h = refl

-- an object whose dependencies are satisfied is held back by nothing
pub held_by_none : (net : Net) (V : View) (w : ℕ) (o : Obj) (t : Target) → all_satisfied net V w o ≡ true
    → Among t (held_back_by V o) → ⊥
unfolding all_satisfied held_back_by
held_by_none net V w o t satisfied h =
    clash (chosen_of (λ (q : NumberedDep). held_back V q.dep) (unwaived_deps V o) t h)
  where
    clash : (q : NumberedDep) × Among q (unwaived_deps V o) × (held_back V q.dep ≡ Some t) → ⊥
    clash k =
        let met : is_met net V w o k.0.number k.0.dep ≡ true =
        all_has (λ (q : NumberedDep). is_met net V w o q.number q.dep) (unwaived_deps V o) k.0 satisfied k.1 in
        let none : held_back V k.0.dep ≡ None = met_lets_go net V w o k.0.number k.0.dep met in
        let some : held_back V k.0.dep ≡ Some t = k.2 in cc

-- so a ready job waits for nothing
pub waits_for_none : (net : Net) (V : View) (w : ℕ) (p : StreamJob) (t : Target) → IsOpenTo net V w p → IsAwaited V p t → ⊥
waits_for_none net V w p t ready (inl e) =
    let f : is_released p.parent.no (V (Events p.parent.ws)) ≡ false = e.1 in
    let g : is_released p.parent.no (V (Events p.parent.ws)) ≡ true = ready.released in cc
waits_for_none net V w p t ready (inr h) = held_by_none net V w (Job p.doc.no) t ready.satisfied h

-- the jobs of w that are ready
abbrev pub ready_jobs : Net → View → ℕ → List StreamJob
ready_jobs net V w = filter (λ (p : StreamJob). is_ready net V w p.doc.no) (jobs_of V w)

-- the place of a job is among these
pub record IsPlacedAmong (V : View) (places : List ℕ) (p : StreamJob) : Type 0 where
  pub place : ℕ
  pub here : Among place places
  pub placed : IsPlaceOf V p place

pub first_best : (net : Net) (V : View) (w : ℕ) (places : List ℕ) → InOrder ◌<◌ places
    → ((place : ℕ) → Among place places → IsPlaceHere V w place)
    → ((q : StreamJob) → Among q (ready_jobs net V w) → IsPlacedAmong V places q)
    → option_map number_at (find (λ k. is_ready net V w (number_at k)) places) ≡ best net V w
unfolding best
first_best net V w [] ordered real all =
    ap (λ (l : List StreamJob). option_map (λ (p : StreamJob). p.doc.no) (fold (better_of V) None l))
    (sym (filter_none (λ (p : StreamJob). is_ready net V w p.doc.no) (jobs_of V w)
    (λ q h. not_ready (is_ready net V w q.doc.no) q h refl)))
  where
    not_ready : (b : Bool) (q : StreamJob) → Among q (jobs_of V w) → is_ready net V w q.doc.no ≡ b
        → is_ready net V w q.doc.no ≡ false
    not_ready true q h e =
        absurd (all q (filter_keeps (λ (p : StreamJob). is_ready net V w p.doc.no) (jobs_of V w) q h e)).here
    not_ready false q h e = e
first_best net V w (r ∷ rs) ordered real all =
    go (is_ready net V w (number_at r)) refl (first_best net V w rs ordered.1 (λ s h. real s (inr h)))
  where
    it : IsPlaceHere V w r
    it = real r (inl refl)

    number : number_at r ≡ it.job.doc.no
    number = place_number V it.job r it.placed

    go : (b : Bool) → is_ready net V w (number_at r) ≡ b
        → (((q : StreamJob) → Among q (ready_jobs net V w) → IsPlacedAmong V rs q)
        → option_map number_at (find (λ k. is_ready net V w (number_at k)) rs) ≡ best net V w)
        → option_map number_at (cond b (Some r) (find (λ k. is_ready net V w (number_at k)) rs)) ≡ best net V w
    go true e ih =
        ap Some number
        ∙ sym (chosen V it.job (ready_jobs net V w) None tt
        (inl (filter_keeps (λ (p : StreamJob). is_ready net V w p.doc.no) (jobs_of V w) it.job it.here
        (ap (is_ready net V w) (sym number) ∙ e)))
        (λ q h. either q (all q h)))
      where
        either : (q : StreamJob) → IsPlacedAmong V (r ∷ rs) q → NotBetter V it.job q
        either q k = at_place k.here
          where
            at_place : Among k.place (r ∷ rs) → NotBetter V it.job q
            at_place (inl s) =
                inl (same_place V it.job q r it.placed (subst (λ (i : ℕ). IsPlaceOf V q i) s k.placed))
            at_place (inr h) = inr (lower_place V it.job q r k.place (ordered.0 k.place h) it.placed k.placed)
    go false e ih = ih (λ q h. later q h (all q h))
      where
        later : (q : StreamJob) → Among q (ready_jobs net V w) → IsPlacedAmong V (r ∷ rs) q → IsPlacedAmong V rs q
        later q h k = at_place k.here
          where
            at_place : Among k.place (r ∷ rs) → IsPlacedAmong V rs q
            at_place (inl s) =
                let t : is_ready net V w q.doc.no ≡ true =
                (filter_has (λ (p : StreamJob). is_ready net V w p.doc.no) (jobs_of V w) q h).1 in
                let n : number_at r ≡ q.doc.no =
                ap number_at (sym s) ∙ place_number V q k.place k.placed in
                let u : is_ready net V w (number_at r) ≡ true = ap (is_ready net V w) n ∙ t in absurd (cc)
            at_place (inr h) = record { place = k.place; here = h; placed = k.placed }
