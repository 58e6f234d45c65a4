-- Entries, what turns can still make and what can still be told never grow together.
use Rattle.std.proofs.Common.{◌≡◌, ℕ, ◌+◌, ◌<◌, ◌≤◌, true, false, ◌⊎◌, inl, inr}
use Rattle.std.proofs.Common.{List, [], ◌∷◌, ◌++◌, length, map, refl, ap, subst, ◌∙◌, arith, Option, Some, None}
use Rattle.std.proofs.lemmas.Bool.{eq-eqb, eqb-true, ltb-true}
use Rattle.std.specs.List.{AllByRecursion}
use Rattle.std.specs.Option.{option_map_or}
use Rattle.std.specs.Prelude.{if◌then◌else◌, Ok, eqb, nat_lt}
use Rattle.lemmas.proofs.Booleans.{and_made, or_cases}
use Rattle.lemmas.proofs.Lists.{all_append, all_map, found_within}
use Rattle.model.specs.Types.{Body, Deliver, Dep, Ended, Events, Failed, Fulfilled, Job, Linked, LiveJob, Net, Obj}
use Rattle.model.specs.Types.{Order, Orders, Started, Stream, StreamDoc, Take, Turn, WorldStep}
use Rattle.model.specs.Equalities.{obj_among, obj_eq}
use Rattle.model.specs.Network.{node_count}
use Rattle.model.specs.History.{View, list_of}
use Rattle.model.specs.Catalogue.{StreamJob, docs_in, is_member, job, jobs_of, owner, streams_of}
use Rattle.model.specs.Dependencies.{dep, deps}
use Rattle.model.specs.Facts.{is_due, is_fulfilled, is_fulfilment, is_last_started, launches, obeyed_command, open_launch}
use Rattle.model.specs.Facts.{reruns}
use Rattle.model.specs.FreeSteps.{free_step}
use Rattle.model.specs.Invariant.{Invariant, IsOpenAt}
use Rattle.model.specs.NewEntry.{next_entry}
use Rattle.model.specs.Outcomes.{Outcome}
use Rattle.model.specs.OwnMembers.{own_jobs, own_objects, own_streams}
use Rattle.model.specs.Readiness.{is_ready, is_ready_in, ready_conditions}
use Rattle.model.specs.Sessions.{live_launch}
use Rattle.model.specs.World.{World, view_at}
use Rattle.model_laws.proofs.Decisions.{all_true, job_number}
use Rattle.model_laws.proofs.Firsts.{jobs_owned, streams_owned}
use Rattle.model_laws.proofs.FreeRuns.{free_kept}
use Rattle.model_laws.proofs.Growth.{owned_grows, view_grows}
use Rattle.model_laws.proofs.Inside.{find_all}
use Rattle.model_laws.proofs.Lists.{all_filter}
use Rattle.model_laws.proofs.Options.{find_passes, there_if}
use Rattle.model_laws.proofs.Turns.{TurnGives, turn_gives}
use Rattle.rest_laws.specs.Left.{Caps, Covers, entries, is_below, jobs_ahead, keeps_to, left, left_of, streams_ahead}
use Rattle.rest_laws.specs.Rest.{count_of, net_at}
use Rattle.rest_laws.specs.Rounds.{AreTaken}
use Rattle.rest_laws.proofs.Ahead.{owned_below}
use Rattle.rest_laws.proofs.Deps.{deps_few}
use Rattle.rest_laws.proofs.Entered.{Made, issuer_in, next_given, own_events, turn_makes}
use Rattle.rest_laws.proofs.Lefts.{Keeps, covers_plain, delivered_same, linked_same, one_entry, step_keeps}
use Rattle.rest_laws.proofs.Rounds.{nth_within}
use Rattle.launches_at_rest.specs.Tells.{tells_left, tells_of}
use Rattle.launches_at_rest.specs.Told.{is_told, works_at}
use Rattle.launches_at_rest.proofs.Counts.{left_by_end, left_stays, tells_found, tells_launch, tells_obeyed, tells_started, tells_still}
use Rattle.launches_at_rest.proofs.Plain.{Tally, tallies_fall}
use Rattle.launches_at_rest.proofs.Telling.{Makes, Tells, ToldBy, told_by}

-- an object among a workstation's own is owned by it
obj_same : (p o : Obj) → obj_eq p o ≡ true → p ≡ o
obj_same (Job j) (Job k) h = ap Job (eqb-true j k h)
obj_same (Stream s) (Stream t) h = ap Stream (eqb-true s t h)
obj_same (Job j) (Stream t) h = cc
obj_same (Stream s) (Job k) h = cc

found_is : (o : Obj) (i : ℕ) → is_fulfilment o i (Fulfilled o i) ≡ true
found_is (Job j) i = and_made (eqb j j) (eqb i i) (eq-eqb j j refl) (eq-eqb i i refl)
found_is (Stream s) i = and_made (eqb s s) (eqb i i) (eq-eqb s s refl) (eq-eqb i i refl)

among_holds : (P : Obj → Type 0) (os : List Obj) (o : Obj) → AllByRecursion P os → obj_among os o ≡ true → P o
among_holds P [] o all h = cc
among_holds P (p ∷ os) o all h =
    elim (or_cases (obj_eq p o) (obj_among os o) h) [
      | inl e ↦ subst P (obj_same p o e) all.0
      | inr e ↦ among_holds P os o all.1 e
    ]

objects_owned : (V : View) (w : ℕ) → AllByRecursion (λ o. owner V o ≡ Some w) (own_objects V w)
unfolding own_objects own_streams own_jobs
objects_owned V w =
    all_append (λ o. owner V o ≡ Some w) (map (λ (d : StreamDoc). Stream d.no) (own_streams V w))
    (map (λ (p : StreamJob). Job p.doc.no) (own_jobs V w))
    (all_map (λ o. owner V o ≡ Some w) (λ (d : StreamDoc). Stream d.no) (own_streams V w)
    (all_filter (λ (d : StreamDoc). owner V (Stream d.no) ≡ Some w) (λ (d : StreamDoc). is_member V d.no) (streams_of V w)
    (streams_owned V w)))
    (all_map (λ o. owner V o ≡ Some w) (λ (p : StreamJob). Job p.doc.no) (own_jobs V w)
    (all_filter (λ (p : StreamJob). owner V (Job p.doc.no) ≡ Some w) (λ (p : StreamJob). is_member V p.parent.no) (jobs_of V w)
    (jobs_owned V w)))

-- a ready job has a run that is due
pub ready_due : (net : Net) (V : View) (w j : ℕ) → is_ready net V w j ≡ true
    → launches j (V (Events w)) ≤ reruns j (V (Events w))
unfolding is_ready is_due
ready_due net V w j = go (job V j) refl
  where
    due : (L : List Body) → nat_lt (launches j L) (1 + reruns j L) ≡ true → launches j L ≤ reruns j L
    due L h = let k : launches j L < 1 + reruns j L = ltb-true (launches j L) (1 + reruns j L) h in omega (arith, k)

    go : (o : Option StreamJob) → job V j ≡ o → option_map_or (is_ready_in net V w) o false ≡ true
        → launches j (V (Events w)) ≤ reruns j (V (Events w))
    go None is h = cc
    go (Some p) is h =
        let all : AllByRecursion (λ b. b ≡ true) (ready_conditions net V w p) = all_true (ready_conditions net V w p) h in
        due (V (Events w))
        (subst (λ i. is_due i (V (Events w)) ≡ true) (job_number V j p is) all.1.1.1.1.1.1.0)

-- at a workstation of a world that is covered
module _ (net : Net) (caps : ℕ → Caps) (x : World) (w : ℕ) (inv : Invariant net x) (covers : Covers net caps x) where
  abbrev V : View
  V = view_at x w

  abbrev own : List Body
  own = list_of x.history (Events w)

  abbrev given : ℕ → ℕ
  given a = count_of x (Orders a w)

  below_of : (o : Obj) → owner V o ≡ Some w → is_below (caps w) o
  unfolding streams_ahead jobs_ahead
  below_of o mine =
      owned_below (list_of x.history) inv.numbers (caps w) o w (omega (arith, covers.streams w)) (omega (arith, covers.jobs_ w))
      (owned_grows V (list_of x.history) o w (view_grows x.history (x.holdings w)) mine)

  number_of : (o : Obj) (i : ℕ) (d : Dep) → owner V o ≡ Some w → dep V o i ≡ Some d → i < (caps w).of_deps o
  number_of o i d mine e =
      omega (arith, covers.deps_ w o, nth_within (deps V o) i d e, deps_few net x w inv o mine)

  -- what a turn makes leaves no more to be told
  turn_tells : (z : World) (t : ℕ) (b : Body) → Made net x z w t b
      → tells_of (caps w) (node_count net) given (own ++ b ∷ []) ≤ tells_of (caps w) (node_count net) given own
  turn_tells z t b made =
      go b (there_if (TurnGives (net_at net x w) V w (x.sessions w).live t) _ b
      (turn_gives (net_at net x w) V w (x.sessions w).live t) made.body)
    where
      n : ℕ
      n = node_count net

      go : (c : Body) → TurnGives (net_at net x w) V w (x.sessions w).live t c
          → tells_of (caps w) (node_count net) given (own ++ c ∷ []) ≤ tells_of (caps w) (node_count net) given own
      go c (TurnGives.clocked g) = tells_still (caps w) (node_count net) given own c (λ j. refl) refl
      go c (TurnGives.lost j n f dead) = tells_still (caps w) (node_count net) given own c (λ j. refl) refl
      go c (TurnGives.declined a d why g) = tells_still (caps w) (node_count net) given own c (λ j. refl) refl
      go c (TurnGives.added a draft g v) = tells_still (caps w) (node_count net) given own c (λ j. refl) refl
      go c (TurnGives.obeyed a d g) =
          let there = next_given net x w inv a d g in
          tells_obeyed (caps w) (node_count net) given own a _ d (issuer_in net x w inv a _ (Order d) there)
          (found_within (list_of x.history (Orders a w)) _ (Order d) there)
      go c (TurnGives.until o p u m g l) = tells_still (caps w) (node_count net) given own c (λ j. refl) refl
      go c (TurnGives.late o p m g) = tells_still (caps w) (node_count net) given own c (λ j. refl) refl
      go c (TurnGives.released s g) = tells_still (caps w) (node_count net) given own c (λ j. refl) refl
      go c (TurnGives.ended s g) = tells_still (caps w) (node_count net) given own c (λ j. refl) refl
      go c (TurnGives.launched j ready) =
          tells_launch (caps w) (node_count net) given own j _ _
          (subst (λ (l : List Body). launches j l ≤ reruns j l) (own_events net x w inv)
          (ready_due (net_at net x w) V w j ready))

  -- a launch that lives is open
  live_is : (j : ℕ) (l : LiveJob) → live_launch (x.sessions w).live j ≡ Some l → IsOpenAt V w l × (l.job ≡ j)
  live_is j l e = (
    there_if (IsOpenAt V w) _ l
        (find_all (IsOpenAt V w) (λ (m : LiveJob). eqb m.job j) (x.sessions w).live (inv.live w).each) e,
    eqb-true l.job j (there_if (λ (m : LiveJob). eqb m.job j ≡ true) _ l
        (find_passes (λ (m : LiveJob). eqb m.job j) (x.sessions w).live) e),
  )

  live_open : (j : ℕ) (l : LiveJob) → live_launch (x.sessions w).live j ≡ Some l → open_launch j own ≡ Some l.number
  live_open j l e =
      let it = live_is j l e in
      subst (λ (L : List Body). open_launch j L ≡ Some l.number) (own_events net x w inv)
      (subst (λ (i : ℕ). open_launch i (V (Events w)) ≡ Some l.number) it.1 it.0.open_)

  live_unstarted : (j : ℕ) (l : LiveJob) → live_launch (x.sessions w).live j ≡ Some l → l.started ≡ false
      → is_last_started j own ≡ false
  live_unstarted j l e none =
      let it = live_is j l e in
      subst (λ (L : List Body). is_last_started j L ≡ false) (own_events net x w inv)
      (subst (λ (i : ℕ). is_last_started i (V (Events w)) ≡ false) it.1 (it.0.started ∙ none))

  live_below : (j : ℕ) (l : LiveJob) → live_launch (x.sessions w).live j ≡ Some l → j < (caps w).of_jobs
  live_below j l e =
      let it = live_is j l e in
      below_of (Job j) (subst (λ (i : ℕ). owner V (Job i) ≡ Some w) it.1 it.0.owned)

  -- what is told leaves less: so much less for turns, and so much less to be told
  record Spends (readings : ℕ → List ℕ) (b : Body) : Type 0 where
    turns : ℕ
    tells : ℕ
    one : turns + tells ≡ 1
    of_turns :
        left_of (caps w) (node_count net) (readings w) given (own ++ b ∷ []) + turns
        ≤ left_of (caps w) (node_count net) (readings w) given own
    of_tells :
        tells_of (caps w) (node_count net) given (own ++ b ∷ []) + tells
        ≤ tells_of (caps w) (node_count net) given own

  spends : (readings : ℕ → List ℕ) (b : Body) → Tells V w (x.sessions w).live b → Spends readings b
  spends readings b (Tells.started j l e none) =
      record {
        turns = 0;
        tells = 1;
        one = refl;
        of_turns =
            omega (arith, left_stays (caps w) (node_count net) given own (Started j l.number) (readings w) (λ i. refl) refl);
        of_tells =
            tells_started (caps w) (node_count net) given own j l.number (live_below j l e) (live_open j l e)
            (live_unstarted j l e none);
      }
  spends readings b (Tells.failed j l e) =
      record {
        turns = 1;
        tells = 0;
        one = refl;
        of_turns =
            left_by_end (caps w) (node_count net) given own (Failed j l.number) (readings w) j l.number Outcome.Failed
            (live_below j l e) (λ i. refl) refl (live_open j l e) (rw (eq-eqb j j refl, eq-eqb l.number l.number refl) refl);
        of_tells = omega (arith, tells_still (caps w) (node_count net) given own (Failed j l.number) (λ i. refl) refl);
      }
  spends readings b (Tells.ended j l rc good e) =
      record {
        turns = 1;
        tells = 0;
        one = refl;
        of_turns =
            left_by_end (caps w) (node_count net) given own (Ended j l.number rc good) (readings w) j l.number
            (if good then Outcome.EndedGood else Outcome.EndedBad) (live_below j l e) (λ i. refl) refl (live_open j l e) (rw (eq-eqb j j refl, eq-eqb l.number l.number refl) refl);
        of_tells =
            omega (arith, tells_still (caps w) (node_count net) given own (Ended j l.number rc good) (λ i. refl) refl);
      }
  spends readings b (Tells.found o i d mine there none) =
      let owned : owner V o ≡ Some w = among_holds (λ o. owner V o ≡ Some w) (own_objects V w) o (objects_owned V w) mine in
      record {
        turns = 0;
        tells = 1;
        one = refl;
        of_turns = omega (arith, left_stays (caps w) (node_count net) given own (Fulfilled o i) (readings w) (λ j. refl) refl);
        of_tells =
            tells_found (caps w) (node_count net) given own (Fulfilled o i) o i (λ j. refl) refl (below_of o owned)
            (number_of o i d owned there)
            (subst (λ (L : List Body). is_fulfilled o i L ≡ false) (own_events net x w inv) none)
            (found_is o i);
      }

-- entries, what is left for turns, and what is left to be told
pub record WorkKeeps (net : Net) (caps : ℕ → Caps) (readings : ℕ → List ℕ) (x z : World) : Type 0 where
  pub bound :
      entries net z + (left net caps readings z + tells_left net caps z)
      ≤ entries net x + (left net caps readings x + tells_left net caps x)
  pub covers : Covers net caps z

module _ (net : Net) (caps : ℕ → Caps) (readings : ℕ → List ℕ) (x z : World) where
  abbrev LeftTally : Tally
  LeftTally v o e = left_of (caps v) (node_count net) (readings v) (λ a. length (o a)) e

  abbrev TellsTally : Tally
  TellsTally v o e = tells_of (caps v) (node_count net) (λ a. length (o a)) e

  pub tells_same : z.history ≡ x.history → tells_left net caps z ≡ tells_left net caps x
  unfolding tells_left
  tells_same e = rw e refl

  module _ (w : ℕ) (b : Body) (w_in : w < node_count net)
      (history : z.history ≡ x.history ++ next_entry (view_at x w) (Events w) b ∷ []) where
    tells_fall : (c : ℕ)
        → tells_of (caps w) (node_count net) (λ a. count_of x (Orders a w)) (list_of x.history (Events w) ++ b ∷ []) + c
        ≤ tells_of (caps w) (node_count net) (λ a. count_of x (Orders a w)) (list_of x.history (Events w))
        → tells_left net caps z + c ≤ tells_left net caps x
    unfolding tells_left
    tells_fall c low =
        rw history
        (tallies_fall net x.history (next_entry (view_at x w) (Events w) b) w refl TellsTally c w_in low)

    left_falls : (c : ℕ)
        → left_of (caps w) (node_count net) (readings w) (λ a. count_of x (Orders a w)) (list_of x.history (Events w) ++ b ∷ [])
        + c
        ≤ left_of (caps w) (node_count net) (readings w) (λ a. count_of x (Orders a w)) (list_of x.history (Events w))
        → left net caps readings z + c ≤ left net caps readings x
    unfolding left
    left_falls c low =
        rw history
        (tallies_fall net x.history (next_entry (view_at x w) (Events w) b) w refl LeftTally c w_in low)

  module _ (inv : Invariant net x) (covers : Covers net caps x) where
    turn_low : (w t : ℕ) → free_step net x (Take w (Turn t)) ≡ Ok z → tells_left net caps z ≤ tells_left net caps x
    turn_low w t e = let made = turn_makes net x z w t e in go made.0 made.1
      where
        go : w < node_count net → ((z.history ≡ x.history) ⊎ ((b : Body) × Made net x z w t b))
            → tells_left net caps z ≤ tells_left net caps x
        go w_in (inl h) = omega (arith, tells_same h)
        go w_in (inr h) =
            omega (
              arith,
              tells_fall w h.0 w_in h.1.history 0 (omega (arith, turn_tells net caps x w inv covers z t h.0 h.1)),
            )

    old_step : (s : WorldStep) → keeps_to readings s ≡ true → free_step net x s ≡ Ok z
        → tells_left net caps z ≤ tells_left net caps x
    old_step (Take w (Turn t)) h e = turn_low w t e
    old_step (Take w (Linked v)) h e = omega (arith, tells_same (linked_same net x z w v e))
    old_step (Deliver a c k) h e = omega (arith, tells_same (delivered_same net x z a c k e))
    old_step _ h e = cc

    no_docs : (w : ℕ) (b : Body) → Tells (view_at x w) w (x.sessions w).live b → (docs_in b ≡ []) × (obeyed_command b ≡ None)
    no_docs w b (Tells.started j l e none) = (refl, refl)
    no_docs w b (Tells.failed j l e) = (refl, refl)
    no_docs w b (Tells.ended j l rc good e) = (refl, refl)
    no_docs w b (Tells.found o i d mine there none) = (refl, refl)

    -- what is told leaves less
    told_lowers : ToldBy net x z
        → (left net caps readings z + tells_left net caps z < left net caps readings x + tells_left net caps x)
        × ((entries net z ≤ entries net x + 1) × Covers net caps z)
    told_lowers t =
        let w : ℕ = t.ws in
        let m : Makes net x z t.ws t.told.body = t.told.makes_ in
        let s : Spends net caps x t.ws inv covers readings t.told.body =
        spends net caps x t.ws inv covers readings t.told.body t.told.tells in
        let plain = no_docs t.ws t.told.body t.told.tells in (
          omega (
            arith,
            left_falls t.ws t.told.body m.inside m.history s.turns s.of_turns,
            tells_fall t.ws t.told.body m.inside m.history s.tells s.of_tells,
            s.one,
          ),
          (
            one_entry net x z t.ws t.told.body m.history,
            covers_plain net caps x z t.ws (next_entry (view_at x t.ws) (Events t.ws) t.told.body) refl m.history covers plain.0
                plain.1,
          ),
        )

    pub step_works : (s : WorldStep) → works_at readings s ≡ true → free_step net x s ≡ Ok z → WorkKeeps net caps readings x z
    step_works s h e =
        elim (or_cases (keeps_to readings s) (is_told s) h) [
          | inl k ↦ (let old : Keeps net caps readings x z = step_keeps net caps readings x z s inv covers k e in
              record { bound = omega (arith, old.bound, old_step s k e); covers = old.covers })
          | inr k ↦ (let new = told_lowers (told_by net x z s k e) in
              record { bound = omega (arith, new.0, new.1.0); covers = new.1.1 })
        ]

pub told_spends : (net : Net) (caps : ℕ → Caps) (readings : ℕ → List ℕ) (x z : World) (s : WorldStep) → Invariant net x
    → Covers net caps x → is_told s ≡ true → free_step net x s ≡ Ok z
    → left net caps readings z + tells_left net caps z < left net caps readings x + tells_left net caps x
told_spends net caps readings x z s inv covers h e =
    (told_lowers net caps readings x z inv covers (told_by net x z s h e)).0

pub steps_work : (net : Net) (caps : ℕ → Caps) (readings : ℕ → List ℕ) (steps : List WorldStep) (x z : World)
    → Invariant net x → Covers net caps x → AllByRecursion (λ s. works_at readings s ≡ true) steps
    → AreTaken net x steps z → WorkKeeps net caps readings x z
steps_work net caps readings [] x z inv covers each taken =
    subst (WorkKeeps net caps readings x) taken (record { bound = omega arith; covers = covers })
steps_work net caps readings (s ∷ steps) x z inv covers each taken =
    let one : WorkKeeps net caps readings x taken.0 =
    step_works net caps readings x taken.0 inv covers s each.0 taken.1 in
    let rest : WorkKeeps net caps readings taken.0 z =
    steps_work net caps readings steps taken.0 z (free_kept net x taken.0 s inv taken.1) one.covers each.1 taken.2 in
    record { bound = omega (arith, one.bound, rest.bound); covers = rest.covers }
