-- A replay takes fewer plans than there are runs.
use Rattle.std.proofs.Common.{◌≡◌, ◌≢◌, ◌∙◌, ◌&&◌, ◌++◌, ◌+◌, ◌≤◌, ℕ, Bool, List, [], ◌∷◌, Some, None, ap, append-nil, append_assoc, arith, eqb, false, inl, inr, length, length-append, not, refl, subst, sym, true}
use Rattle.std.proofs.Math.Seq.{take-length}
use Rattle.std.proofs.lemmas.Bool.Decides.{nat_tests}
use Rattle.std.proofs.lemmas.List.Elements.{filter_map-append}
use Rattle.std.specs.List.{cons_option}
use Rattle.std.specs.Prelude.{Err, filter_map, nat_le, take}
use Rattle.lemmas.proofs.Booleans.{contrary, not_fails}
use Rattle.lemmas.proofs.Numbers.{number_tells}
use Rattle.lemmas.proofs.Options.{none_some, some_same}
use Rattle.model.specs.Types.{Body, Carry, Entry, Events, Feed, Input, Local, Net, NewPlan, StreamDraft, WorldStep}
use Rattle.model.specs.Words.{first_of_these, last_or}
use Rattle.model.specs.History.{View, list_of}
use Rattle.model.specs.NewPlan.{are_jobs_too_many, are_numbers_spent, are_streams_too_many, carried_members, last_run, run_of}
use Rattle.model.specs.StepFaults.{CarryFault, StepFault, carry_fault, is_next, plan_fault}
use Rattle.model.specs.Sound.{CarriesByTheOption, EachFrom}
use Rattle.model.specs.World.{StepRefused, World, empty_world, run, step, view_at}
use Rattle.model_laws.proofs.Entries.{always_short}
use Rattle.model_laws.proofs.Feeds.{pushed_cases}
use Rattle.model_laws.proofs.Keeps.{always_invariant, none_yet}
use Rattle.model_laws.proofs.Steps.{here}
use Rattle.refusal_laws.proofs.Faults.{Faulty, fault_tells, faulty}

-- what the fault of a plan tells
abbrev pub TellsOf : (runs numbers : Bool) → CarryFault → Type 0
TellsOf runs numbers CarryFault.RunsSpent = runs ≡ true
TellsOf runs numbers CarryFault.NumbersSpent = numbers ≡ true
TellsOf runs numbers (CarryFault.PlanFull most) = Unit {0}

tells_of : (a b c d : Bool) (g : CarryFault)
    → first_of_these
    ((a, CarryFault.RunsSpent) ∷ (b, CarryFault.NumbersSpent) ∷ (c, CarryFault.PlanFull 4096)
    ∷ (d, CarryFault.PlanFull 16384) ∷ []) ≡ Some g
    → TellsOf a b g
tells_of true b c d g h = subst (TellsOf true b) (some_same CarryFault.RunsSpent g h) refl
tells_of false true c d g h = subst (TellsOf false true) (some_same CarryFault.NumbersSpent g h) refl
tells_of false false true d g h = subst (TellsOf false false) (some_same (CarryFault.PlanFull 4096) g h) tt
tells_of false false false true g h = subst (TellsOf false false) (some_same (CarryFault.PlanFull 16384) g h) tt
tells_of false false false false g h = absurd (none_some h)

carry_tells : (u : Net) (V : View) (drafts : List StreamDraft) (g : CarryFault) → carry_fault u V drafts ≡ Some g
    → TellsOf (nat_le 4294967295 (last_run (V (Events 0)))) (are_numbers_spent V drafts) g
unfolding carry_fault
carry_tells u V drafts g h =
    tells_of (nat_le 4294967295 (last_run (V (Events 0)))) (are_numbers_spent V drafts)
    (are_streams_too_many (carried_members u V) drafts) (are_jobs_too_many V (carried_members u V) drafts) g h

pub plan_tells : (u : Net) (V : View) (i : Input) (g : CarryFault) → plan_fault u V i ≡ Some g
    → (drafts : List StreamDraft) × (i ≡ Input.Local (Local.Next drafts))
    × TellsOf (nat_le 4294967295 (last_run (V (Events 0)))) (are_numbers_spent V drafts) g
plan_tells u V (Input.Local (Local.Next drafts)) g h = (drafts, refl, carry_tells u V drafts g h)
plan_tells u V _ g h = absurd (none_some h)

-- a plan that is tested is the master's
pub at_master : (w : ℕ) (i : Input) (drafts : List StreamDraft) → i ≡ Input.Local (Local.Next drafts)
    → (is_next i && not (eqb w 0)) ≡ false → w ≡ 0
at_master w i drafts is h =
    let plan : (is_next (Input.Local (Local.Next drafts)) && not (eqb w 0)) ≡ false =
    subst (λ (j : Input). (is_next j && not (eqb w 0)) ≡ false) is h in
    number_tells w 0 (not_fails (eqb w 0) plan)

-- the master holds all of its own events
pub master_holds : (net : Net) (steps : List WorldStep)
    → view_at (run net steps empty_world) 0 (Events 0) ≡ list_of (run net steps empty_world).history (Events 0)
master_holds net steps =
    let x : World = run net steps empty_world in
    ap (λ n. take n (list_of x.history (Events 0))) ((always_invariant net steps).own 0 (Events 0) refl)
    ∙ take-length (list_of x.history (Events 0))

-- the last run of some events and one more
last_pushed : (xs : List ℕ) (d n : ℕ) → last_or d (xs ++ n ∷ []) ≡ n
last_pushed [] d n = refl
last_pushed (x ∷ xs) d n = last_pushed xs x n

run_pushed : (L : List Body) (b : Body) (n : ℕ) → run_of b ≡ Some n → last_run (L ++ b ∷ []) ≡ n
unfolding last_run
run_pushed L b n is =
    ap (last_or 0)
    (filter_map-append run_of L (b ∷ []) ∙ ap (λ o. filter_map run_of L ++ cons_option o []) is)
    ∙ last_pushed (filter_map run_of L) 0 n

run_stays : (L : List Body) (b : Body) → run_of b ≡ None → last_run (L ++ b ∷ []) ≡ last_run L
unfolding last_run
run_stays L b is =
    ap (last_or 0)
    (filter_map-append run_of L (b ∷ []) ∙ ap (λ o. filter_map run_of L ++ cons_option o []) is
    ∙ append-nil (filter_map run_of L))

module _ (option : Carry) where
  abbrev Carries : List Entry → Entry → Type 0
  Carries before e = CarriesByTheOption option before e.feed e.body

  one_run : (before : List Entry) (b : Body) → CarriesByTheOption option before (Events 0) b
      → last_run (list_of before (Events 0)) ≤ length before
      → last_run (list_of before (Events 0) ++ b ∷ []) ≤ 1 + length before
  one_run before (NewPlan run_ cut carried docs) h low =
      omega (
        arith,
        run_pushed (list_of before (Events 0)) (NewPlan run_ cut carried docs) run_ refl,
        h.1.run_is,
        low,
      )
  one_run before b h low = omega (arith, run_stays (list_of before (Events 0)) b refl, low)

  one_more : (before : List Entry) (e : Entry) → Carries before e → last_run (list_of before (Events 0)) ≤ length before
      → last_run (list_of (before ++ e ∷ []) (Events 0)) ≤ length (before ++ e ∷ [])
  one_more before e h low =
      elim (pushed_cases before e (Events 0)) [
        | inl c ↦
            let carried : CarriesByTheOption option before (Events 0) e.body =
            subst (λ (f : Feed). CarriesByTheOption option before f e.body) (sym c.0) h in
            omega (
              arith,
              ap last_run c.1,
              one_run before e.body carried low,
              length-append before (e ∷ []),
            )
        | inr c ↦ omega (arith, ap last_run c.1, low, length-append before (e ∷ []))
      ]

  all_runs : (before G : List Entry) → last_run (list_of before (Events 0)) ≤ length before → EachFrom Carries before G
      → last_run (list_of (before ++ G) (Events 0)) ≤ length (before ++ G)
  all_runs before [] low h =
      subst (λ (l : List Entry). last_run (list_of l (Events 0)) ≤ length l) (sym (append-nil before)) low
  all_runs before (e ∷ G) low h =
      subst (λ (l : List Entry). last_run (list_of l (Events 0)) ≤ length l) (append_assoc before (e ∷ []) G)
      (all_runs (before ++ e ∷ []) G (one_more before e h.0 low) h.1)

no_run : last_run [] ≡ 0
unfolding last_run
no_run = refl

runs_few : (net : Net) (steps : List WorldStep)
    → last_run (list_of (run net steps empty_world).history (Events 0)) ≤ 200000
runs_few net steps =
    let x : World = run net steps empty_world in
    let none : last_run (list_of [] (Events 0)) ≡ 0 = ap last_run (none_yet (Events 0)) ∙ no_run in
    omega (
      arith,
      all_runs net.carry [] x.history (omega (arith, none)) (always_invariant net steps).sound.plans,
      always_short net steps,
    )

runs_left : (net : Net) (steps : List WorldStep)
    → nat_le 4294967295 (last_run (view_at (run net steps empty_world) 0 (Events 0))) ≡ false
runs_left net steps =
    let few : last_run (list_of (run net steps empty_world).history (Events 0)) ≤ 200000 = runs_few net steps in
    ap (λ (l : List Body). nat_le 4294967295 (last_run l)) (master_holds net steps) ∙ grind (arith, nat_tests, few)

pub no_run_spent : (net : Net) (steps : List WorldStep) (s : WorldStep)
    → step net (run net steps empty_world) s ≢ Err (StepRefused.Step (StepFault.Carry CarryFault.RunsSpent))
no_run_spent net steps s e =
    let x : World = run net steps empty_world in
    let t : Faulty net x s (StepFault.Carry CarryFault.RunsSpent) =
    faulty net x s (StepFault.Carry CarryFault.RunsSpent) e in
    let c = fault_tells (here net x t.node) t.node (view_at x t.node) (x.sessions t.node) t.input
    (StepFault.Carry CarryFault.RunsSpent) t.fault in
    let p = plan_tells (here net x t.node) (view_at x t.node) t.input CarryFault.RunsSpent c.1 in
    let first : t.node ≡ 0 = at_master t.node t.input p.0 p.1 c.0 in
    contrary
    (subst (λ (w : ℕ). nat_le 4294967295 (last_run (view_at x w (Events 0))) ≡ true) first p.2) (runs_left net steps)
