-- The plan of drafts is made of a network and of what its lines say of it alike.
use Rattle.std.proofs.Common.{◌≡◌, ◌+◌, ◌&&◌, ◌==◌, ℕ, true, not, List, [], ◌∷◌, Some, Result, Ok, Err}
use Rattle.std.proofs.Common.{refl, ap, sym, ◌∙◌, length, option_map}
use Rattle.std.specs.Bool.{then_some}
use Rattle.std.specs.List.{list_all}
use Rattle.std.specs.Option.{option_or}
use Rattle.std.specs.Prelude.{nat_lt}
use Rattle.history_laws.specs.Printables.{as_printed}
use Rattle.history_laws.proofs.Numbers.{count_printed}
use Rattle.model.specs.Facts.{commands}
use Rattle.model.specs.History.{View}
use Rattle.model.specs.NewEntry.{event_of, makes, next_entry, own_entry}
use Rattle.model.specs.NewPlan.{carried_members, documents, is_carried, last_run, plan_of, seen_of}
use Rattle.model.specs.PresentNet.{net_by}
use Rattle.model.specs.Sessions.{Session, next_session, restarted}
use Rattle.model.specs.Step.{effect, node_step, outs_of, unless_fault}
use Rattle.model.specs.StepFaults.{Carry, NoDep, NoProcess, NotInNetwork, NotMaster, NotNeighbour, PlaceSpent, TooLong}
use Rattle.model.specs.StepFaults.{carry_fault, is_place_spent, is_too_long, lacks_dep, lacks_process, step_fault}
use Rattle.model.specs.Types.{Body, Events, Input, Net, NewPlan, Next, StreamDraft, Take}
use Rattle.model.specs.Words.{below, first_of_these, some_is}
use Rattle.model.specs.Workstations.{peer_of, ws_in}
use Rattle.model.specs.World.{Origin, World, apply_effect, as_refusal, empty_world, node_effect, reached_limit, result_map, step, view_at}
use Rattle.model.specs.World.{within_limits}
use Rattle.plan_listing.specs.Listings.{listing_of}
use Rattle.record_runs.specs.Causes.{Cause}
use Rattle.record_runs.specs.Ends.{run_of_script}
use Rattle.record_runs.specs.Lines.{Day, act, line_steps}
use Rattle.record_runs.specs.Runs.{and_then, as_cause, done, run_lines, run_of, take_line, take_steps, went_on}
use Rattle.record_script.specs.declared.OneStep.TheVariants as one
use Rattle.record_script.specs.declared.Script.{Script}
use Rattle.record_script.specs.declared.StepForm.TheVariants as form
use Rattle.syntax.specs.Splits.{lines_of}
use Rattle.listing_laws.specs.ListingReturns.{script_of_listing, with_next}

-- what happens at the master
abbrev taken : List StreamDraft → Input
taken drafts = Input.Local (Next drafts)

module _ (net : Net) (V : View) (s : Session) (drafts : List StreamDraft) where
  abbrev printed : Net
  printed = as_printed net

  plan_same : plan_of printed V drafts ≡ plan_of net V drafts
  unfolding plan_of carried_members is_carried
  plan_same = λ i.
      NewPlan (1 + last_run (V (Events 0))) (seen_of V (below (count_printed net i))) (carried_members net V)
      (documents V (carried_members net V) drafts)

  entry_same : makes printed 0 V s (taken drafts) ≡ makes net 0 V s (taken drafts)
  unfolding makes own_entry event_of
  entry_same = ap (λ (b : Body). Some (next_entry V (Events 0) b)) plan_same

  fault_same : step_fault printed 0 V s (taken drafts) ≡ step_fault net 0 V s (taken drafts)
  unfolding step_fault carry_fault carried_members is_carried
  fault_same = λ i.
      option_or
      (first_of_these
      ((not (list_all (λ w. nat_lt w (count_printed net i)) (0 ∷ ws_in (taken drafts))), NotInNetwork)
      ∷ (some_is (peer_of (taken drafts)) 0, NotNeighbour)
      ∷ (true && not (0 == 0), NotMaster)
      ∷ (lacks_process s.live (taken drafts), NoProcess)
      ∷ (lacks_dep 0 V (taken drafts), NoDep)
      ∷ (is_place_spent V (entry_same i), PlaceSpent)
      ∷ []))
      (option_or (option_map Carry (carry_fault net V drafts)) (then_some (is_too_long (entry_same i)) TooLong))

-- the master of a world in which nothing has happened yet
abbrev nothing_held : View
nothing_held = view_at empty_world 0

effect_same : (net : Net) (drafts : List StreamDraft)
    → effect (as_printed net) 0 nothing_held restarted (taken drafts) ≡ effect net 0 nothing_held restarted (taken drafts)
unfolding effect outs_of next_session net_by commands
effect_same net drafts = λ i.
    record { made = entry_same net nothing_held restarted drafts i; outs = []; session = restarted }

node_same : (net : Net) (drafts : List StreamDraft)
    → node_step (as_printed net) 0 nothing_held restarted (taken drafts) ≡ node_step net 0 nothing_held restarted (taken drafts)
unfolding node_step net_by commands
node_same net drafts = λ i.
    unless_fault (fault_same net nothing_held restarted drafts i) (effect_same net drafts i)

step_same : (net : Net) (drafts : List StreamDraft)
    → step (as_printed net) empty_world (Take 0 (Next drafts)) ≡ step net empty_world (Take 0 (Next drafts))
unfolding step node_effect
step_same net drafts =
    ap
    (λ r. result_map (apply_effect empty_world 0 Origin.Own) (within_limits (reached_limit empty_world) (as_refusal r)))
    (node_same net drafts)

-- Both runs are that step.

abbrev made_of : Net → List StreamDraft → Result World Cause
made_of net drafts = take_steps net empty_world (Take 0 (Next drafts) ∷ [])

made_same : (net : Net) (drafts : List StreamDraft) → made_of (as_printed net) drafts ≡ made_of net drafts
made_same net drafts = ap (λ r. and_then (as_cause r) (λ y. Ok y)) (step_same net drafts)

-- the line of its step
abbrev last_line : Net → List StreamDraft → ℕ
last_line net drafts = length (lines_of (with_next (listing_of net drafts)))

listed_run : (day : Day) (net : Net) (drafts : List StreamDraft)
    → run_of_script day (script_of_listing net drafts)
    ≡ went_on (last_line net drafts) (made_of (as_printed net) drafts) (λ y. done y)
unfolding run_of take_line line_steps act
listed_run day net drafts = refl

one_line : (days : Day) (net : Net) (day line : ℕ) (drafts : List StreamDraft) (plans : List (List StreamDraft))
    → days day ≡ Ok drafts
    → run_lines days net empty_world plans (record { line = line; form = form.One (one.NextDay day) } ∷ [])
    ≡ went_on line (made_of net drafts) (λ y. done y)
unfolding take_line line_steps act
one_line days net day line drafts plans is =
    ap
    (λ (r : Result (List StreamDraft) Cause). went_on line
    (and_then (line_steps (λ k. r) net empty_world plans (form.One (one.NextDay day))) (take_steps net empty_world))
    (λ y. done y)) is

planned_run : (days : Day) (net : Net) (day line : ℕ) (drafts : List StreamDraft) (s : Script) → s.net ≡ net
    → s.steps ≡ record { line = line; form = form.One (one.NextDay day) } ∷ [] → days day ≡ Ok drafts
    → run_of_script days s ≡ went_on line (made_of net drafts) (λ y. done y)
unfolding run_of
planned_run days net day line drafts s over steps is =
    ap (run_lines days s.net empty_world s.plans) steps
    ∙ ap (λ (n : Net). run_lines days n empty_world s.plans (record { line = line; form = form.One (one.NextDay day) } ∷ [])) over
    ∙ one_line days net day line drafts s.plans is

-- a line that made a world, whichever it is
done_by : (a b : ℕ) (r q : Result World Cause) (x : World) → r ≡ q → went_on a r (λ y. done y) ≡ done x
    → went_on b q (λ y. done y) ≡ done x
done_by a b (Ok y) (Ok z) x same e = let both : z ≡ y = cc in ap done both ∙ e
done_by a b (Ok y) (Err c) x same e = absurd (cc)
done_by a b (Err c) (Ok z) x same e = absurd (cc)
done_by a b (Err c) (Err f) x same e = absurd (cc)

pub same_run : (any days : Day) (net : Net) (day line : ℕ) (drafts : List StreamDraft) (s : Script) → s.net ≡ net
    → s.steps ≡ record { line = line; form = form.One (one.NextDay day) } ∷ [] → days day ≡ Ok drafts → (x : World)
    → (run_of_script days s ≡ done x → run_of_script any (script_of_listing net drafts) ≡ done x)
    × (run_of_script any (script_of_listing net drafts) ≡ done x → run_of_script days s ≡ done x)
same_run any days net day line drafts s over steps is x =
    let listed = listed_run any net drafts in
    let planned = planned_run days net day line drafts s over steps is in
    let made = made_same net drafts in (
      λ e. listed ∙ done_by line (last_line net drafts) (made_of net drafts) (made_of (as_printed net) drafts) x (sym made) (sym planned ∙ e),
      λ e. planned ∙ done_by (last_line net drafts) line (made_of (as_printed net) drafts) (made_of net drafts) x made (sym listed ∙ e),
    )
