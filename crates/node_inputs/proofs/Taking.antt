-- What an answer of a call on one input says of a stretch of a run.
use Rattle.std.proofs.Common.{[], ◌++◌, ◌≡◌, ◌≢◌, ◌∙◌, ℕ, Bool, Err, List, None, Ok, Option, Result, Some, ap, inl, inr, refl, subst, sym}
use Rattle.std.proofs.lemmas.List.{append-nil}
use Rattle.model.specs.Types.{Entry, Input, Out}
use Rattle.agent_core.specs.Nodes.{NodeState}
use Rattle.agent_core.specs.Steps.{IsTaken}
use Rattle.agent_core.specs.declared.faults.Step.{Step}
use Rattle.agent_core.specs.declared.faults.StepFault.{StepFault}
use Rattle.agent_core.specs.declared.faults.StepFault.TheVariants as fault
use Rattle.outside.specs.Kept.{Bodies}
use Rattle.node_inputs.specs.Keeping.{IsReady}
use Rattle.node_inputs.specs.Traces.{Trace, refusals}
use Rattle.node_inputs.proofs.Fronts.{none_kept, refusals-append}
use Rattle.node_inputs.proofs.Joining.{both_last}
use Rattle.node_inputs.proofs.Lasting.{nothing_lasts}
use Rattle.node_inputs.specs.declared.ends.NodeEnd.{NodeEnd}
use Rattle.node_inputs.specs.declared.ends.NodeEnd.TheVariants.{NoMemory}
use Rattle.node_inputs.specs.Actions.{Action, Nothing, Then}
use Rattle.node_inputs.specs.Doings.{Does, DoesOutside, end_of}
use Rattle.node_inputs.specs.Inputs.{Carried, Carry, Give, Keep, LoseAll, PassOver, Take, TakeQuietly, TakeWith, Takes, Tell, nothing_carried}
use Rattle.node_inputs.specs.Stepping.{IsPassed, IsStepped, TakesTelling}
use Rattle.node_inputs.specs.Tellings.{Told}
use Rattle.node_inputs.proofs.Doing.{did_as, did_outside, out_as, out_nothing}
use Rattle.node_inputs.proofs.Telling.{nothing_told, tells_both}

-- nothing behind an action
pub then_nothing : {S : Type 0} (act : Action S) (old : S) (trace : Trace) (end : Option NodeEnd) (new : S)
    → act old trace end new → Then act Nothing old trace end new
then_nothing act old trace None new h =
    inl (record { front = trace; back = []; middle = new; split = sym (append-nil trace); begins = h; goes_on = (refl, refl, refl) })
then_nothing act old trace (Some why) new h = inr (record { why = why; for_that_cause = refl; ends = h })

-- a fault that the run goes on with
pub passed_over : (f : StepFault) (old : NodeState) (trace : Trace) (end : Option NodeEnd) (new : NodeState)
    → f ≢ fault.PlaceSpent → Nothing old trace end new → PassOver f old trace end new
passed_over fault.NotInNetwork old trace end new k h = h
passed_over fault.NotNeighbour old trace end new k h = h
passed_over fault.NotMaster old trace end new k h = h
passed_over fault.NoProcess old trace end new k h = h
passed_over fault.NoDep old trace end new k h = h
passed_over fault.PlaceSpent old trace end new k h = absurd (k refl)
passed_over (fault.Carry c) old trace end new k h = h
passed_over fault.TooLong old trace end new k h = h
passed_over fault.NoMemory old trace end new k h = h

-- the run ends before the input is taken
pub stepped_end : (follows : NodeState → Step → Action NodeState) (input : Input) (old new : NodeState) (why : NodeEnd) (told : Told)
    → IsStepped old input (Err why) new → DoesOutside (TakeWith follows input) old new told told (Some why)
stepped_end follows input old new why told (same, inl none) =
    record { trace = []; acts = inr (refl, ap Some none, same); tells = nothing_told told; none_tried = refl }
stepped_end follows input old new why told (same, inr spent) = record {
  trace = [];
  acts = inl (inr (fault.PlaceSpent, (λ h. cc), spent.1, (refl, ap Some spent.0, same)));
  tells = nothing_told told;
  none_tried = refl;
}

-- the input is refused, and the run goes on
pub passed_told : (input : Input) (old new : NodeState) (f : StepFault) (told : Told) → IsPassed old input f new
    → DoesOutside (TakesTelling input (Ok (Some f))) old new told told None
passed_told input old new f told h = record {
  trace = [];
  acts = (h.known, h.has_place, h.due, (refl, refl, h.same));
  tells = nothing_told told;
  none_tried = refl;
}

pub passed_quietly : (follows : NodeState → Step → Action NodeState) (input : Input) (old new : NodeState) (f : StepFault) (told : Told)
    → IsPassed old input f new → DoesOutside (TakeWith follows input) old new told told None
passed_quietly follows input old new f told h = record {
  trace = [];
  acts = inl (inr (f, h.known, h.due, passed_over f old [] None new h.has_place (refl, refl, h.same)));
  tells = nothing_told told;
  none_tried = refl;
}

-- what was told of an input
pub telling_is_taking : (input : Input) (result : Result (Option StepFault) NodeEnd) (old : NodeState) (trace : Trace) (new : NodeState)
    → TakesTelling input result old trace (end_of result) new → Take input old trace (end_of result) new
telling_is_taking input (Ok None) old trace new h = inl (inl h)
telling_is_taking input (Ok (Some f)) old trace new h =
    inl (inr (f, h.0, h.2, passed_over f old trace None new h.1 h.3))
telling_is_taking input (Err why) old trace new h = h

module _ {K : Type 0} {kept_in : K → Option Bodies} {size faults moment : K → ℕ} {may_leave : K → Bodies → Type 0} {left_since : K → ℕ → Bodies → Type 0} {opens_since : K → ℕ → ℕ → Type 0} where
  -- a step without an entry
  pub did_keep_none : (spent : K → Bool) (kept : Option Entry) → kept ≡ None → (node : NodeState) (keeper : K) (told : Told)
      → IsReady kept_in spent may_leave keeper
      → Does kept_in size faults moment may_leave left_since opens_since (Keep kept) node node keeper keeper told told None
  did_keep_none spent kept is node keeper told ready =
      subst (λ (k : Option Entry). Does kept_in size faults moment may_leave left_since opens_since (Keep k) node node keeper keeper told told None) (sym is)
      (did_as (λ trace h. ((h.0, h.1), h.2)) (did_outside spent keeper ready (out_nothing node told)))

  -- the same where the answer of a call is this
  pub did_answer : {S A : Type 0} {act : Action S} {old new : S} {keeper later : K} {told now : Told} (r : Result A NodeEnd) (end : Option NodeEnd)
      → end_of r ≡ end → Does kept_in size faults moment may_leave left_since opens_since act old new keeper later told now end
      → Does kept_in size faults moment may_leave left_since opens_since act old new keeper later told now (end_of r)
  did_answer {act = act} {old} {new} {keeper} {later} {told} {now} r end is a =
      subst (λ (e : Option NodeEnd). Does kept_in size faults moment may_leave left_since opens_since act old new keeper later told now e) (sym is) a

  -- the run ended while an input was taken
  pub did_telling : {old new : NodeState} {keeper later : K} {told now : Told} (input : Input) (r : Result (Option StepFault) NodeEnd) (why : NodeEnd)
      → r ≡ Err why → Does kept_in size faults moment may_leave left_since opens_since (Take input) old new keeper later told now (Some why)
      → Does kept_in size faults moment may_leave left_since opens_since (TakesTelling input r) old new keeper later told now (end_of r)
  did_telling {old} {new} {keeper} {later} {told} {now} input r why is a =
      subst (λ (q : Result (Option StepFault) NodeEnd). Does kept_in size faults moment may_leave left_since opens_since (TakesTelling input q) old new keeper later told now (end_of q)) (sym is) a

  -- the step of an input, and what follows once its entry is kept
  pub did_takes : {follows : NodeState → Step → Action NodeState} {old after new : NodeState} {keeper later : K} {told now : Told} {end : Option NodeEnd}
      → (input : Input) (step : Step) → IsTaken old input step after
      → Does kept_in size faults moment may_leave left_since opens_since (Then (Keep step.kept) (follows old step)) after new keeper later told now end
      → Does kept_in size faults moment may_leave left_since opens_since (λ o t e n. Takes follows input o t e n) old new keeper later told now end
  did_takes {after = after} input step taken a =
      did_as (λ trace h. record { step = step; after = after; taken = taken; acts = h }) a

  pub did_quietly : {old after : NodeState} {keeper later : K} {told now : Told} {end : Option NodeEnd}
      → (input : Input) (step : Step) → IsTaken old input step after
      → Does kept_in size faults moment may_leave left_since opens_since (Keep step.kept) after after keeper later told now end
      → Does kept_in size faults moment may_leave left_since opens_since (TakeQuietly input) old after keeper later told now end
  did_quietly {old} {after} {end = end} input step taken a =
      did_as (λ trace h. inl (inl (record { step = step; after = after; taken = taken; acts = then_nothing (Keep step.kept) after trace end after h }))) a

  -- what is carried out, and then told to the node
  pub did_give : {outs : List Out} {old new : NodeState} {keeper later : K} {told meanwhile now : Told} {end : Option NodeEnd}
      → (carried : Carried) → DoesOutside (Carry old outs) nothing_carried carried told meanwhile None
      → (spent : K → Bool) → IsReady kept_in spent may_leave keeper
      → Does kept_in size faults moment may_leave left_since opens_since (Then (Tell carried.started) (LoseAll carried.lost)) old new keeper later meanwhile now end
      → Does kept_in size faults moment may_leave left_since opens_since (Give outs) old new keeper later told now end
  did_give {old = old} {keeper = keeper} {later = later} {told = told} {meanwhile = meanwhile} {now = now} carried a spent ready b =
      let none : refusals a.trace ≡ [] = (none_kept a.trace a.none_tried).1 in
      record {
        trace = a.trace ++ b.trace;
        acts = inl (record { front = a.trace; back = b.trace; carried = carried; split = refl; carries = a.acts; follows = b.acts });
        lasts =
            both_last a.trace b.trace none kept_in size faults moment may_leave left_since opens_since keeper keeper later
            (nothing_lasts kept_in size faults moment may_leave left_since opens_since spent a.trace a.none_tried keeper ready) b.lasts;
        tells = tells_both a.trace b.trace told meanwhile now a.tells b.tells;
        goes_on = λ h.
            refusals-append a.trace b.trace ∙ ap (λ (l : List (Entry × NodeEnd)). l ++ refusals b.trace) none ∙ b.goes_on h;
      }

-- memory ran out for one of the outputs
pub gave_some : {outs : List Out} (node : NodeState) (so_far : Carried) {told now : Told}
    → DoesOutside (Carry node outs) nothing_carried so_far told now (Some NoMemory)
    → DoesOutside (Give outs) node node told now (Some NoMemory)
gave_some node so_far a =
    out_as (λ trace h. inr (record { carried = so_far; for_want_of_memory = refl; carries = h; same = refl })) a
