-- What the parts of a still pass do: nothing is kept, and nothing goes out.
use Rattle.std.proofs.Common.{[], ◌++◌, ◌≡◌, ◌≢◌, ◌∙◌, ◌∷◌, ◌⊎◌, ℕ, Bool, List, None, Option, Some, ap, false, inl, inr, refl, subst, true}
use Rattle.std.specs.List.{AllByRecursion}
use Rattle.std.specs.Prelude.{Err, Ok, Result}
use Rattle.lemmas.proofs.Lists.{all_left, all_right}
use Rattle.composer_parser.specs.declared.Defs.{Defs}
use Rattle.model.specs.Types.{Cmd, Entry, Input, Launch, Net, Out, Packet, Send, Typed}
use Rattle.model.specs.Words.{below}
use Rattle.model.specs.History.{View}
use Rattle.model.specs.Network.{node_count}
use Rattle.model.specs.NewEntry.{makes, own_entry}
use Rattle.model.specs.PresentNet.{present_net}
use Rattle.model.specs.Sessions.{Session}
use Rattle.model.specs.StepFaults as faults
use Rattle.model.specs.StepFaults.{step_fault}
use Rattle.model.specs.Step.{Effect, effect, node_step, unless_fault}
use Rattle.model.specs.World.{step}
use Rattle.outside.specs.Calls.{Asked}
use Rattle.outside.specs.declared.Failed.{Failed}
use Rattle.outside.specs.declared.links.Arrival.{Arrival}
use Rattle.outside.specs.declared.links.Arrival.TheVariants as arrival
use Rattle.outside.specs.declared.spawners.End.{End}
use Rattle.file_watch.specs.Circle.{DepPlace}
use Rattle.mail_frames.specs.declared.frames.Frame.{Frame}
use Rattle.carry_forward.specs.declared.CarryFault.TheVariants as carry
use Rattle.agent_core.specs.Nodes.{NodeState, session_in, view_in}
use Rattle.agent_core.specs.Steps.{IsDue, IsTaken, effect_in, step_at}
use Rattle.agent_core.specs.declared.faults.Step.{Step}
use Rattle.agent_core.specs.declared.faults.StepFault.{StepFault}
use Rattle.agent_core.specs.declared.faults.StepFault.TheVariants as fault
use Rattle.node_inputs.specs.Actions.{Action, Both, Nothing, Then, Wants, If, IfThere, Each}
use Rattle.node_inputs.specs.Inputs.{Carried, Carry, CarryOut, Follow, Give, IsKeeping, Keep, PassOver, Raise, RaiseNew, SendFrame, Take as TakeIt, frame_of, is_new_neighbour, nothing_carried}
use Rattle.node_inputs.specs.Traces.{Event, Trace}
use Rattle.node_inputs.specs.declared.ends.NodeEnd.{NodeEnd}
use Rattle.node_loop.specs.Runs.{Arrive, Come, Comes, EndOf, Found, Looks, Reports, Running}
use Rattle.nights_at_rest.specs.Still.{is_still}

abbrev pub AreStill : Trace → Type 0
AreStill trace = AllByRecursion (λ event. is_still event ≡ true) trace

pub no_end : {P : Type 0} {why : NodeEnd} → None ≡ Some why → P
no_end q = cc

-- an action that goes on, and one behind it
pub both_of : {S : Type 0} (first second : Action S) (old : S) (trace : Trace) (new : S) → Then first second old trace None new
    → Both first second old trace None new
both_of first second old trace new (inl b) = b
both_of first second old trace new (inr e) = no_end e.for_that_cause

pub wanted : {S : Type 0} (act : Action S) (old : S) (trace : Trace) (new : S) → Wants act old trace None new
    → act old trace None new
wanted act old trace new (inl h) = h
wanted act old trace new (inr h) = no_end h.1

-- the parts of a still trace are still
pub front_still : (trace front back : Trace) → trace ≡ front ++ back → AreStill trace → AreStill front
front_still trace front back split each =
    all_left (λ event. is_still event ≡ true) front back (subst AreStill split each)

pub back_still : (trace front back : Trace) → trace ≡ front ++ back → AreStill trace → AreStill back
back_still trace front back split each =
    all_right (λ event. is_still event ≡ true) front back (subst AreStill split each)

pub not_still : {P : Type 0} → false ≡ true → P
not_still q = cc

-- what comes in it is nothing
arrives : (defs : Defs) (a : Arrival) (old : Running) (rest : Trace) (new : Running) → is_still (Event.Comes a) ≡ true
    → Arrive defs a old rest None new → new ≡ old
arrives defs (arrival.Bytes x bytes) old rest new still h = not_still still
arrives defs (arrival.Up x) old rest new still h = not_still still
arrives defs (arrival.Down x) old rest new still h = not_still still
arrives defs (arrival.Client bytes) old rest new still h = not_still still
arrives defs arrival.Nothing old rest new still h = h.2
arrives defs arrival.NoMemory old rest new still h = not_still still

pub comes : (defs : Defs) (old : Running) (trace : Trace) (new : Running) → AreStill trace → Come defs old trace None new
    → new ≡ old
comes defs old trace new each h =
    let c : Comes defs old trace None new = wanted (λ o t e n. Comes defs o t e n) old trace new h in
    arrives defs c.arrived old c.rest new (subst AreStill c.split each).0 c.arrives

-- so is what is told of ends
ended : (answer : Result (Option End) Failed) (old : NodeState) (rest : Trace) (new : NodeState)
    → is_still (Event.Reports answer) ≡ true → EndOf answer old rest None new → new ≡ old
ended (Ok None) old rest new still h = h.2
ended (Ok (Some e)) old rest new still h = not_still still
ended (Err failed) old rest new still h = not_still still

pub reports : (old : NodeState) (trace : Trace) (new : NodeState) → AreStill trace → Reports old trace None new → new ≡ old
reports old trace new each h = ended h.answer old h.rest new (subst AreStill h.split each).0 h.acts

-- and what is found
found : (path : List ℕ) (place : DepPlace) (answer : Result Bool Failed) (old : NodeState) (rest : Trace) (new : NodeState)
    → is_still (Event.Looks path answer) ≡ true → Found place answer old rest None new → new ≡ old
found path place (Ok true) old rest new still h = not_still still
found path place (Ok false) old rest new still h = h.2
found path place (Err failed) old rest new still h = not_still still

pub probes : (o : Option DepPlace) (old : Running) (trace : Trace) (new : Running) → AreStill trace
    → IfThere o (λ (place : DepPlace). λ o t e n. Looks place o t e n) Nothing old trace None new → new.node ≡ old.node
probes None old trace new each h = ap (λ (s : Running). s.node) h.2
probes (Some place) old trace new each h =
    found h.path place h.answer old.node h.rest new.node (subst AreStill h.split each).0 h.acts.acts

-- what is kept in a still trace is nothing
kept_still : (m : Option Entry) (trace : Trace) → AreStill trace → IsKeeping m trace None → (m ≡ None) × (trace ≡ [])
kept_still None trace each h = (refl, h.0)
kept_still (Some e) trace each (inl h) = not_still (subst AreStill h.0 each).0
kept_still (Some e) trace each (inr (inl h)) = no_end h.3
kept_still (Some e) trace each (inr (inr h)) = no_end h.1

raises : (before now : NodeState) (ws : List ℕ) (old : NodeState) (trace : Trace) (new : NodeState) → AreStill trace
    → Each (RaiseNew before now) ws old trace None new → new ≡ old
raises before now [] old trace new each h = h.2
raises before now (w ∷ ws) old trace new each h =
    let b = both_of (RaiseNew before now w) (Each (RaiseNew before now) ws) old trace new h in
    raises before now ws b.middle b.back new (back_still trace b.front b.back b.split each) b.goes_on
    ∙ one (is_new_neighbour before now w) b.front b.middle (front_still trace b.front b.back b.split each) b.begins
  where
    one : (c : Bool) (front : Trace) (middle : NodeState) → AreStill front
        → If c (λ o t e n. (t ≡ Event.Asks (Asked.Raise w) ∷ []) × (e ≡ None) × (n ≡ o)) Nothing old front None middle
        → middle ≡ old
    one true front middle still k = not_still (subst AreStill k.0 still).0
    one false front middle still k = k.2

-- of outputs nothing goes out but a packet whose entry the node lacks
carried : (node : NodeState) (o : Out) (os : List Out) (trace : Trace) (new : Carried) → AreStill trace
    → Carry node (o ∷ os) nothing_carried trace None new
    → (to : ℕ) × (p : Packet) × (o ≡ Send to p) × (frame_of node p ≡ None)
carried node o os trace new each h =
    let b = both_of (CarryOut node o) (Each (CarryOut node) os) nothing_carried trace new h in
    one o b.front b.middle (front_still trace b.front b.back b.split each) b.begins
  where
    sent : (to : ℕ) (p : Packet) (f : Option Frame) → frame_of node p ≡ f → (front : Trace) (middle : Carried) → AreStill front
        → IfThere f (SendFrame to) Nothing nothing_carried front None middle
        → (v : ℕ) × (q : Packet) × (Send to p ≡ Send v q) × (frame_of node q ≡ None)
    sent to p None is front middle still k = (to, p, refl, is)
    sent to p (Some f) is front middle still k = not_still (subst AreStill k.1 still).0

    one : (o : Out) (front : Trace) (middle : Carried) → AreStill front → CarryOut node o nothing_carried front None middle
        → (to : ℕ) × (p : Packet) × (o ≡ Send to p) × (frame_of node p ≡ None)
    one (Launch j n work) front middle still k = not_still (subst AreStill k.1 still).0
    one (Out.Kill j n) front middle still k = not_still (subst AreStill k.0 still).0
    one (Send to p) front middle still k =
        sent to p (frame_of node p) refl front middle still
        (wanted (IfThere (frame_of node p) (SendFrame to) Nothing) nothing_carried front middle k)

-- an input that is taken, with nothing kept; what it gives out then is packets whose entries the node lacks
pub record TookStill (input : Input) (old : NodeState) : Type 0 where
  pub step_ : Step
  pub after : NodeState
  pub taken : IsTaken old input step_ after
  pub none : step_.kept ≡ None
  pub outs : (o : Out) (os : List Out) → step_.outs ≡ o ∷ os
      → (to : ℕ) × (p : Packet) × (o ≡ Send to p) × (frame_of after p ≡ None)

-- or refused, for another cause than a spent place
pub record PassedOver (input : Input) (old new : NodeState) : Type 0 where
  pub cause : faults.StepFault
  pub due : step_at old input ≡ Err cause
  pub other : cause ≡ faults.StepFault.PlaceSpent → ⊥
  pub same : new ≡ old

is_place : faults.StepFault → Bool
is_place faults.StepFault.PlaceSpent = true
is_place _ = false

pub passes_over : (input : Input) (f : StepFault) (old : NodeState) (trace : Trace) (new : NodeState) → f ≢ fault.NoMemory
    → IsDue old input f → PassOver f old trace None new → PassedOver input old new
unfolding is_place
passes_over input fault.NotInNetwork old trace new known due h =
    record { cause = faults.StepFault.NotInNetwork; due = due; other = λ q. not_still (ap is_place q); same = h.2 }
passes_over input fault.NotNeighbour old trace new known due h =
    record { cause = faults.StepFault.NotNeighbour; due = due; other = λ q. not_still (ap is_place q); same = h.2 }
passes_over input fault.NotMaster old trace new known due h =
    record { cause = faults.StepFault.NotMaster; due = due; other = λ q. not_still (ap is_place q); same = h.2 }
passes_over input fault.NoProcess old trace new known due h =
    record { cause = faults.StepFault.NoProcess; due = due; other = λ q. not_still (ap is_place q); same = h.2 }
passes_over input fault.NoDep old trace new known due h =
    record { cause = faults.StepFault.NoDep; due = due; other = λ q. not_still (ap is_place q); same = h.2 }
passes_over input fault.PlaceSpent old trace new known due h = no_end h.1
passes_over input (fault.Carry carry.RunsSpent) old trace new known due h =
    record { cause = faults.StepFault.Carry faults.CarryFault.RunsSpent; due = due; other = λ q. not_still (ap is_place q); same = h.2 }
passes_over input (fault.Carry carry.NumbersSpent) old trace new known due h =
    record { cause = faults.StepFault.Carry faults.CarryFault.NumbersSpent; due = due; other = λ q. not_still (ap is_place q); same = h.2 }
passes_over input (fault.Carry (carry.PlanFull most)) old trace new known due h =
    record { cause = faults.StepFault.Carry (faults.CarryFault.PlanFull most); due = due; other = λ q. not_still (ap is_place q); same = h.2 }
passes_over input (fault.Carry carry.NoMemory) old trace new known due h = absurd due
passes_over input fault.TooLong old trace new known due h =
    record { cause = faults.StepFault.TooLong; due = due; other = λ q. not_still (ap is_place q); same = h.2 }
passes_over input fault.NoMemory old trace new known due h = absurd (known refl)

pub takes_still : (input : Input) (old : NodeState) (trace : Trace) (new : NodeState) → AreStill trace
    → TakeIt input old trace None new → TookStill input old ⊎ PassedOver input old new
takes_still input old trace new each (inr stop) = no_end stop.1
takes_still input old trace new each (inl (inr r)) = inr (passes_over input r.0 old trace new r.1 r.2 r.3)
takes_still input old trace new each (inl (inl t)) =
    let b = both_of (Keep t.step.kept) (Follow old t.step) t.after trace new t.acts in
    let kept = kept_still t.step.kept b.front (front_still trace b.front b.back b.split each) b.begins.0 in
    inl (record {
      step_ = t.step;
      after = t.after;
      taken = t.taken;
      none = kept.0;
      outs = λ o os is.
          follows o os is b.middle b.back (back_still trace b.front b.back b.split each) b.begins.1 b.goes_on;
    })
  where
    follows : (o : Out) (os : List Out) → t.step.outs ≡ o ∷ os → (middle : NodeState) (back : Trace) → AreStill back
        → middle ≡ t.after → Follow old t.step middle back None new
        → (to : ℕ) × (p : Packet) × (o ≡ Send to p) × (frame_of t.after p ≡ None)
    follows o os is middle back still same h = gives (both_of (Raise old) (Give t.step.outs) middle back new h)
      where
        gives : Both (Raise old) (Give t.step.outs) middle back None new
            → (to : ℕ) × (p : Packet) × (o ≡ Send to p) × (frame_of t.after p ≡ None)
        gives b =
            let raised : b.middle ≡ middle =
            raises old middle (below (node_count middle.net)) middle b.front b.middle (front_still back b.front b.back b.split still)
            b.begins in
            let here : b.middle ≡ t.after = raised ∙ same in
            goes b.middle b.back here (back_still back b.front b.back b.split still) b.goes_on
          where
            goes : (now : NodeState) (rest : Trace) → now ≡ t.after → AreStill rest → Give t.step.outs now rest None new
                → (to : ℕ) × (p : Packet) × (o ≡ Send to p) × (frame_of t.after p ≡ None)
            goes now rest here quiet (inr g) = no_end g.for_want_of_memory
            goes now rest here quiet (inl g) =
                subst (λ (n : NodeState). (to : ℕ) × (p : Packet) × (o ≡ Send to p) × (frame_of n p ≡ None)) here
                (carried now o os g.front g.carried (front_still rest g.front g.back g.split quiet)
                (subst (λ (l : List Out). Carry now l nothing_carried g.front None g.carried) is g.carries))

-- what the node advises itself would be kept
made_of : Result Effect faults.StepFault → Option Entry
made_of (Ok d) = d.made
made_of (Err f) = None

pub some_none : {P : Type 0} {X : Type 0} {a : X} → Some a ≡ None → P
some_none q = cc

typed_makes : (net : Net) (me : ℕ) (V : View) (s : Session) (to : ℕ) (c : Cmd) (d : Effect)
    → node_step net me V s (Input.Local (Typed to c)) ≡ Ok d → d.made ≡ None → ⊥
unfolding node_step effect makes own_entry made_of
typed_makes net me V s to c d e none =
    go (step_fault (present_net net V) me V s (Input.Local (Typed to c))) (ap made_of e ∙ none) e
  where
    go : (f : Option faults.StepFault) → made_of (unless_fault f (effect net me V s (Input.Local (Typed to c)))) ≡ None
        → unless_fault f (effect net me V s (Input.Local (Typed to c))) ≡ Ok d → ⊥
    go None none whole = some_none none
    go (Some f) none whole = cc

pub advises : (o : Option Cmd) (old : NodeState) (trace : Trace) (new : NodeState) → AreStill trace
    → IfThere o (λ (c : Cmd). TakeIt (Input.Local (Typed old.me c))) Nothing old trace None new → new ≡ old
advises None old trace new each h = h.2
advises (Some c) old trace new each h = go (takes_still (Input.Local (Typed old.me c)) old trace new each h)
  where
    go : TookStill (Input.Local (Typed old.me c)) old ⊎ PassedOver (Input.Local (Typed old.me c)) old new → new ≡ old
    go (inl t) =
        absurd (typed_makes old.net old.me (view_in old) (session_in old) old.me c (effect_in t.step_ t.after) t.taken.effect t.none)
    go (inr p) = p.same
