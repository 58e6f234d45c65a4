-- The plan of the next day.
use Rattle.std.proofs.Common.{◌≡◌, ◌∙◌, ◌+◌, Err, List, None, Ok, Option, Result, Some, ap, false, length, refl}
use Rattle.std.proofs.Common.{subst, sym, true}
use Rattle.std.specs.Prelude.{◌==◌, ◌≢◌, IfOk, IsOk, nat_lt, not, option_map}
use Rattle.model.specs.Types as types
use Rattle.model.specs.Types.{Body, Entry, Events, Input, Net, StreamDraft}
use Rattle.model.specs.History.{view_of}
use Rattle.model.specs.Sessions.{next_session}
use Rattle.model.specs.NewPlan.{plan_of}
use Rattle.model.specs.NewEntry.{event_of, makes, next_entry, own_entry}
use Rattle.model.specs.Step.{outs_of}
use Rattle.model.specs.StepFaults as model
use Rattle.model.specs.StepFaults.{carry_fault}
use Rattle.carry_forward.specs.Faults as carried
use Rattle.carry_forward.specs.declared.faults.CarryFault.{CarryFault}
use Rattle.carry_forward.specs.declared.faults.CarryFault.TheVariants as carry
use Rattle.agent_core.specs.Nodes.{NodeState, present_in, session_in, view_in}
use Rattle.agent_core.specs.Steps.{IsCarried, IsDayPlan, IsDue, IsKeeping, IsKept, IsOwnEntry, IsStep, Keeps, made_by}
use Rattle.agent_core.specs.Steps.{step_at}
use Rattle.agent_core.specs.declared.faults.Step.{Step}
use Rattle.agent_core.specs.declared.faults.StepFault.{StepFault}
use Rattle.agent_core.specs.declared.faults.StepFault.TheVariants.{Carry, NoMemory}
use Rattle.agent_core.proofs.Causes.{Passes, inside, no_plan, own_kept, place_spent}
use Rattle.agent_core.proofs.OwnEntries.{GivesNothing, keeping_taken, with_live}

abbrev pub plan : List StreamDraft → Input
plan drafts = types.Input.Local (types.Next drafts)

plan_passes : (n : NodeState) (drafts : List StreamDraft) → inside n (plan drafts) ≡ true → (n.me == 0) ≡ true
    → Passes n (plan drafts)
plan_passes n drafts e m = record { inside_ = e; other = refl; master = ap not m; runs = refl; waits = refl }

plan_makes : (n : NodeState) (drafts : List StreamDraft)
    → made_by n (plan drafts)
    ≡ Some (next_entry (view_in n) (Events n.me) (plan_of (present_in n) (view_in n) drafts))
unfolding makes own_entry event_of
plan_makes n drafts = refl

pub plan_spent : (n : NodeState) (drafts : List StreamDraft) → inside n (plan drafts) ≡ true → (n.me == 0) ≡ true
    → nat_lt 4294967295 (1 + length (view_in n (Events n.me))) ≡ true
    → step_at n (plan drafts) ≡ Err model.StepFault.PlaceSpent
plan_spent n drafts e m h =
    place_spent n (plan drafts) (plan_passes n drafts e m)
    (ap (model.is_place_spent (view_in n)) (plan_makes n drafts) ∙ h)

pub plan_kept : (n : NodeState) (drafts : List StreamDraft) (b : Body) (r : Result Entry StepFault)
    → inside n (plan drafts) ≡ true → (n.me == 0) ≡ true → IsDayPlan n drafts (Ok b)
    → IsOwnEntry (view_in n) (Events n.me) b r → IsKept n (plan drafts) r
plan_kept n drafts b r e m h own =
    own_kept n (plan drafts) (Events n.me) b r (plan_passes n drafts e m) h.1
    (plan_makes n drafts ∙ ap (λ (x : Body). Some (next_entry (view_in n) (Events n.me) x)) (sym h.0)) own

fault_by_name : (o : Option model.CarryFault) (f : model.CarryFault)
    → option_map carried.fault_of o ≡ Some (carried.fault_of f) → o ≡ Some f
fault_by_name None f h = cc
fault_by_name (Some g) f h = ap Some (one g f h)
  where
    one : (g f : model.CarryFault) → Some (carried.fault_of g) ≡ Some (carried.fault_of f) → g ≡ f
    one model.CarryFault.RunsSpent model.CarryFault.RunsSpent h = refl
    one model.CarryFault.NumbersSpent model.CarryFault.NumbersSpent h = refl
    one (model.CarryFault.PlanFull m) (model.CarryFault.PlanFull n) h = cc
    one g f h = cc

not_planned : (n : NodeState) (drafts : List StreamDraft) (f : model.CarryFault)
    → inside n (plan drafts) ≡ true → (n.me == 0) ≡ true
    → nat_lt 4294967295 (1 + length (view_in n (Events n.me))) ≡ false
    → carried.plan_fault (present_in n) (view_in n) drafts ≡ Some (carried.fault_of f)
    → step_at n (plan drafts) ≡ Err (model.StepFault.Carry f)
not_planned n drafts f e m l h =
    no_plan n (plan drafts) f (plan_passes n drafts e m)
    (ap (model.is_place_spent (view_in n)) (plan_makes n drafts) ∙ l)
    (fault_by_name (carry_fault (present_in n) (view_in n) drafts) f h)

due_as : (n : NodeState) (i : Input) (f g : StepFault) → g ≡ f → IsDue n i f → IsDue n i g
due_as n i f g e h = subst (λ (x : StepFault). IsDue n i x) (sym e) h

pub plan_refused : (n : NodeState) (drafts : List StreamDraft) (f : CarryFault) (s : StepFault)
    → inside n (plan drafts) ≡ true → (n.me == 0) ≡ true
    → nat_lt 4294967295 (1 + length (view_in n (Events n.me))) ≡ false
    → IsDayPlan n drafts (Err f) → IsCarried f s → IsDue n (plan drafts) s
plan_refused n drafts carry.NoMemory s e m l h k = due_as n (plan drafts) NoMemory s k tt
plan_refused n drafts carry.RunsSpent s e m l h k =
    due_as n (plan drafts) (Carry carry.RunsSpent) s k
    (not_planned n drafts model.CarryFault.RunsSpent e m l h)
plan_refused n drafts carry.NumbersSpent s e m l h k =
    due_as n (plan drafts) (Carry carry.NumbersSpent) s k
    (not_planned n drafts model.CarryFault.NumbersSpent e m l h)
plan_refused n drafts (carry.PlanFull q) s e m l h k =
    due_as n (plan drafts) (Carry (carry.PlanFull q)) s k
    (not_planned n drafts (model.CarryFault.PlanFull q) e m l h)

none_by_name : (o : Option model.CarryFault) → option_map carried.fault_of o ≡ None → o ≡ None
none_by_name None h = refl
none_by_name (Some f) h = cc

-- what the plan of the next day is, over the network and the entries of the node
abbrev Told : Net → List Entry → List StreamDraft → Result Body CarryFault → Type 0
Told net kept drafts (Ok b) =
    (b ≡ plan_of net (view_of kept) drafts) × (carry_fault net (view_of kept) drafts ≡ None)
Told net kept drafts (Err carry.NoMemory) = Unit {0}
Told net kept drafts (Err f) = carried.plan_fault net (view_of kept) drafts ≡ Some f

told : (net : Net) (kept : List Entry) (drafts : List StreamDraft) (r : Result Body CarryFault)
    → IfOk r (λ b. b ≡ plan_of net (view_of kept) drafts)
    → (IsOk r → carried.plan_fault net (view_of kept) drafts ≡ None)
    → ((f : CarryFault) → r ≡ Err f → f ≢ carry.NoMemory → carried.plan_fault net (view_of kept) drafts ≡ Some f)
    → Told net kept drafts r
told net kept drafts (Ok b) v a k = (v, none_by_name (carry_fault net (view_of kept) drafts) (a refl))
told net kept drafts (Err carry.NoMemory) v a k = tt
told net kept drafts (Err carry.RunsSpent) v a k = k carry.RunsSpent refl (λ same. cc)
told net kept drafts (Err carry.NumbersSpent) v a k = k carry.NumbersSpent refl (λ same. cc)
told net kept drafts (Err (carry.PlanFull q)) v a k = k (carry.PlanFull q) refl (λ same. cc)

told_here : (n : NodeState) (drafts : List StreamDraft) (r : Result Body CarryFault)
    → Told (present_in n) n.kept drafts r → IsDayPlan n drafts r
told_here n drafts (Ok b) h = h
told_here n drafts (Err carry.NoMemory) h = tt
told_here n drafts (Err carry.RunsSpent) h = h
told_here n drafts (Err carry.NumbersSpent) h = h
told_here n drafts (Err (carry.PlanFull q)) h = h

pub plan_told : (n : NodeState) (drafts : List StreamDraft) (net : Net) (kept : List Entry) (r : Result Body CarryFault)
    → net ≡ present_in n → kept ≡ n.kept → IfOk r (λ b. b ≡ plan_of net (view_of kept) drafts)
    → (IsOk r → carried.plan_fault net (view_of kept) drafts ≡ None)
    → ((f : CarryFault) → r ≡ Err f → f ≢ carry.NoMemory → carried.plan_fault net (view_of kept) drafts ≡ Some f)
    → IsDayPlan n drafts r
plan_told n drafts net kept r e h v a k =
    told_here n drafts r
    (subst (λ (m : Net). Told m n.kept drafts r) e
    (subst (λ (l : List Entry). Told net l drafts r) h (told net kept drafts r v a k)))

plan_quiet : (drafts : List StreamDraft) → GivesNothing (plan drafts)
unfolding outs_of
plan_quiet drafts n m = refl

plan_session : (n : NodeState) (drafts : List StreamDraft) (m : Option Entry)
    → next_session (view_in n) (session_in n) (plan drafts) m ≡ with_live n n.live
unfolding next_session
plan_session n drafts m = refl

pub plan_step : (old new : NodeState) (drafts : List StreamDraft) (e : Entry) (r : Result Step StepFault)
    → Keeps old (plan drafts) e → IsKeeping old e old.live r new → IsStep old (plan drafts) r new
plan_step old new drafts e r =
    keeping_taken old new (plan drafts) e old.live r (plan_quiet drafts) (plan_session old drafts (Some e))
