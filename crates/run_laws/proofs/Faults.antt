-- Telling of a file that was looked for is refused for want of places alone.
use Rattle.std.proofs.Common.{[], ◌+◌, ◌<◌, ◌≡◌, ◌∷◌, ℕ, Bool, None, Option, Some, false, length, refl, subst, sym, true}
use Rattle.std.proofs.lemmas.Bool.{lt-ltb}
use Rattle.std.specs.Bool.{then_some}
use Rattle.std.specs.Prelude.{Err, nat_lt}
use Rattle.base_types.specs.declared.LimitName.TheVariants.{Places}
use Rattle.model.specs.Types.{Events, Fulfil, Fulfilled, Input, Net, Obj}
use Rattle.model.specs.History.{View}
use Rattle.model.specs.Network.{node_count}
use Rattle.model.specs.NewEntry.{event_of, makes, next_entry, own_entry}
use Rattle.model.specs.Sessions.{Session}
use Rattle.model.specs.Sizes.{entry_size}
use Rattle.model.specs.Step.{Effect, effect, node_step, unless_fault}
use Rattle.model.specs.StepFaults as model
use Rattle.model.specs.StepFaults.{lacks_dep, step_fault}
use Rattle.model_laws.proofs.PresentNets.{by_one, one_count}
use Rattle.agent_core.specs.Nodes.{NodeState, present_in, session_in, view_in}
use Rattle.agent_core.specs.Steps.{IsDue, step_at}
use Rattle.agent_core.specs.declared.faults.StepFault.{StepFault}
use Rattle.agent_core.specs.declared.faults.StepFault.TheVariants as fault
use Rattle.carry_forward.specs.declared.faults.CarryFault.TheVariants as carry
use Rattle.node_inputs.specs.Traces.{Trace}
use Rattle.node_inputs.specs.declared.ends.NodeEnd.{NodeEnd}
use Rattle.node_inputs.specs.declared.ends.NodeEnd.TheVariants.{Limit}
use Rattle.node_inputs.specs.Inputs.{PassOver}
use Rattle.std.specs.Option.{option_or}
use Rattle.model.specs.Words.{first_of_these}

-- the entry that tells of a file
pub told_entry : (net : Net) (me : ℕ) (V : View) (s : Session) (o : Obj) (i : ℕ)
    → makes net me V s (Input.Local (Fulfil o i)) ≡ Some (next_entry V (Events me) (Fulfilled o i))
unfolding makes own_entry event_of
told_entry net me V s o i = refl

file_fault : (net : Net) (me : ℕ) (V : View) (s : Session) (o : Obj) (i : ℕ) → nat_lt me (node_count net) ≡ true
    → lacks_dep me V (Input.Local (Fulfil o i)) ≡ false
    → step_fault net me V s (Input.Local (Fulfil o i))
    ≡ then_some (nat_lt 4294967295 (1 + length (V (Events me)))) model.StepFault.PlaceSpent
unfolding step_fault makes own_entry event_of entry_size
file_fault net me V s o i inside due = rw (inside, due) (go (nat_lt 4294967295 (1 + length (V (Events me)))))
  where
    go : (b : Bool)
        → option_or
        (first_of_these ((b, model.StepFault.PlaceSpent) ∷ [])) None
        ≡ then_some b model.StepFault.PlaceSpent
    go true = refl
    go false = refl

-- a fault changes nothing
pub passes_quietly : (f : StepFault) (old : NodeState) (trace : Trace) (end : Option NodeEnd) (new : NodeState)
    → PassOver f old trace end new → (trace ≡ []) × (new ≡ old)
passes_quietly fault.NotInNetwork old trace end new h = (h.0, h.2)
passes_quietly fault.NotNeighbour old trace end new h = (h.0, h.2)
passes_quietly fault.NotMaster old trace end new h = (h.0, h.2)
passes_quietly fault.NoProcess old trace end new h = (h.0, h.2)
passes_quietly fault.NoDep old trace end new h = (h.0, h.2)
passes_quietly fault.PlaceSpent old trace end new h = (h.0, h.2)
passes_quietly (fault.Carry c) old trace end new h = (h.0, h.2)
passes_quietly fault.TooLong old trace end new h = (h.0, h.2)
passes_quietly fault.NoMemory old trace end new h = (h.0, h.2)

-- one of this input ends the run
pub record EndsForPlaces (old : NodeState) (trace : Trace) (end : Option NodeEnd) (new : NodeState) : Type 0 where
  pub nothing : trace ≡ []
  pub its_end : end ≡ Some (Limit Places)

module _ (old new : NodeState) (o : Obj) (i : ℕ) (inside : old.me < node_count old.net)
    (due : lacks_dep old.me (view_in old) (Input.Local (Fulfil o i)) ≡ false) where
  inside_present : nat_lt old.me (node_count (present_in old)) ≡ true
  inside_present =
      subst (λ (n : ℕ). nat_lt old.me n ≡ true) (sym (one_count old.net (present_in old) (by_one old.net (view_in old (Events 0)))))
      (lt-ltb old.me (node_count old.net) inside)

  no_other : (f : model.StepFault) → (model.StepFault.PlaceSpent ≡ f → ⊥) → step_at old (Input.Local (Fulfil o i)) ≡ Err f → ⊥
  unfolding node_step
  no_other f other h =
      go (nat_lt 4294967295 (1 + length (view_in old (Events old.me)))) (effect old.net old.me (view_in old) (session_in old) (Input.Local (Fulfil o i)))
      (subst (λ (x : Option model.StepFault). unless_fault x (effect old.net old.me (view_in old) (session_in old) (Input.Local (Fulfil o i))) ≡ Err f)
      (file_fault (present_in old) old.me (view_in old) (session_in old) o i inside_present due) h)
    where
      go : (b : Bool) (d : Effect) → unless_fault (then_some b model.StepFault.PlaceSpent) d ≡ Err f → ⊥
      go true d k = other (inner k)
        where
          inner : unless_fault (Some model.StepFault.PlaceSpent) d ≡ Err f → model.StepFault.PlaceSpent ≡ f
          inner q = cc
      go false d k = cc

  pub only_places : (f : StepFault) (trace : Trace) (end : Option NodeEnd) → (f ≡ fault.NoMemory → ⊥)
      → IsDue old (Input.Local (Fulfil o i)) f → PassOver f old trace end new → EndsForPlaces old trace end new
  only_places fault.PlaceSpent trace end known is h = record { nothing = h.0; its_end = h.1 }
  only_places fault.NotInNetwork trace end known is h = absurd (no_other model.StepFault.NotInNetwork (λ q. cc) is)
  only_places fault.NotNeighbour trace end known is h = absurd (no_other model.StepFault.NotNeighbour (λ q. cc) is)
  only_places fault.NotMaster trace end known is h = absurd (no_other model.StepFault.NotMaster (λ q. cc) is)
  only_places fault.NoProcess trace end known is h = absurd (no_other model.StepFault.NoProcess (λ q. cc) is)
  only_places fault.NoDep trace end known is h = absurd (no_other model.StepFault.NoDep (λ q. cc) is)
  only_places (fault.Carry carry.RunsSpent) trace end known is h =
      absurd (no_other (model.StepFault.Carry model.CarryFault.RunsSpent) (λ q. cc) is)
  only_places (fault.Carry carry.NumbersSpent) trace end known is h =
      absurd (no_other (model.StepFault.Carry model.CarryFault.NumbersSpent) (λ q. cc) is)
  only_places (fault.Carry (carry.PlanFull n)) trace end known is h =
      absurd (no_other (model.StepFault.Carry (model.CarryFault.PlanFull n)) (λ q. cc) is)
  only_places (fault.Carry carry.NoMemory) trace end known is h = absurd is
  only_places fault.TooLong trace end known is h = absurd (no_other model.StepFault.TooLong (λ q. cc) is)
  only_places fault.NoMemory trace end known is h = absurd (known refl)
