-- The faults of a step, one behind the other, and its effect where none applies.
use Rattle.std.proofs.Common.{◌≡◌, ◌∷◌, ◌∙◌, ◌+◌, ◌++◌, ℕ, Bool, Err, List, None, Ok, Option, Result, Some, ap, false}
use Rattle.std.proofs.Common.{length, refl, sym, true}
use Rattle.std.specs.List.{list_all}
use Rattle.std.specs.Option.{option_to_list}
use Rattle.std.specs.Prelude.{◌&&◌, ◌==◌, nat_lt, not}
use Rattle.lemmas.proofs.Numbers.{one_plus}
use Rattle.model.specs.Types.{Body, Entry, Feed, Input, Net, Out}
use Rattle.model.specs.Words.{some_is}
use Rattle.model.specs.Network.{node_count}
use Rattle.model.specs.History.{View, list_of, view_of, view_with}
use Rattle.model.specs.PresentNet.{present_net}
use Rattle.model.specs.Workstations.{peer_of, ws_in}
use Rattle.model.specs.Sessions.{Session, next_session}
use Rattle.model.specs.NewEntry.{next_entry}
use Rattle.model.specs.Step.{Effect, effect, node_step, outs_of}
use Rattle.model.specs.StepFaults as model
use Rattle.model.specs.StepFaults.{is_next, is_place_spent, is_too_long, lacks_dep, lacks_process, plan_fault, step_fault}
use Rattle.agent_core.specs.Nodes.{NodeState, present_in, session_in, view_in}
use Rattle.agent_core.specs.Steps.{IsKept, IsOwnEntry, IsTaken, due}
use Rattle.agent_core.specs.Steps.{made_by, step_at}
use Rattle.agent_core.specs.declared.faults.StepFault.{StepFault}
use Rattle.agent_core.specs.declared.faults.StepFault.TheVariants.{Carry, NoDep, NoMemory, NoProcess, NotInNetwork}
use Rattle.agent_core.specs.declared.faults.StepFault.TheVariants.{NotMaster, NotNeighbour, PlaceSpent, TooLong}
use Rattle.agent_core.proofs.Holding.{view_later}

-- what is tested of an input, in order
abbrev pub inside : NodeState → Input → Bool
inside n i = list_all (λ w. nat_lt w (node_count (present_in n))) (n.me ∷ ws_in i)

abbrev pub to_itself : NodeState → Input → Bool
to_itself n i = some_is (peer_of i) n.me

abbrev pub misses_master : NodeState → Input → Bool
misses_master n i = is_next i && not (n.me == 0)

pub outside_net : (n : NodeState) (i : Input) → inside n i ≡ false → step_at n i ≡ Err model.StepFault.NotInNetwork
unfolding node_step step_fault
outside_net n i e = rw e refl

pub not_near : (n : NodeState) (i : Input) → inside n i ≡ true → to_itself n i ≡ true
    → step_at n i ≡ Err model.StepFault.NotNeighbour
unfolding node_step step_fault
not_near n i e f = rw (e, f) refl

pub not_master : (n : NodeState) (i : Input) → inside n i ≡ true → to_itself n i ≡ false → misses_master n i ≡ true
    → step_at n i ≡ Err model.StepFault.NotMaster
unfolding node_step step_fault
not_master n i e f g = rw (e, f, g) refl

pub not_running : (n : NodeState) (i : Input) → inside n i ≡ true → to_itself n i ≡ false → misses_master n i ≡ false
    → lacks_process n.live i ≡ true → step_at n i ≡ Err model.StepFault.NoProcess
unfolding node_step step_fault
not_running n i e f g h = rw (e, f, g, h) refl

pub not_waiting : (n : NodeState) (i : Input) → inside n i ≡ true → to_itself n i ≡ false → misses_master n i ≡ false
    → lacks_process n.live i ≡ false → lacks_dep n.me (view_in n) i ≡ true → step_at n i ≡ Err model.StepFault.NoDep
unfolding node_step step_fault
not_waiting n i e f g h k = rw (e, f, g, h, k) refl

-- an input that no fault before a spent place meets
pub record Passes (n : NodeState) (i : Input) : Type 0 where
  pub inside_ : inside n i ≡ true
  pub other : to_itself n i ≡ false
  pub master : misses_master n i ≡ false
  pub runs : lacks_process n.live i ≡ false
  pub waits : lacks_dep n.me (view_in n) i ≡ false

pub place_spent : (n : NodeState) (i : Input) → Passes n i → is_place_spent (view_in n) (made_by n i) ≡ true
    → step_at n i ≡ Err model.StepFault.PlaceSpent
unfolding node_step step_fault
place_spent n i p l = rw (p.inside_, p.other, p.master, p.runs, p.waits, l) refl

pub no_plan : (n : NodeState) (i : Input) (f : model.CarryFault) → Passes n i
    → is_place_spent (view_in n) (made_by n i) ≡ false → plan_fault (present_in n) (view_in n) i ≡ Some f
    → step_at n i ≡ Err (model.StepFault.Carry f)
unfolding node_step step_fault
no_plan n i f p l m = rw (p.inside_, p.other, p.master, p.runs, p.waits, l, m) refl

pub too_long : (n : NodeState) (i : Input) → Passes n i → is_place_spent (view_in n) (made_by n i) ≡ false
    → plan_fault (present_in n) (view_in n) i ≡ None → is_too_long (made_by n i) ≡ true
    → step_at n i ≡ Err model.StepFault.TooLong
unfolding node_step step_fault
too_long n i p l m o = rw (p.inside_, p.other, p.master, p.runs, p.waits, l, m, o) refl

pub no_fault : (n : NodeState) (i : Input) → Passes n i → is_place_spent (view_in n) (made_by n i) ≡ false
    → plan_fault (present_in n) (view_in n) i ≡ None → is_too_long (made_by n i) ≡ false
    → step_at n i ≡ Ok (due n i)
unfolding node_step step_fault
no_fault n i p l m o = rw (p.inside_, p.other, p.master, p.runs, p.waits, l, m, o) refl

-- the next entry of a feed of the node's own is what an input keeps
pub own_kept : (n : NodeState) (i : Input) (f : Feed) (b : Body) (r : Result Entry StepFault) → Passes n i
    → plan_fault (present_in n) (view_in n) i ≡ None → made_by n i ≡ Some (next_entry (view_in n) f b)
    → IsOwnEntry (view_in n) f b r → IsKept n i r
own_kept n i f b (Ok e) p m k h =
    let made : made_by n i ≡ Some e = k ∙ ap (λ (d : Entry). Some d) (sym h.0) in
    record {
      passed =
          no_fault n i p (ap (is_place_spent (view_in n)) made ∙ h.1.0) m (ap is_too_long made ∙ h.1.1);
      made = made;
      next =
          ap (λ (d : Entry). d.place) h.0 ∙ one_plus (length (list_of n.kept f))
          ∙ ap (λ (d : Entry). length (list_of n.kept d.feed) + 1) (sym h.0);
    }
own_kept n i f b (Err PlaceSpent) p m k h = place_spent n i p (ap (is_place_spent (view_in n)) k ∙ h)
own_kept n i f b (Err TooLong) p m k h =
    too_long n i p (ap (is_place_spent (view_in n)) k ∙ h.0) m (ap is_too_long k ∙ h.1)
own_kept n i f b (Err NotInNetwork) p m k h = absurd h
own_kept n i f b (Err NotNeighbour) p m k h = absurd h
own_kept n i f b (Err NotMaster) p m k h = absurd h
own_kept n i f b (Err NoProcess) p m k h = absurd h
own_kept n i f b (Err NoDep) p m k h = absurd h
own_kept n i f b (Err (Carry c)) p m k h = absurd h
own_kept n i f b (Err NoMemory) p m k h = absurd h

-- what is due where this is made
abbrev pub effect_with : NodeState → Input → Option Entry → Effect
effect_with n i made =
    let later = view_with (view_in n) made in
    let after = next_session (view_in n) (session_in n) i made in
    record { made = made; outs = outs_of (present_net n.net later) n.me later after i made; session = after }

due_with : (n : NodeState) (i : Input) (made : Option Entry) → made_by n i ≡ made → due n i ≡ effect_with n i made
unfolding effect
due_with n i made h = ap (effect_with n i) h

-- the node after a step
pub record Follows (old : NodeState) (i : Input) (made : Option Entry) (outs : List Out) (new : NodeState) : Type 0 where
  pub kept_ : new.kept ≡ old.kept ++ option_to_list made
  pub net_ : new.net ≡ old.net
  pub me_ : new.me ≡ old.me
  pub session_ : next_session (view_in old) (session_in old) i made ≡ session_in new
  pub outs_ : outs_of (present_in new) new.me (view_in new) (session_in new) i made ≡ outs

view_after : (old new : NodeState) (made : Option Entry) → new.kept ≡ old.kept ++ option_to_list made
    → view_with (view_in old) made ≡ view_in new
view_after old new made h = sym (view_later old.kept made) ∙ ap view_of (sym h)

outs_after : (old new : NodeState) (i : Input) (made : Option Entry) (outs : List Out) → Follows old i made outs new
    → (effect_with old i made).outs ≡ outs
outs_after old new i made outs h =
    let after : Session = next_session (view_in old) (session_in old) i made in
    ap (λ (W : View). outs_of (present_net old.net W) old.me W after i made) (view_after old new made h.kept_)
    ∙ ap (λ (s : Session). outs_of (present_net old.net (view_in new)) old.me (view_in new) s i made) h.session_
    ∙ ap (λ (net : Net). outs_of (present_net net (view_in new)) old.me (view_in new) (session_in new) i made) (sym h.net_)
    ∙ ap (λ (me : ℕ). outs_of (present_in new) me (view_in new) (session_in new) i made) (sym h.me_)
    ∙ h.outs_

-- a step without a fault, whose node is as the definitions have it
pub step_taken : (old new : NodeState) (i : Input) (made : Option Entry) (outs : List Out)
    → step_at old i ≡ Ok (due old i) → made_by old i ≡ made → Follows old i made outs new
    → IsTaken old i (record { kept = made; outs = outs }) new
step_taken old new i made outs passed is h =
    record {
      effect =
          passed ∙ ap (λ (d : Effect). Ok d) (due_with old i made is)
          ∙ λ k. Ok (record {
            made = made;
            outs = outs_after old new i made outs h k;
            session = h.session_ k;
          });
      kept = h.kept_;
      net_ = h.net_;
      me_ = h.me_;
    }
