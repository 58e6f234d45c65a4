-- What the step of an input at one workstation is in a world, and what it leaves to the others.
use Rattle.std.proofs.Common.{[], ◌++◌, ◌≡◌, ◌≢◌, ◌∙◌, ◌∷◌, ◌⊎◌, ℕ, List, None, Option, Some, ap, append_assoc, false, inl, inr, refl, subst, suc, sym, true, zero}
use Rattle.std.proofs.lemmas.Bool.Decides.{eqb_tells}
use Rattle.std.proofs.lemmas.List.{append-nil}
use Rattle.std.specs.Option.{option_to_list}
use Rattle.std.specs.Prelude.{◌==◌, Ok}
use Rattle.model.specs.Types.{Entry, Input, Local, Net, Packet, Start}
use Rattle.model.specs.Words.{nth}
use Rattle.model.specs.FreeSteps.{recounted}
use Rattle.model.specs.History.{Holding, maker}
use Rattle.model.specs.Kept.{HasKept, only_if}
use Rattle.model.specs.Sessions.{restarted}
use Rattle.model.specs.Step.{Effect, node_step, unless_fault}
use Rattle.model.specs.StepFaults.{StepFault, step_fault}
use Rattle.model.specs.World.{Origin, World, delivery, history_with, packet_input, view_at}
use Rattle.model_laws.proofs.Holdings.{IsKept}
use Rattle.model_laws.proofs.KeptLists.{arrives}
use Rattle.model_laws.proofs.Sends.{same_done}
use Rattle.model_laws.proofs.Steps.{Arrives, MailDone, OwnDone, here, kept_mailed, kept_own, step_of}
use Rattle.agent_core.specs.Nodes.{NodeState, session_in, view_in}
use Rattle.agent_core.specs.Steps.{IsTaken, effect_in, step_at}
use Rattle.agent_core.specs.declared.faults.Step.{Step}
use Rattle.node_inputs.specs.Traces.{Event}
use Rattle.network_runs.specs.Happenings.{Does, made}
use Rattle.network_runs.proofs.Worlds.{IsReached, Moves, deliver_cut, deliver_moves, invariant, take_cut, take_moves}
use Rattle.network_runs.proofs.Members.{IsIn}

-- a world after some steps of one workstation
pub record Grows (net : Net) (x y : World) (w : ℕ) : Type 0 where
  pub reached : IsReached net x → IsReached net y
  pub others : IsReached net x → (v : ℕ) → v ≢ w → (kept : List Entry) → HasKept net x v kept → HasKept net y v kept
  pub sessions_ : (v : ℕ) → v ≢ w → y.sessions v ≡ x.sessions v
  pub more : List Entry
  pub history_ : y.history ≡ x.history ++ more
  pub sent : (a b : ℕ) (p : Packet) → IsIn p (x.packets a b) → IsIn p (y.packets a b)
  pub started : (s : Start) → IsIn s x.starts → IsIn s y.starts

pub grows_not : (net : Net) (x : World) (w : ℕ) → Grows net x x w
grows_not net x w = record {
  reached = λ r. r;
  others = λ r v other kept h. h;
  sessions_ = λ v other. refl;
  more = [];
  history_ = sym (append-nil x.history);
  sent = λ a b p h. h;
  started = λ s h. h;
}

pub grows_on : (net : Net) (x y z : World) (w : ℕ) → Grows net x y w → Grows net y z w → Grows net x z w
grows_on net x y z w g h = record {
  reached = λ r. h.reached (g.reached r);
  others = λ r v other kept k. h.others (g.reached r) v other kept (g.others r v other kept k);
  sessions_ = λ v other. h.sessions_ v other ∙ g.sessions_ v other;
  more = g.more ++ h.more;
  history_ = h.history_ ∙ ap (λ (l : List Entry). l ++ h.more) g.history_ ∙ append_assoc x.history g.more h.more;
  sent = λ a b p k. h.sent a b p (g.sent a b p k);
  started = λ s k. h.started s (g.started s k);
}

more_of : Origin → Option Entry → List Entry
more_of Origin.Own made = option_to_list made
more_of Origin.Mailed made = []

history_more : (o : Origin) (G : List Entry) (m : Option Entry) → history_with o G m ≡ G ++ more_of o m
unfolding more_of
history_more Origin.Own G None = sym (append-nil G)
history_more Origin.Own G (Some e) = refl
history_more Origin.Mailed G None = sym (append-nil G)
history_more Origin.Mailed G (Some e) = sym (append-nil G)

kept_elsewhere : (w v : ℕ) (m : Option Entry) (kept : List Entry) → v ≢ w → kept ++ option_to_list (only_if (v == w) m) ≡ kept
kept_elsewhere w v m kept other = go (eqb_tells v w)
  where
    go : ((v == w) ≡ true) × (v ≡ w) ⊎ ((v == w) ≡ false) × (v ≢ w) → kept ++ option_to_list (only_if (v == w) m) ≡ kept
    go (inl t) = absurd (other t.1)
    go (inr t) = rw t.0 (append-nil kept)

pub kept_here : (w : ℕ) (m : Option Entry) (kept : List Entry) → kept ++ option_to_list (only_if (w == w) m) ≡ kept ++ option_to_list m
kept_here w m kept = go (eqb_tells w w)
  where
    go : ((w == w) ≡ true) × (w ≡ w) ⊎ ((w == w) ≡ false) × (w ≢ w) → kept ++ option_to_list (only_if (w == w) m) ≡ kept ++ option_to_list m
    go (inl t) = rw t.0 refl
    go (inr t) = absurd (t.1 refl)

pub moves_grow : (net : Net) (x y : World) (w : ℕ) (o : Origin) (d : Effect) → Moves net x y w o d → Grows net x y w
moves_grow net x y w o d m = record {
  reached = m.reached;
  others = λ r v other kept h.
      subst (λ (k : List Entry). HasKept net y v k) (kept_elsewhere w v d.made kept other) (m.kept_ v kept (invariant net x r) h);
  sessions_ = m.there;
  more = more_of o d.made;
  history_ = m.history_ ∙ history_more o x.history d.made;
  sent = m.sent;
  started = m.started;
}

-- the node of a workstation holds what that holds in the world, with its session
pub record NodeIn (net : Net) (x : World) (w : ℕ) (node : NodeState) : Type 0 where
  pub net_ : node.net ≡ net
  pub me_ : node.me ≡ w
  pub kept_ : HasKept net x w node.kept
  pub session_ : session_in node ≡ x.sessions w

pub at_node : (net : Net) (x : World) (w : ℕ) (n : NodeState) (input : Input) → NodeIn net x w n
    → step_at n input ≡ node_step net w (view_at x w) (x.sessions w) input
at_node net x w n input h = λ i. node_step (h.net_ i) (h.me_ i) (same i) (h.session_ i) input
  where
    same : view_in n ≡ view_at x w
    same = λ i f. h.kept_.holds_them f i

-- it stands there
pub nth_of_in : {X : Type 0} (x : X) (xs : List X) → IsIn x xs → (k : ℕ) × (nth xs k ≡ Some x)
nth_of_in x [] h = absurd h
nth_of_in x (y ∷ xs) (inl e) = (suc zero, ap Some e)
nth_of_in x (y ∷ xs) (inr h) = go (nth_of_in x xs h)
  where
    go : (k : ℕ) × (nth xs k ≡ Some x) → (k : ℕ) × (nth (y ∷ xs) k ≡ Some x)
    go found = at found.0 found.1
      where
        at : (k : ℕ) → nth xs k ≡ Some x → (k : ℕ) × (nth (y ∷ xs) k ≡ Some x)
        at zero e = cc
        at (suc k) e = (suc (suc k), e)

-- what an input is in the world: it is the node's own, or a packet that was sent to it
abbrev pub IsThere : World → ℕ → Input → Type 0
IsThere x w (Input.Local l) = Unit {0}
IsThere x w (Input.Mail a e) = (k : ℕ) × (delivery x a w k ≡ Some (Input.Mail a e))
IsThere x w (Input.Ack a f n) = (k : ℕ) × (delivery x a w k ≡ Some (Input.Ack a f n))

-- the step of an input is one of the world
pub record Took (net : Net) (x : World) (w : ℕ) (d whole : Effect) : Type 0 where
  pub world : World
  pub origin : Origin
  pub moves : Moves net x world w origin d
  pub keeps : IsKept x.history (x.holdings w) w origin whole.made

own_done : (net : Net) (x : World) (w : ℕ) (l : Local) (d : Effect)
    → node_step net w (view_at x w) (x.sessions w) (Input.Local l) ≡ Ok d → OwnDone net x w d
unfolding node_step
own_done net x w l d e = go (step_fault (here net x w) w (view_at x w) (x.sessions w) (Input.Local l)) refl e
  where
    go : (f : Option StepFault) → step_fault (here net x w) w (view_at x w) (x.sessions w) (Input.Local l) ≡ f
        → unless_fault f (step_of net x w (Input.Local l)) ≡ Ok d → OwnDone net x w d
    go None none same =
        subst (λ (c : Effect). OwnDone net x w c) (same_done (step_of net x w (Input.Local l)) d same) (OwnDone.whole l none)
    go (Some f) none same = cc

mail_done : (net : Net) (x : World) (w : ℕ) (i : Input) (d : Effect) → Arrives x w i
    → node_step net w (view_at x w) (x.sessions w) i ≡ Ok d → MailDone net x w d
unfolding node_step
mail_done net x w i d there e = go (step_fault (here net x w) w (view_at x w) (x.sessions w) i) refl e
  where
    go : (f : Option StepFault) → step_fault (here net x w) w (view_at x w) (x.sessions w) i ≡ f
        → unless_fault f (step_of net x w i) ≡ Ok d → MailDone net x w d
    go None none same =
        subst (λ (c : Effect). MailDone net x w c) (same_done (step_of net x w i) d same) (MailDone.whole i there.0 there.1 none)
    go (Some f) none same = cc

same_delivery : (x : World) (a b k : ℕ) → delivery (recounted x) a b k ≡ delivery x a b k
unfolding packet_input
same_delivery x a b k = refl

delivered : (net : Net) (x : World) (w a k : ℕ) (i : Input) (d : Effect) → delivery x a w k ≡ Some i
    → node_step net w (view_at x w) (x.sessions w) i ≡ Ok d → Took net x w d d
delivered net x w a k i d there e =
    let it = deliver_moves net x a w k i d (same_delivery x a w k ∙ there) e in
    record {
      world = it.0;
      origin = Origin.Mailed;
      moves = it.1;
      keeps = kept_mailed net x w d (mail_done net x w i d (arrives x a w k i there) e);
    }

abbrev pub cut_of : Effect → Effect
cut_of d = record { made = d.made; outs = []; session = restarted }

delivered_cut : (net : Net) (x : World) (w a k : ℕ) (i : Input) (d : Effect) → delivery x a w k ≡ Some i
    → node_step net w (view_at x w) (x.sessions w) i ≡ Ok d → Took net x w (cut_of d) d
delivered_cut net x w a k i d there e =
    let it = deliver_cut net x a w k i d (same_delivery x a w k ∙ there) e in
    record {
      world = it.0;
      origin = Origin.Mailed;
      moves = it.1;
      keeps = kept_mailed net x w d (mail_done net x w i d (arrives x a w k i there) e);
    }

took_by : (net : Net) (x : World) (w : ℕ) (i : Input) (d : Effect) → IsThere x w i
    → node_step net w (view_at x w) (x.sessions w) i ≡ Ok d → Took net x w d d
took_by net x w (Input.Local l) d there e =
    let it = take_moves net x w l d e in
    record { world = it.0; origin = Origin.Own; moves = it.1; keeps = kept_own net x w d (own_done net x w l d e) }
took_by net x w (Input.Mail a m) d there e = delivered net x w a there.0 (Input.Mail a m) d there.1 e
took_by net x w (Input.Ack a f n) d there e = delivered net x w a there.0 (Input.Ack a f n) d there.1 e

cut_by : (net : Net) (x : World) (w : ℕ) (i : Input) (d : Effect) → IsThere x w i
    → node_step net w (view_at x w) (x.sessions w) i ≡ Ok d → Took net x w (cut_of d) d
cut_by net x w (Input.Local l) d there e =
    let it = take_cut net x w l d e in
    record { world = it.0; origin = Origin.Own; moves = it.1; keeps = kept_own net x w d (own_done net x w l d e) }
cut_by net x w (Input.Mail a m) d there e = delivered_cut net x w a there.0 (Input.Mail a m) d there.1 e
cut_by net x w (Input.Ack a f n) d there e = delivered_cut net x w a there.0 (Input.Ack a f n) d there.1 e

-- one step of a node is one free step of the world for which it stands, and it stands again
pub node_takes : (net : Net) (x : World) (w : ℕ) (old new : NodeState) (input : Input) (step : Step) → NodeIn net x w old
    → IsThere x w input → IsTaken old input step new → Took net x w (effect_in step new) (effect_in step new)
node_takes net x w old new input step h there taken =
    took_by net x w input (effect_in step new) there (sym (at_node net x w old input h) ∙ taken.effect)

-- or it stops in that step, and its entry is kept
pub node_cut : (net : Net) (x : World) (w : ℕ) (old new : NodeState) (input : Input) (step : Step) → NodeIn net x w old
    → IsThere x w input → IsTaken old input step new → Took net x w (cut_of (effect_in step new)) (effect_in step new)
node_cut net x w old new input step h there taken =
    cut_by net x w input (effect_in step new) there (sym (at_node net x w old input h) ∙ taken.effect)

pub stands_again : (net : Net) (x y : World) (w : ℕ) (o : Origin) (old new : NodeState) (input : Input) (step : Step)
    → IsReached net x → NodeIn net x w old → IsTaken old input step new → Moves net x y w o (effect_in step new)
    → NodeIn net y w new
stands_again net x y w o old new input step r h taken m = record {
  net_ = taken.net_ ∙ h.net_;
  me_ = taken.me_ ∙ h.me_;
  kept_ =
      subst (λ (k : List Entry). HasKept net y w k) (kept_here w step.kept old.kept ∙ sym taken.kept)
      (m.kept_ w old.kept (invariant net x r) h.kept_);
  session_ = sym m.here;
}

-- the entry that a step keeps is the history's next where the workstation makes it, and else stands there already
pub history_next : (w : ℕ) (o : Origin) (G : List Entry) (held : Holding) (e : Entry) → IsKept G held w o (Some e)
    → history_with o G (Some e) ≡ G ++ made (Does w (Event.Keeps e) ∷ [])
history_next w Origin.Own G held e k = go (eqb_tells (maker e.feed) w)
  where
    go : ((maker e.feed == w) ≡ true) × (maker e.feed ≡ w) ⊎ ((maker e.feed == w) ≡ false) × (maker e.feed ≢ w)
        → G ++ e ∷ [] ≡ G ++ made (Does w (Event.Keeps e) ∷ [])
    go (inl t) = rw t.0 refl
    go (inr t) = absurd (t.1 k.1)
history_next w Origin.Mailed G held e k = go (eqb_tells (maker e.feed) w)
  where
    go : ((maker e.feed == w) ≡ true) × (maker e.feed ≡ w) ⊎ ((maker e.feed == w) ≡ false) × (maker e.feed ≢ w)
        → G ≡ G ++ made (Does w (Event.Keeps e) ∷ [])
    go (inl t) = absurd (k.1 t.1)
    go (inr t) = rw t.0 (sym (append-nil G))
