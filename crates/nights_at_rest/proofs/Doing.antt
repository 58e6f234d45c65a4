-- What an input does in a pass in which nothing comes from outside: its step, what it keeps, and what it sends.
use Rattle.std.proofs.Common.{[], ◌++◌, ◌≡◌, ◌∙◌, ◌∷◌, ◌⊎◌, ℕ, Bool, List, None, Option, Some, ap, false, inl, inr, refl, subst, sym, true}
use Rattle.std.proofs.lemmas.List.{append-nil}
use Rattle.std.specs.List.{AllByRecursion}
use Rattle.std.specs.Option.{option_to_list}
use Rattle.std.specs.Prelude.{if◌then◌else◌}
use Rattle.lemmas.proofs.Booleans.{not_holds}
use Rattle.lemmas.proofs.Lists.{all_left, all_right}
use Rattle.lemmas.proofs.Options.{some_is}
use Rattle.model.specs.Types.{Entry, Input, Launch, Out, Packet, Send}
use Rattle.model.specs.Words.{below}
use Rattle.model.specs.Network.{node_count}
use Rattle.outside.specs.Calls.{Asked, Sent}
use Rattle.mail_frames.specs.declared.frames.Frame.{Frame}
use Rattle.mail_frames.specs.Spelling.{frame_bytes}
use Rattle.agent_core.specs.Nodes.{NodeState}
use Rattle.agent_core.specs.Steps.{IsTaken}
use Rattle.agent_core.specs.declared.faults.Step.{Step}
use Rattle.agent_core.specs.declared.faults.StepFault.{StepFault}
use Rattle.agent_core.specs.declared.faults.StepFault.TheVariants as fault
use Rattle.node_inputs.specs.Actions.{Both, Each, If, IfThere, Nothing, Then}
use Rattle.node_inputs.specs.Inputs.{Carried, Carry, CarryOut, Follow, Give, IsKeeping, Keep, LoseAll, LoseIf, PassOver, Raise, RaiseNew, SendFrame, Take as TakeIt, Tell, carried_with, frame_of, is_new_neighbour, nothing_carried}
use Rattle.node_inputs.specs.Traces.{Event, Trace, kept}
use Rattle.node_inputs.proofs.Fronts.{kept-append}
use Rattle.network_runs.proofs.Members.{IsIn, in_either, in_left, in_right}
use Rattle.network_runs.proofs.Stories.{Brings}
use Rattle.nights_at_rest.specs.NodeRounds.{is_given_by, is_inside}
use Rattle.nights_at_rest.proofs.StillParts.{PassedOver, both_of, no_end, not_still, passes_over, wanted}

abbrev pub AreInside : ℕ → Trace → Type 0
AreInside w trace = AllByRecursion (λ event. is_inside w event ≡ true) trace

pub front_in : (w : ℕ) (trace front back : Trace) → trace ≡ front ++ back → AreInside w trace → AreInside w front
front_in w trace front back split each =
    all_left (λ event. is_inside w event ≡ true) front back (subst (AreInside w) split each)

pub back_in : (w : ℕ) (trace front back : Trace) → trace ≡ front ++ back → AreInside w trace → AreInside w back
back_in w trace front back split each =
    all_right (λ event. is_inside w event ≡ true) front back (subst (AreInside w) split each)

-- a node sends all these outputs of which it has the frames, and nothing else
pub record Sendings (node : NodeState) (outs : List Out) (trace : Trace) : Type 0 where
  pub all_sent : (to : ℕ) (p : Packet) (f : Frame) → IsIn (Send to p) outs → frame_of node p ≡ Some f
      → IsIn (Event.Sends (record { to = to; bytes = frame_bytes f; ok = true })) trace
  pub only : (call : Sent) → IsIn (Event.Sends call) trace → Brings node outs call

pub sendings_none : (node : NodeState) → Sendings node [] []
sendings_none node = record { all_sent = λ to p f given is. absurd given; only = λ call among. absurd among }

brings_more : (node : NodeState) (xs ys : List Out) (call : Sent) → ((o : Out) → IsIn o xs → IsIn o ys) → Brings node xs call
    → Brings node ys call
brings_more node xs ys call within b =
    record { packet = b.packet; given = within _ b.given; frame_ = b.frame_; is = b.is; bytes_ = b.bytes_ }

pub sendings_joined : (node : NodeState) (xs ys : List Out) (front back : Trace) → Sendings node xs front → Sendings node ys back
    → Sendings node (xs ++ ys) (front ++ back)
sendings_joined node xs ys front back g h = record {
  all_sent = λ to p f given is.
      elim (in_either (Send to p) xs ys given) [
        | inl k ↦ in_left _ front back (g.all_sent to p f k is)
        | inr k ↦ in_right _ front back (h.all_sent to p f k is)
      ];
  only = λ call among.
      elim (in_either (Event.Sends call) front back among) [
        | inl k ↦ brings_more node xs (xs ++ ys) call (λ o i. in_left o xs ys i) (g.only call k)
        | inr k ↦ brings_more node ys (xs ++ ys) call (λ o i. in_right o xs ys i) (h.only call k)
      ];
}

-- and keeps nothing
pub record Outputs (node : NodeState) (outs : List Out) (trace : Trace) : Type 0 where
  pub keeps_none : kept trace ≡ []
  pub sends : Sendings node outs trace

kept_joined : (front back : Trace) (xs ys : List Entry) → kept front ≡ xs → kept back ≡ ys → kept (front ++ back) ≡ xs ++ ys
kept_joined front back xs ys p q = kept-append front back ∙ (λ i. p i ++ q i)

outputs_joined : (node : NodeState) (xs ys : List Out) (front back : Trace) → Outputs node xs front → Outputs node ys back
    → Outputs node (xs ++ ys) (front ++ back)
outputs_joined node xs ys front back g h = record {
  keeps_none = kept_joined front back [] [] g.keeps_none h.keeps_none;
  sends = sendings_joined node xs ys front back g.sends h.sends;
}

pub outputs_none : (node : NodeState) (trace : Trace) → trace ≡ [] → Outputs node [] trace
outputs_none node trace none =
    subst (Outputs node []) (sym none) (record { keeps_none = refl; sends = sendings_none node })

-- one event that keeps nothing and sends nothing
pub plain : (node : NodeState) (event : Event) → kept (event ∷ []) ≡ [] → ((call : Sent) → event ≡ Event.Sends call → ⊥)
    → Outputs node [] (event ∷ [])
plain node event keeps sends = record {
  keeps_none = keeps;
  sends = record { all_sent = λ to p f given is. absurd given; only = λ call among. other call among };
}
  where
    other : (call : Sent) → IsIn (Event.Sends call) (event ∷ []) → Brings node [] call
    other call (inl e) = absurd (sends call e)
    other call (inr none) = absurd none

no_kill : (j n : ℕ) (call : Sent) → Event.Kills j n ≡ Event.Sends call → ⊥
no_kill j n call q = cc

pub no_ask : (a : Asked) (call : Sent) → Event.Asks a ≡ Event.Sends call → ⊥
no_ask a call q = cc

-- what it gives beside packets
unsent : (node : NodeState) (o : Out) (trace : Trace) → ((to : ℕ) (p : Packet) → o ≡ Send to p → ⊥) → Outputs node [] trace
    → Outputs node (o ∷ []) trace
unsent node o trace other h = record {
  keeps_none = h.keeps_none;
  sends = record {
    all_sent = λ to p f given is. none to p given;
    only = λ call among. brings_more node [] (o ∷ []) call (λ o k. absurd k) (h.sends.only call among);
  };
}
  where
    none : {P : Type 0} (to : ℕ) (p : Packet) → IsIn (Send to p) (o ∷ []) → P
    none to p (inl e) = absurd (other to p e)
    none to p (inr k) = absurd k

no_send : (j n to : ℕ) (p : Packet) → Out.Kill j n ≡ Send to p → ⊥
no_send j n to p q = cc

same_packet : {x to : ℕ} {p q : Packet} → Send x p ≡ Send to q → (x ≡ to) × (p ≡ q)
same_packet e = (cc, cc)

same_call : {a b : Sent} → Event.Sends a ≡ Event.Sends b → a ≡ b
same_call e = cc

-- a packet is sent, if its frame is there
module _ (w : ℕ) (node : NodeState) (x : ℕ) (p : Packet) where
  lacked : frame_of node p ≡ None → Outputs node (Send x p ∷ []) []
  lacked lacks = record {
    keeps_none = refl;
    sends = record { all_sent = λ to q f given is. none to q f given is; only = λ call among. absurd among };
  }
    where
      none : (to : ℕ) (q : Packet) (f : Frame) → IsIn (Send to q) (Send x p ∷ []) → frame_of node q ≡ Some f
          → IsIn (Event.Sends (record { to = to; bytes = frame_bytes f; ok = true })) []
      none to q f (inl e) is = clash (sym lacks ∙ ap (frame_of node) (same_packet e).1 ∙ is)
        where
          clash : None ≡ Some f → ⊥
          clash c = cc
      none to q f (inr k) is = k

  framed : (f : Frame) → frame_of node p ≡ Some f
      → Outputs node (Send x p ∷ []) (Event.Sends (record { to = x; bytes = frame_bytes f; ok = true }) ∷ [])
  framed f has = record {
    keeps_none = refl;
    sends = record { all_sent = λ to q g given is. all to q g given is; only = λ call among. only call among };
  }
    where
      all : (to : ℕ) (q : Packet) (g : Frame) → IsIn (Send to q) (Send x p ∷ []) → frame_of node q ≡ Some g
          → IsIn (Event.Sends (record { to = to; bytes = frame_bytes g; ok = true }))
          (Event.Sends (record { to = x; bytes = frame_bytes f; ok = true }) ∷ [])
      all to q g (inl e) is =
          let at : x ≡ to = (same_packet e).0 in
          let its : f ≡ g = some_is (sym has ∙ ap (frame_of node) (same_packet e).1 ∙ is) in
          inl (λ i. Event.Sends (record { to = at i; bytes = frame_bytes (its i); ok = true }))
      all to q g (inr k) is = absurd k

      only : (call : Sent) → IsIn (Event.Sends call) (Event.Sends (record { to = x; bytes = frame_bytes f; ok = true }) ∷ [])
          → Brings node (Send x p ∷ []) call
      only call (inl e) = record {
        packet = p;
        given = inl (ap (λ (c : Sent). Send c.to p) (same_call e));
        frame_ = f;
        is = has;
        bytes_ = ap (λ (c : Sent). c.bytes) (sym (same_call e));
      }
      only call (inr k) = absurd k

  sent : (o : Option Frame) → frame_of node p ≡ o → (trace : Trace) (new : Carried) → AreInside w trace
      → IfThere o (SendFrame x) Nothing nothing_carried trace None new
      → Outputs node (Send x p ∷ []) trace × (new ≡ nothing_carried)
  sent None is trace new each h = (subst (Outputs node (Send x p ∷ [])) (sym h.0) (lacked is), h.2)
  sent (Some f) is trace new each h = go h.0 (subst (AreInside w) h.1 each).0 h.1 h.3
    where
      go : (ok : Bool) → ok ≡ true → trace ≡ Event.Sends (record { to = x; bytes = frame_bytes f; ok = ok }) ∷ []
          → new ≡ carried_with (if ok then [] else x ∷ []) None
          → Outputs node (Send x p ∷ []) trace × (new ≡ nothing_carried)
      go true yes_ split becomes = (subst (Outputs node (Send x p ∷ [])) (sym split) (framed f is), becomes)
      go false no_ split becomes = not_still no_

-- all outputs are carried out, and nothing is lost or started
one_carried : (w : ℕ) (node : NodeState) (o : Out) (trace : Trace) (new : Carried) → AreInside w trace
    → CarryOut node o nothing_carried trace None new → Outputs node (o ∷ []) trace × (new ≡ nothing_carried)
one_carried w node (Launch j n work) trace new each h = not_still (subst (AreInside w) h.1 each).0
one_carried w node (Out.Kill j n) trace new each h = (
  subst (Outputs node (Out.Kill j n ∷ [])) (sym h.0)
      (unsent node (Out.Kill j n) (Event.Kills j n ∷ []) (no_send j n) (plain node (Event.Kills j n) refl (no_kill j n))),
  h.2,
)
one_carried w node (Send x p) trace new each h =
    sent w node x p (frame_of node p) refl trace new each
    (wanted (IfThere (frame_of node p) (SendFrame x) Nothing) nothing_carried trace new h)

all_carried : (w : ℕ) (node : NodeState) (outs : List Out) (trace : Trace) (new : Carried) → AreInside w trace
    → Each (CarryOut node) outs nothing_carried trace None new → Outputs node outs trace × (new ≡ nothing_carried)
all_carried w node [] trace new each h = (outputs_none node trace h.0, h.2)
all_carried w node (o ∷ os) trace new each h =
    let b = both_of (CarryOut node o) (Each (CarryOut node) os) nothing_carried trace new h in
    let first = one_carried w node o b.front b.middle (front_in w trace b.front b.back b.split each) b.begins in
    let rest = all_carried w node os b.back new (back_in w trace b.front b.back b.split each)
    (subst (λ (m : Carried). Each (CarryOut node) os m b.back None new) first.1 b.goes_on) in
    (subst (Outputs node (o ∷ os)) (sym b.split) (outputs_joined node (o ∷ []) os b.front b.back first.0 rest.0), rest.1)

none_lost : (xs : List ℕ) (old : NodeState) (trace : Trace) (new : NodeState) → Each (LoseIf []) xs old trace None new
    → (trace ≡ []) × (new ≡ old)
none_lost [] old trace new h = (h.0, h.2)
none_lost (x ∷ xs) old trace new h =
    let b = both_of (LoseIf [] x) (Each (LoseIf []) xs) old trace new h in
    let rest = none_lost xs b.middle b.back new b.goes_on in
    (b.split ∙ (λ i. b.begins.0 i ++ rest.0 i), rest.1 ∙ b.begins.2)

-- links to new neighbours are asked for
raised : (w : ℕ) (node before now : NodeState) (ws : List ℕ) (old : NodeState) (trace : Trace) (new : NodeState)
    → Each (RaiseNew before now) ws old trace None new → Outputs node [] trace × (new ≡ old)
raised w node before now [] old trace new h = (outputs_none node trace h.0, h.2)
raised w node before now (v ∷ ws) old trace new h =
    let b = both_of (RaiseNew before now v) (Each (RaiseNew before now) ws) old trace new h in
    let first = one (is_new_neighbour before now v) b.front b.middle b.begins in
    let rest = raised w node before now ws b.middle b.back new b.goes_on in
    (subst (Outputs node []) (sym b.split) (outputs_joined node [] [] b.front b.back first.0 rest.0), rest.1 ∙ first.1)
  where
    one : (c : Bool) (front : Trace) (middle : NodeState)
        → If c (λ o t e n. (t ≡ Event.Asks (Asked.Raise v) ∷ []) × (e ≡ None) × (n ≡ o)) Nothing old front None middle
        → Outputs node [] front × (middle ≡ old)
    one true front middle k = (
      subst (Outputs node []) (sym k.0) (plain node (Event.Asks (Asked.Raise v)) refl (no_ask (Asked.Raise v))),
      k.2,
    )
    one false front middle k = (outputs_none node front k.0, k.2)

-- an input that is taken: its step leads here, and the trace has what it keeps, which is no order of w's own, and sends
pub record TakenIn (w : ℕ) (input : Input) (old : NodeState) (trace : Trace) (new : NodeState) : Type 0 where
  pub step_ : Step
  pub taken : IsTaken old input step_ new
  pub keeps : kept trace ≡ option_to_list step_.kept
  pub not_own : (e : Entry) → step_.kept ≡ Some e → is_given_by w e.feed ≡ false
  pub sends : Sendings new step_.outs trace

-- or refused, and nothing happens
pub record PassedIn (input : Input) (old : NodeState) (trace : Trace) (new : NodeState) : Type 0 where
  pub over : PassedOver input old new
  pub silent : trace ≡ []

pub silently : (f : StepFault) (old : NodeState) (trace : Trace) (new : NodeState) → PassOver f old trace None new → trace ≡ []
silently fault.NotInNetwork old trace new h = h.0
silently fault.NotNeighbour old trace new h = h.0
silently fault.NotMaster old trace new h = h.0
silently fault.NoProcess old trace new h = h.0
silently fault.NoDep old trace new h = h.0
silently fault.PlaceSpent old trace new h = h.0
silently (fault.Carry c) old trace new h = h.0
silently fault.TooLong old trace new h = h.0
silently fault.NoMemory old trace new h = h.0

-- what is kept of a step
record KeptIn (w : ℕ) (node : NodeState) (m : Option Entry) (front : Trace) : Type 0 where
  pub keeps : kept front ≡ option_to_list m
  pub not_own : (e : Entry) → m ≡ Some e → is_given_by w e.feed ≡ false
  pub sends : Sendings node [] front

kept_first : (w : ℕ) (node : NodeState) (m : Option Entry) (front : Trace) → AreInside w front → IsKeeping m front None
    → KeptIn w node m front
kept_first w node None front each h = record {
  keeps = ap kept h.0;
  not_own = λ e is. clash e is;
  sends = subst (Sendings node []) (sym h.0) (sendings_none node);
}
  where
    clash : {P : Type 0} (e : Entry) → None ≡ Some e → P
    clash e q = cc
kept_first w node (Some e) front each (inl h) = record {
  keeps = ap kept h.0;
  not_own = λ d is.
      subst (λ (c : Entry). is_given_by w c.feed ≡ false) (some_is is) (not_holds (is_given_by w e.feed) (subst (AreInside w) h.0 each).0);
  sends = subst (Sendings node []) (sym h.0) (record {
    all_sent = λ to p f given is. absurd given;
    only = λ call among. other call among;
  });
}
  where
    other : (call : Sent) → IsIn (Event.Sends call) (Event.Keeps e ∷ []) → Brings node [] call
    other call (inl q) = cc
    other call (inr none) = absurd none
kept_first w node (Some e) front each (inr (inl h)) = no_end h.3
kept_first w node (Some e) front each (inr (inr h)) = no_end h.1

followed : (w : ℕ) (before : NodeState) (step_ : Step) (old : NodeState) (trace : Trace) (new : NodeState) → AreInside w trace
    → Follow before step_ old trace None new → Outputs old step_.outs trace × (new ≡ old)
followed w before step_ old trace new each h = go (both_of (Raise before) (Give step_.outs) old trace new h)
  where
    given : (now : NodeState) (rest : Trace) → AreInside w rest → Give step_.outs now rest None new
        → Outputs now step_.outs rest × (new ≡ now)
    given now rest inside (inr g) = no_end g.for_want_of_memory
    given now rest inside (inl g) =
        let done = all_carried w now step_.outs g.front g.carried (front_in w rest g.front g.back g.split inside) g.carries in
        let follows : Then (Tell None) (LoseAll []) now g.back None new =
        subst (λ (c : Carried). Then (Tell c.started) (LoseAll c.lost) now g.back None new) done.1 g.follows in
        let b = both_of (Tell None) (LoseAll []) now g.back new follows in
        let lost = none_lost (below (node_count b.middle.net)) b.middle b.back new b.goes_on in
        let silent : g.back ≡ [] = b.split ∙ (λ i. b.begins.0 i ++ lost.0 i) in (
          subst (Outputs now step_.outs) (sym (g.split ∙ ap (λ (t : Trace). g.front ++ t) silent))
              (subst (λ (os : List Out). Outputs now os (g.front ++ [])) (append-nil step_.outs)
              (outputs_joined now step_.outs [] g.front [] done.0 (outputs_none now [] refl))),
          lost.1 ∙ b.begins.2,
        )

    go : Both (Raise before) (Give step_.outs) old trace None new → Outputs old step_.outs trace × (new ≡ old)
    go b =
        let asked = raised w old before old (below (node_count old.net)) old b.front b.middle b.begins in
        let rest = given b.middle b.back (back_in w trace b.front b.back b.split each) b.goes_on in (
          subst (Outputs old step_.outs) (sym b.split)
              (outputs_joined old [] step_.outs b.front b.back asked.0
              (subst (λ (n : NodeState). Outputs n step_.outs b.back) asked.1 rest.0)),
          rest.1 ∙ asked.1,
        )

pub take_inside : (w : ℕ) (input : Input) (old : NodeState) (trace : Trace) (new : NodeState) → AreInside w trace
    → TakeIt input old trace None new → TakenIn w input old trace new ⊎ PassedIn input old trace new
take_inside w input old trace new each (inr stop) = no_end stop.1
take_inside w input old trace new each (inl (inr r)) =
    inr (record { over = passes_over input r.0 old trace new r.1 r.2 r.3; silent = silently r.0 old trace new r.3 })
take_inside w input old trace new each (inl (inl t)) =
    let b = both_of (Keep t.step.kept) (Follow old t.step) t.after trace new t.acts in
    let rest = followed w old t.step b.middle b.back new (back_in w trace b.front b.back b.split each) b.goes_on in
    let here : new ≡ t.after = rest.1 ∙ b.begins.1 in
    let first = kept_first w b.middle t.step.kept b.front (front_in w trace b.front b.back b.split each) b.begins.0 in
    inl (record {
      step_ = t.step;
      taken = subst (λ (n : NodeState). IsTaken old input t.step n) (sym here) t.taken;
      keeps =
          ap kept b.split ∙ kept_joined b.front b.back (option_to_list t.step.kept) [] first.keeps rest.0.keeps_none
          ∙ append-nil (option_to_list t.step.kept);
      not_own = first.not_own;
      sends =
          subst (Sendings new t.step.outs) (sym b.split)
          (subst (λ (n : NodeState). Sendings n t.step.outs (b.front ++ b.back)) (sym rest.1)
          (sendings_joined b.middle [] t.step.outs b.front b.back first.sends rest.0.sends));
    })
