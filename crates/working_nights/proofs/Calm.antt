-- A pass in which the node keeps no entry of its own: what was told in it changed nothing, so it could have been one in
-- which nothing was told.
use Rattle.std.proofs.Common.{[], ◌++◌, ◌≡◌, ◌∙◌, ◌∷◌, ℕ, Bool, List, None, Option, Some, ap, false, inl, inr, refl, subst, sym, true}
use Rattle.std.specs.List.{AllByRecursion}
use Rattle.std.specs.Prelude.{if◌then◌else◌, ◌&&◌, filter, flat_map, length, map, not, option_map}
use Rattle.lemmas.proofs.Lists.{all_append}
use Rattle.lemmas.proofs.Options.{some_is}
use Rattle.lemmas.proofs.Numbers.{eq_refused}
use Rattle.model.specs.Types.{Ack, Body, Entry, Events, Feed, Input, Launch, Local, Mail, Net, Orders, Out, Packet, Send, Turn}
use Rattle.model.specs.Words.{below}
use Rattle.model.specs.Network.{are_neighbours, node_count}
use Rattle.model.specs.Forwarding.{to_send}
use Rattle.model.specs.History.{View, maker, view_with}
use Rattle.model.specs.NewEntry.{event_of, makes, next_entry, own_entry}
use Rattle.model.specs.PresentNet.{present_net}
use Rattle.model.specs.Sessions.{Session, next_session}
use Rattle.model.specs.Step.{Effect, effect, outs_of, sends}
use Rattle.model.specs.Turn.{turn_body}
use Rattle.outside.specs.Calls.{Asked}
use Rattle.outside.specs.declared.links.Arrival.{Arrival}
use Rattle.outside.specs.declared.links.Arrival.TheVariants as arrival
use Rattle.mail_frames.specs.declared.frames.Frame.{Frame}
use Rattle.agent_core.specs.Nodes.{NodeState, session_in, view_in}
use Rattle.agent_core.specs.Steps.{IsTaken, effect_in}
use Rattle.agent_core.specs.declared.faults.Step.{Step}
use Rattle.node_inputs.specs.Actions.{Action, Both, Each, If, IfThere, Nothing, Then, Wants}
use Rattle.node_inputs.specs.Inputs.{Carried, CarryOut, IsKeeping, Keep, SendFrame, frame_of, is_lost, nothing_carried}
use Rattle.node_inputs.specs.Traces.{Event, Trace, kept}
use Rattle.node_inputs.specs.declared.ends.NodeEnd.{NodeEnd}
use Rattle.node_inputs.proofs.Fronts.{kept-append}
use Rattle.run_laws.proofs.Rules.{Gives, IsJoined}
use Rattle.run_laws.proofs.Taking.{GivesOut, IsAsk, IsEffect, IsRule, Steps, its_effect}
use Rattle.network_runs.proofs.Members.{IsIn, in_either, in_left, in_right}
use Rattle.nights_at_rest.specs.NodeRounds.{is_given_by, is_inside}
use Rattle.nights_at_rest.proofs.Doing.{AreInside}
use Rattle.nights_at_rest.proofs.StillParts.{both_of, no_end, not_still, wanted}
use Rattle.working_nights.specs.Passes.{is_working}
use Rattle.working_nights.proofs.Working.{AreWorking, back_works, front_works}

-- none of these is of w's making
abbrev pub NoOwn : ℕ → List Entry → Type 0
NoOwn w es = (e : Entry) → IsIn e es → maker e.feed ≡ w → ⊥

not_given : (w : ℕ) (f : Feed) → (maker f ≡ w → ⊥) → not (is_given_by w f) ≡ true
not_given w (Events v) other = refl
not_given w (Orders a b) other = rw (eq_refused a w other) refl

pub front_none : (w : ℕ) (trace front back : Trace) → trace ≡ front ++ back → NoOwn w (kept trace) → NoOwn w (kept front)
front_none w trace front back split none e k is =
    none e (subst (λ (t : Trace). IsIn e (kept t)) (sym split)
    (subst (IsIn e) (sym (kept-append front back)) (in_left e (kept front) (kept back) k))) is

pub back_none : (w : ℕ) (trace front back : Trace) → trace ≡ front ++ back → NoOwn w (kept trace) → NoOwn w (kept back)
back_none w trace front back split none e k is =
    none e (subst (λ (t : Trace). IsIn e (kept t)) (sym split)
    (subst (IsIn e) (sym (kept-append front back)) (in_right e (kept front) (kept back) k))) is

abbrev IsLaunch : Out → Type 0
IsLaunch (Launch i m work) = Unit {0}
IsLaunch _ = ⊥

-- a launch goes out of a turn that keeps one
module _ (net : Net) (me : ℕ) where
  none_mapped : {X : Type 0} (m : ℕ) (g : X → Packet) (xs : List X) (o : Out) → IsIn o (map (λ x. Send m (g x)) xs) → IsLaunch o → ⊥
  none_mapped m g [] o h is = h
  none_mapped m g (x ∷ xs) o (inl e) is = subst IsLaunch (sym e) is
  none_mapped m g (x ∷ xs) o (inr h) is = none_mapped m g xs o h is

  none_sent : {X : Type 0} (g : X → Packet) (f : ℕ → List X) (ms : List ℕ) (o : Out)
      → IsIn o (flat_map (λ m. map (λ x. Send m (g x)) (f m)) ms) → IsLaunch o → ⊥
  none_sent g f [] o h is = h
  none_sent g f (m ∷ ms) o h is =
      elim (in_either o (map (λ x. Send m (g x)) (f m)) (flat_map (λ m. map (λ x. Send m (g x)) (f m)) ms) h) [
        | inl k ↦ none_mapped m g (f m) o k is
        | inr k ↦ none_sent g f ms o k is
      ]

  launch_of : (V : View) (s : Session) (input : Input) (made : Option Entry) (o : Out) → IsIn o (outs_of net me V s input made)
      → IsLaunch o → (e : Entry) × (made ≡ Some e) × (t : ℕ) × (input ≡ Input.Local (Turn t))
  unfolding outs_of sends
  launch_of V s (Input.Local (Turn t)) None o k is =
      absurd (none_sent (λ (p : Feed × ℕ). Mail p.0 p.1) (λ m. to_send net V me m (s.acked m))
      (filter (λ m. are_neighbours net me m && s.links m) (below (node_count net))) o k is)
  launch_of V s (Input.Local (Turn t)) (Some e) o k is = (e, refl, t, refl)
  launch_of V s (Input.Mail from e) made o k is = absurd (go (s.links from) k)
    where
      go : (b : Bool) → IsIn o (if b then Send from (Ack e.feed (length (V e.feed))) ∷ [] else []) → ⊥
      go true (inl q) = subst IsLaunch (sym q) is
      go true (inr none) = none
      go false none = none
  launch_of V s (Input.Ack from f n) made o k is = absurd k
  launch_of V s (Input.Local (Local.Linked v)) made o k is = absurd k
  launch_of V s (Input.Local (Local.Unlinked v)) made o k is = absurd k
  launch_of V s (Input.Local (Local.Typed to c)) made o k is = absurd k
  launch_of V s (Input.Local (Local.Started j)) made o k is = absurd k
  launch_of V s (Input.Local (Local.StartFailed j)) made o k is = absurd k
  launch_of V s (Input.Local (Local.Ended j rc)) made o k is = absurd k
  launch_of V s (Input.Local (Local.Fulfil p i)) made o k is = absurd k
  launch_of V s (Input.Local (Local.Next drafts)) made o k is = absurd k

launch_effect : (net : Net) (me : ℕ) (V : View) (s : Session) (input : Input) (o : Out) → IsIn o (effect net me V s input).outs
    → IsLaunch o → (e : Entry) × ((effect net me V s input).made ≡ Some e) × (t : ℕ) × (input ≡ Input.Local (Turn t))
unfolding effect
launch_effect net me V s input o k is =
    launch_of (present_net net (view_with V (makes (present_net net V) me V s input))) me
    (view_with V (makes (present_net net V) me V s input)) (next_session V s input (makes (present_net net V) me V s input)) input
    (makes (present_net net V) me V s input) o k is

-- the entry of a turn is an event of the node's own
turn_own : (old new : NodeState) (t : ℕ) (step_ : Step) → IsTaken old (Input.Local (Turn t)) step_ new → (e : Entry)
    → step_.kept ≡ Some e → e.feed ≡ Events old.me
unfolding effect makes own_entry event_of
turn_own old new t step_ taken e is =
    go (turn_body (present_net old.net (view_in old)) (view_in old) old.me (session_in old).live t)
    (ap (λ (d : Effect). d.made) (its_effect old new (Input.Local (Turn t)) step_ taken).is ∙ is)
  where
    go : (o : Option Body) → option_map (next_entry (view_in old) (Events old.me)) o ≡ Some e → e.feed ≡ Events old.me
    go None h = cc
    go (Some b) h = sym (ap (λ (d : Entry). d.feed) (some_is h))

launch_kept : (old new : NodeState) (input : Input) (step_ : Step) → IsTaken old input step_ new → (o : Out)
    → IsIn o step_.outs → IsLaunch o → (e : Entry) × (step_.kept ≡ Some e) × (e.feed ≡ Events old.me)
launch_kept old new input step_ taken o k is =
    let f : IsEffect old input (effect_in step_ new) = its_effect old new input step_ taken in
    let it = launch_effect old.net old.me (view_in old) (session_in old) input o
    (subst (IsIn o) (sym (ap (λ (d : Effect). d.outs) f.is)) k) is in
    let kept_ : step_.kept ≡ Some it.0 = sym (ap (λ (d : Effect). d.made) f.is) ∙ it.1 in (
      it.0,
      kept_,
      turn_own old new it.2 step_ (subst (λ (i : Input). IsTaken old i step_ new) it.3 taken) it.0 kept_,
    )

ask_inside : (adv : Bool) (w : ℕ) (call : Asked) → is_working adv w (Event.Asks call) ≡ true → is_inside w (Event.Asks call) ≡ true
ask_inside adv w (Asked.Raise x) h = refl
ask_inside adv w (Asked.Close x) h = not_still h

pub come_inside : (adv : Bool) (w : ℕ) (a : Arrival) → is_working adv w (Event.Comes a) ≡ true → is_inside w (Event.Comes a) ≡ true
come_inside adv w arrival.Nothing h = refl
come_inside adv w (arrival.Bytes a bytes) h = refl
come_inside adv w (arrival.Up a) h = not_still h
come_inside adv w (arrival.Down a) h = not_still h
come_inside adv w (arrival.Client bytes) h = not_still h
come_inside adv w arrival.NoMemory h = not_still h

asks_inside : (adv : Bool) (w : ℕ) (trace : Trace) → AllByRecursion IsAsk trace → AreWorking adv w trace → AreInside w trace
asks_inside adv w [] are each = tt
asks_inside adv w (Event.Asks call ∷ trace) are each = (ask_inside adv w call each.0, asks_inside adv w trace are.1 each.1)
asks_inside adv w (e ∷ trace) are each = absurd are.0

-- what is carried out, where nothing is launched
module _ (adv : Bool) (w : ℕ) (node : NodeState) where
  sent_inside : (x : ℕ) (o : Option Frame) (so_far : Carried) (trace : Trace) (new : Carried) → AreWorking adv w trace
      → IfThere o (SendFrame x) Nothing so_far trace None new → AreInside w trace
  sent_inside x None so_far trace new each h = subst (AreInside w) (sym h.0) tt
  sent_inside x (Some f) so_far trace new each h =
      subst (AreInside w) (sym h.1) ((subst (AreWorking adv w) h.1 each).0, tt)

  send_inside : (x : ℕ) (p : Packet) (b : Bool) (so_far : Carried) (trace : Trace) (new : Carried) → AreWorking adv w trace
      → If b Nothing (Wants (IfThere (frame_of node p) (SendFrame x) Nothing)) so_far trace None new → AreInside w trace
  send_inside x p true so_far trace new each h = subst (AreInside w) (sym h.0) tt
  send_inside x p false so_far trace new each h =
      sent_inside x (frame_of node p) so_far trace new each
      (wanted (IfThere (frame_of node p) (SendFrame x) Nothing) so_far trace new h)

  out_inside : (o : Out) → (IsLaunch o → ⊥) → (so_far : Carried) (trace : Trace) (new : Carried) → AreWorking adv w trace
      → CarryOut node o so_far trace None new → AreInside w trace
  out_inside (Launch j n work) none so_far trace new each h = absurd (none tt)
  out_inside (Out.Kill j n) none so_far trace new each h = subst (AreInside w) (sym h.0) (refl, tt)
  out_inside (Send x p) none so_far trace new each h = send_inside x p (is_lost so_far.lost x) so_far trace new each h

  carried_inside : (outs : List Out) → ((o : Out) → IsIn o outs → IsLaunch o → ⊥) → (so_far : Carried) (trace : Trace)
      (new : Carried) → AreWorking adv w trace → Each (CarryOut node) outs so_far trace None new → AreInside w trace
  carried_inside [] none so_far trace new each h = subst (AreInside w) (sym h.0) tt
  carried_inside (o ∷ os) none so_far trace new each h =
      let b = both_of (CarryOut node o) (Each (CarryOut node) os) so_far trace new h in
      subst (AreInside w) (sym b.split)
      (all_append (λ event. is_inside w event ≡ true) b.front b.back
      (out_inside o (none o (inl refl)) so_far b.front b.middle (front_works adv w trace b.front b.back b.split each) b.begins)
      (carried_inside os (λ p k. none p (inr k)) b.middle b.back new (back_works adv w trace b.front b.back b.split each) b.goes_on))

-- the parts of the pass in which nothing is told
module _ (adv : Bool) (w : ℕ) where
  abbrev pub Whatever : Input → Type 0
  Whatever input = Unit {0}

  abbrev pub CalmOn : Action NodeState
  CalmOn old trace end new =
      end ≡ None → old.me ≡ w → AreWorking adv w trace → NoOwn w (kept trace) → AreInside w trace × (new.me ≡ w)

  calm_joined : IsJoined CalmOn
  calm_joined = record {
    rests = λ s end free none me each own. (tt, me);
    joins = λ a b c front back end h k none me each own.
        let one = h refl me (front_works adv w (front ++ back) front back refl each)
        (front_none w (front ++ back) front back refl own) in
        let two = k none one.1 (back_works adv w (front ++ back) front back refl each)
        (back_none w (front ++ back) front back refl own) in
        (all_append (λ event. is_inside w event ≡ true) front back one.0 two.0, two.1);
  }

  pub kept_there : (m : Option Entry) (front : Trace) → IsKeeping m front None → (e : Entry) → m ≡ Some e → IsIn e (kept front)
  kept_there None front h e is = cc
  kept_there (Some d) front (inl h) e is =
      subst (λ (t : Trace). IsIn e (kept t)) (sym h.0) (inl (some_is is))
  kept_there (Some d) front (inr (inl h)) e is = no_end h.3
  kept_there (Some d) front (inr (inr h)) e is = no_end h.1

  kept_inside : (m : Option Entry) (front : Trace) → NoOwn w (kept front) → IsKeeping m front None → AreInside w front
  kept_inside None front own h = subst (AreInside w) (sym h.0) tt
  kept_inside (Some e) front own (inl h) =
      subst (AreInside w) (sym h.0)
      (not_given w e.feed (own e (kept_there (Some e) front (inl h) e refl)), tt)
  kept_inside (Some e) front own (inr (inl h)) = no_end h.3
  kept_inside (Some e) front own (inr (inr h)) = no_end h.1

  calm_step : (input : Input) → Whatever input → Gives (λ o t e n. Steps input o t e n) CalmOn
  calm_step input q old trace end new h none me each own = (
    subst (AreInside w) (sym b.split) (all_append (λ event. is_inside w event ≡ true) b.front b.back first behind),
    h.taken.me_ ∙ me,
  )
    where
      b : Both (Keep h.step.kept) (λ o t e n. GivesOut h.step.outs o t e n) new trace None new
      b =
          both_of (Keep h.step.kept) (λ o t e n. GivesOut h.step.outs o t e n) new trace new
          (subst (λ (e : Option NodeEnd). Then (Keep h.step.kept) (λ o t e n. GivesOut h.step.outs o t e n) new trace e new) none
          h.acts)

      first : AreInside w b.front
      first = kept_inside h.step.kept b.front (front_none w trace b.front b.back b.split own) b.begins.0

      no_launch : (o : Out) → IsIn o h.step.outs → IsLaunch o → ⊥
      no_launch o k is =
          let it = launch_kept old new input h.step h.taken o k is in
          front_none w trace b.front b.back b.split own it.0 (kept_there h.step.kept b.front b.begins.0 it.0 it.1)
          (ap maker it.2 ∙ me)

      in_back : AreWorking adv w b.back
      in_back = back_works adv w trace b.front b.back b.split each

      behind : AreInside w b.back
      behind =
          subst (AreInside w) (sym b.goes_on.split)
          (all_append (λ event. is_inside w event ≡ true) b.goes_on.asks b.goes_on.carried
          (asks_inside adv w b.goes_on.asks b.goes_on.are_asks
          (front_works adv w b.back b.goes_on.asks b.goes_on.carried b.goes_on.split in_back))
          (carried_inside adv w b.middle h.step.outs no_launch nothing_carried b.goes_on.carried b.goes_on.so_far
          (back_works adv w b.back b.goes_on.asks b.goes_on.carried b.goes_on.split in_back) b.goes_on.carries))

  pub calm_event : (event : Event) → (is_working adv w event ≡ true → is_inside w event ≡ true) → (s : NodeState)
      → CalmOn s (event ∷ []) None s
  calm_event event inside s none me each own = ((inside each.0, tt), me)

  pub calm_rule : IsRule Whatever CalmOn
  calm_rule = record {
    joined = calm_joined;
    spent = λ s end input due is none. no_end (sym none ∙ is);
    asks = λ s call. calm_event (Event.Asks call) (ask_inside adv w call) s;
    replies = λ s call. calm_event (Event.Replies call) (λ h. not_still h) s;
    steps = λ input q. calm_step input q;
    told = λ input h. tt;
  }
