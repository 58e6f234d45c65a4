-- A pass in which nothing comes from outside is a way in the world, with a turn, and with a delivery of each frame that it hears.
use Rattle.std.proofs.Common.{[], ◌++◌, ◌<◌, ◌≤◌, ◌≡◌, ◌∙◌, ◌∷◌, ◌⊎◌, ℕ, Bool, List, None, Option, Some, ap, false, inl, inr, refl, subst, sym, true}
use Rattle.std.proofs.lemmas.Bool.{eq-eqb}
use Rattle.std.specs.Prelude.{◌==◌, Err, Ok, Result}
use Rattle.lemmas.proofs.Lists.{same_head}
use Rattle.composer_parser.specs.declared.Defs.{Defs}
use Rattle.model.specs.Types.{Cmd, Entry, Feed, Input, Local, Net, Order, Orders, Take, Turn, Typed}
use Rattle.model.specs.History.{View}
use Rattle.model.specs.Network.{IsTree, node_count}
use Rattle.model.specs.NewEntry.{makes, next_entry, own_entry}
use Rattle.model.specs.PresentNet.{present_net}
use Rattle.model.specs.Sessions.{Session}
use Rattle.model.specs.Step.{Effect, effect, node_step, unless_fault}
use Rattle.model.specs.StepFaults as faults
use Rattle.model.specs.StepFaults.{is_too_long, step_fault}
use Rattle.model.specs.World.{World}
use Rattle.model_laws.proofs.Sends.{same_done}
use Rattle.outside.specs.Calls.{Sent}
use Rattle.outside.specs.declared.Failed.{Failed}
use Rattle.outside.specs.declared.spawners.End.{End}
use Rattle.mail_frames.specs.declared.frames.Frame.{Frame}
use Rattle.mail_frames.specs.Spelling.{frame_bytes}
use Rattle.workload_defs.specs.Nets.{net_of}
use Rattle.file_watch.specs.Circle.{DepPlace}
use Rattle.file_watch.specs.Probes.{next_probe}
use Rattle.recovery_watch.specs.Advice.{advice}
use Rattle.agent_core.specs.Nodes.{NodeState, session_in, view_in}
use Rattle.agent_core.specs.Steps.{effect_in}
use Rattle.node_inputs.specs.Actions.{Both, IfThere, Nothing, Then}
use Rattle.node_inputs.specs.Inputs.{Take as TakeIt}
use Rattle.node_inputs.specs.Traces.{Event, Trace, kept, readings}
use Rattle.node_loop.specs.Heard.{Heard}
use Rattle.node_loop.specs.Runs.{Advise, Come, EndOf, Found, Looks, On, Probing, Reports, Running, TurnOf, running_with}
use Rattle.network_world.specs.Standing.{NodeStandsFor}
use Rattle.network_runs.specs.Nights.{IsForNodes, IsWritten}
use Rattle.network_runs.proofs.Carrying.{AreWritten, IsCarried, ReadLaw}
use Rattle.network_runs.proofs.Members.{IsIn}
use Rattle.network_runs.proofs.Worlds.{IsReached}
use Rattle.rest_laws.specs.Rounds.{IsAmong}
use Rattle.rest_laws.specs.ToRest.{would_keep}
use Rattle.nights_at_rest.specs.Frames.{Stretch}
use Rattle.nights_at_rest.specs.NodeRounds.{is_given_by}
use Rattle.nights_at_rest.specs.Passes.{HearsFrom}
use Rattle.nights_at_rest.proofs.Arriving.{ComeWay, HeardOf, come_way, delivers_on, kept_front}
use Rattle.nights_at_rest.proofs.Doing.{AreInside, Outputs, PassedIn, TakenIn, back_in, front_in, outputs_none, plain, take_inside}
use Rattle.nights_at_rest.proofs.Hearing.{turn_way}
use Rattle.nights_at_rest.proofs.StillParts.{both_of, not_still}
use Rattle.nights_at_rest.proofs.Ways.{JoinedWay, Way, way_on, way_plain}

-- what stands still in a pass
record QuietPart (old new : Running) (trace : Trace) : Type 0 where
  pub node_ : new.node ≡ old.node
  pub heard_ : new.heard ≡ old.heard
  pub out : (node : NodeState) → Outputs node [] trace

quiet_event : (event : Event) (old new : Running) (rest trace : Trace) → ((node : NodeState) → Outputs node [] (event ∷ []))
    → trace ≡ event ∷ rest → rest ≡ [] → new.node ≡ old.node → new.heard ≡ old.heard → QuietPart old new trace
quiet_event event old new rest trace out split none node_ heard_ = record {
  node_ = node_;
  heard_ = heard_;
  out = λ node. subst (Outputs node []) (sym (split ∙ ap (λ (t : Trace). event ∷ t) none)) (out node);
}

quiet_none : (old new : Running) (trace : Trace) → trace ≡ [] → new.node ≡ old.node → new.heard ≡ old.heard → QuietPart old new trace
quiet_none old new trace none node_ heard_ =
    record { node_ = node_; heard_ = heard_; out = λ node. outputs_none node trace none }

pub no_report : (r : Result (Option End) Failed) (call : Sent) → Event.Reports r ≡ Event.Sends call → ⊥
no_report r call q = cc

pub no_look : (path : List ℕ) (r : Result Bool Failed) (call : Sent) → Event.Looks path r ≡ Event.Sends call → ⊥
no_look path r call q = cc

pub no_reading : (t : ℕ) (call : Sent) → Event.Reads t ≡ Event.Sends call → ⊥
no_reading t call q = cc

reports_quiet : (w : ℕ) (old : Running) (trace : Trace) (new : Running) → AreInside w trace
    → On (λ o t e n. Reports o t e n) old trace None new → QuietPart old new trace
reports_quiet w old trace new each h = go h.acts.answer h.acts.split h.acts.acts
  where
    go : (answer : Result (Option End) Failed) → trace ≡ Event.Reports answer ∷ h.acts.rest
        → EndOf answer old.node h.acts.rest None new.node → QuietPart old new trace
    go (Ok None) split k =
        quiet_event (Event.Reports (Ok None)) old new h.acts.rest trace
        (λ node. plain node (Event.Reports (Ok None)) refl (no_report (Ok None))) split k.0 k.2 h.heard_
    go (Ok (Some ended)) split k = not_still (subst (AreInside w) split each).0
    go (Err failed) split k = not_still (subst (AreInside w) split each).0

looks_quiet : (w : ℕ) (place : DepPlace) (old : Running) (trace : Trace) (new : Running) → AreInside w trace
    → Looks place old trace None new → QuietPart old new trace
looks_quiet w place old trace new each h = go h.answer h.split h.acts
  where
    go : (answer : Result Bool Failed) → trace ≡ Event.Looks h.path answer ∷ h.rest
        → On (Found place answer) (running_with old.node old.heard (Some place)) h.rest None new → QuietPart old new trace
    go (Ok true) split k = not_still (subst (AreInside w) split each).0
    go (Ok false) split k =
        quiet_event (Event.Looks h.path (Ok false)) old new h.rest trace
        (λ node. plain node (Event.Looks h.path (Ok false)) refl (no_look h.path (Ok false))) split k.acts.0 k.acts.2 k.heard_
    go (Err failed) split k = not_still (subst (AreInside w) split each).0

probing_quiet : (w : ℕ) (old : Running) (trace : Trace) (new : Running) → AreInside w trace → Probing old trace None new
    → QuietPart old new trace
probing_quiet w old trace new each h = go (next_probe (view_in old.node) old.node.me old.asked) h
  where
    go : (o : Option DepPlace) → IfThere o (λ (place : DepPlace). λ o t e n. Looks place o t e n) Nothing old trace None new
        → QuietPart old new trace
    go None k = quiet_none old new trace k.0 (ap (λ (s : Running). s.node) k.2) (ap (λ (s : Running). s.heard) k.2)
    go (Some place) k = looks_quiet w place old trace new each k

-- the node types no advice
pub typed_own : (net : Net) (me : ℕ) (V : View) (s : Session) (to : ℕ) (c : Cmd) (d : Effect)
    → node_step net me V s (Input.Local (Typed to c)) ≡ Ok d → (e : Entry) × (d.made ≡ Some e) × (e.feed ≡ Orders me to)
unfolding node_step effect makes own_entry
typed_own net me V s to c d e = go (step_fault (present_net net V) me V s (Input.Local (Typed to c))) e
  where
    go : (f : Option faults.StepFault) → unless_fault f (effect net me V s (Input.Local (Typed to c))) ≡ Ok d
        → (e : Entry) × (d.made ≡ Some e) × (e.feed ≡ Orders me to)
    go None same = (
      next_entry V (Orders me to) (Order c),
      sym (ap (λ (k : Effect). k.made) (same_done (effect net me V s (Input.Local (Typed to c))) d same)),
      refl,
    )
    go (Some f) same = cc

no_typing : {P : Type 0} (w : ℕ) (c : Cmd) (old : NodeState) (trace : Trace) (new : NodeState) → old.me ≡ w
    → TakenIn w (Input.Local (Typed old.me c)) old trace new → P
no_typing w c old trace new me t =
    let it = typed_own old.net old.me (view_in old) (session_in old) old.me c (effect_in t.step_ new) t.taken.effect in
    let own : (old.me == w) ≡ false = subst (λ (f : Feed). is_given_by w f ≡ false) it.2 (t.not_own it.0 it.1) in
    not_still (sym own ∙ eq-eqb old.me w me)

advise_quiet : (w : ℕ) (old : Running) (trace : Trace) (new : Running) → old.node.me ≡ w → AreInside w trace
    → On Advise old trace None new → QuietPart old new trace
advise_quiet w old trace new me each h = go (advice (view_in old.node) old.node.me) h.acts
  where
    go : (o : Option Cmd) → IfThere o (λ (c : Cmd). TakeIt (Input.Local (Typed old.node.me c))) Nothing old.node trace None new.node
        → QuietPart old new trace
    go None k = quiet_none old new trace k.0 k.2 h.heard_
    go (Some c) k = typed (take_inside w (Input.Local (Typed old.node.me c)) old.node trace new.node each k)
      where
        typed : TakenIn w (Input.Local (Typed old.node.me c)) old.node trace new.node
            ⊎ PassedIn (Input.Local (Typed old.node.me c)) old.node trace new.node → QuietPart old new trace
        typed (inl t) = no_typing w c old.node trace new.node me t
        typed (inr p) = quiet_none old new trace p.silent p.over.same h.heard_

-- a way with a turn in it
record TurnWay (net : Net) (reads : ℕ → ℕ) (w : ℕ) (x : World) (old new : NodeState) (trace : Trace) : Type 0 where
  pub world : World
  pub way : Way net reads w x world old new trace
  pub turned : IsAmong (Take w (Turn (reads w))) way.stretch.steps

-- something still before it
behind_quiet : (net : Net) (reads : ℕ → ℕ) (w : ℕ) (x : World) (old middle : Running) (new : NodeState) (trace front back : Trace)
    → NodeStandsFor net x w old.node → trace ≡ front ++ back → QuietPart old middle front
    → TurnWay net reads w x middle.node new back → TurnWay net reads w x old.node new trace
behind_quiet net reads w x old middle new trace front back at split quiet t =
    let later : TurnWay net reads w x old.node new back = subst (λ (n : NodeState). TurnWay net reads w x n new back) quiet.node_ t in
    let joined = way_on net reads w x x later.world old.node old.node new front back
    (way_plain net reads w x old.node front at (quiet.out old.node)) later.way in
    subst (λ (t : Trace). TurnWay net reads w x old.node new t) (sym split) (record {
      world = later.world;
      way = joined.way;
      turned = joined.among_then (Take w (Turn (reads w))) later.turned;
    })

-- a pass
pub record PassWay (net : Net) (reads : ℕ → ℕ) (w : ℕ) (x : World) (old new : Running) (trace : Trace) : Type 0 where
  pub world : World
  pub way : Way net reads w x world old.node new.node trace
  pub turned : IsAmong (Take w (Turn (reads w))) way.stretch.steps
  pub hears : (a : ℕ) → HeardOf net reads w x world way.stretch old new a

-- what follows the arrival hears nothing
probing_heard : (old : Running) (trace : Trace) (new : Running) → Probing old trace None new → new.heard ≡ old.heard
probing_heard old trace new h = go (next_probe (view_in old.node) old.node.me old.asked) h
  where
    go : (o : Option DepPlace) → IfThere o (λ (place : DepPlace). λ o t e n. Looks place o t e n) Nothing old trace None new
        → new.heard ≡ old.heard
    go None k = ap (λ (s : Running). s.heard) k.2
    go (Some place) k = k.acts.heard_

pub rest_heard : (t : ℕ) (old : Running) (trace : Trace) (new : Running)
    → Then (On (λ o t e n. Reports o t e n))
    (Then Probing (Then (On Advise) (On (TakeIt (Input.Local (Turn t)))))) old trace None new → new.heard ≡ old.heard
rest_heard t old trace new h =
    let b = both_of (On (λ o t e n. Reports o t e n)) (Then Probing (Then (On Advise) (On (TakeIt (Input.Local (Turn t)))))) old
    trace new h in
    let c = both_of Probing (Then (On Advise) (On (TakeIt (Input.Local (Turn t))))) b.middle b.back new b.goes_on in
    let d = both_of (On Advise) (On (TakeIt (Input.Local (Turn t)))) c.middle c.back new c.goes_on in
    d.goes_on.heard_ ∙ d.begins.heard_ ∙ probing_heard b.middle c.front c.middle c.begins ∙ b.begins.heard_

module _ (net : Net) (tree : IsTree net) (few : node_count net ≤ 65536) (reads : ℕ → ℕ) (w : ℕ) (w_in : w < node_count net)
    (x : World) (r : IsReached net x) (old : Running) (at : NodeStandsFor net x w old.node) where
  rest_way : (t : ℕ) (trace : Trace) (new : Running) → reads w ≡ t → AreInside w trace
      → is_too_long (would_keep net x w t) ≡ false
      → Then (On (λ o t e n. Reports o t e n))
      (Then Probing (Then (On Advise) (On (TakeIt (Input.Local (Turn t)))))) old trace None new
      → TurnWay net reads w x old.node new.node trace
  rest_way t trace new reading each short h =
      let b = both_of (On (λ o t e n. Reports o t e n)) (Then Probing (Then (On Advise) (On (TakeIt (Input.Local (Turn t)))))) old
      trace new h in
      let c = both_of Probing (Then (On Advise) (On (TakeIt (Input.Local (Turn t))))) b.middle b.back new b.goes_on in
      let d = both_of (On Advise) (On (TakeIt (Input.Local (Turn t)))) c.middle c.back new c.goes_on in
      let in_b : AreInside w b.back = back_in w trace b.front b.back b.split each in
      let in_c : AreInside w c.back = back_in w b.back c.front c.back c.split in_b in
      let told : QuietPart old b.middle b.front =
      reports_quiet w old b.front b.middle (front_in w trace b.front b.back b.split each) b.begins in
      let probed : QuietPart b.middle c.middle c.front =
      probing_quiet w b.middle c.front c.middle (front_in w b.back c.front c.back c.split in_b) c.begins in
      let me : c.middle.node.me ≡ w = ap (λ (n : NodeState). n.me) (probed.node_ ∙ told.node_) ∙ at.me_ in
      let advised : QuietPart c.middle d.middle d.front =
      advise_quiet w c.middle d.front d.middle me (front_in w c.back d.front d.back d.split in_c) d.begins in
      let here : d.middle.node ≡ old.node = advised.node_ ∙ probed.node_ ∙ told.node_ in
      let acts : TakeIt (Input.Local (Turn t)) old.node d.back None new.node =
      subst (λ (n : NodeState). TakeIt (Input.Local (Turn t)) n d.back None new.node) here d.goes_on.acts in
      let turn = turn_way net tree few reads w x r old.node at t d.back new.node w_in reading short
      (take_inside w (Input.Local (Turn t)) old.node d.back new.node (back_in w c.back d.front d.back d.split in_c) acts) in
      let last : TurnWay net reads w x old.node new.node d.back = record {
        world = turn.0;
        way = turn.1;
        turned = subst (λ (u : ℕ). IsAmong (Take w (Turn u)) turn.1.stretch.steps) (sym reading) turn.2;
      } in
      let at_b : NodeStandsFor net x w b.middle.node = subst (NodeStandsFor net x w) (sym told.node_) at in
      let at_c : NodeStandsFor net x w c.middle.node = subst (NodeStandsFor net x w) (sym probed.node_) at_b in
      behind_quiet net reads w x old b.middle new.node trace b.front b.back at b.split told
      (behind_quiet net reads w x b.middle c.middle new.node b.back c.front c.back at_b c.split probed
      (behind_quiet net reads w x c.middle d.middle new.node c.back d.front d.back at_c d.split advised
      (subst (λ (n : NodeState). TurnWay net reads w x n new.node d.back) (sym here) last)))

module _ (defs : Defs) (tree : IsTree (net_of defs)) (few : node_count (net_of defs) ≤ 65536) (law : ReadLaw (net_of defs))
    (reads : ℕ → ℕ) (w : ℕ) (w_in : w < node_count (net_of defs)) (x : World) (r : IsReached (net_of defs) x)
    (written : AreWritten x.history) (old : Running) (at : NodeStandsFor (net_of defs) x w old.node) where
  pub pass_way : (trace : Trace) (new : Running) → AreInside w trace → readings trace ≡ reads w ∷ []
      → ((e : Entry) → IsIn e (kept trace) → IsWritten e)
      → ((a : ℕ) (f : Frame) → HearsFrom old new a f → IsForNodes f
      → (g : Frame) × IsCarried x a w g × (frame_bytes f ≡ frame_bytes g))
      → ((y : World) → Stretch (net_of defs) reads x y → is_too_long (would_keep (net_of defs) y w (reads w)) ≡ false)
      → TurnOf defs old trace None new → PassWay (net_of defs) reads w x old new trace
  pass_way trace new each stands more sent short h =
      subst (λ (t : Trace). PassWay (net_of defs) reads w x old new t) (sym whole_is) (record {
        world = rest.world;
        way = all.way;
        turned = all.among_then (Take w (Turn (reads w))) rest.turned;
        hears = λ a.
            let it = come.hears a in
            record {
              more = it.more;
              grows = ap (λ (g : ℕ → Heard). (g a).frames) same_heard ∙ it.grows;
              comes = λ f k.
                  delivers_on (net_of defs) reads w a x come.world x rest.world come.way.stretch all.way.stretch f
                  (λ a b p c. all.first a b p (first.then_ a b p c)) (it.comes f k);
            };
      })
    where
      event : Event
      event = Event.Reads h.reading

      reading : h.reading ≡ reads w
      reading = same_head (sym (ap readings h.split) ∙ stands)

      inside : AreInside w h.rest
      inside = (subst (AreInside w) h.split each).1

      b : Both (Come defs) (Then (On (λ o t e n. Reports o t e n))
          (Then Probing (Then (On Advise) (On (TakeIt (Input.Local (Turn h.reading))))))) old h.rest None new
      b = both_of (Come defs) (Then (On (λ o t e n. Reports o t e n))
          (Then Probing (Then (On Advise) (On (TakeIt (Input.Local (Turn h.reading))))))) old h.rest new h.acts

      whole_is : trace ≡ (event ∷ b.front) ++ b.back
      whole_is = h.split ∙ ap (λ (t : Trace). event ∷ t) b.split

      reads_only : Outputs old.node [] (event ∷ [])
      reads_only = plain old.node event refl (no_reading h.reading)

      same_heard : new.heard ≡ b.middle.heard
      same_heard = rest_heard h.reading b.middle b.back new b.goes_on

      come : ComeWay (net_of defs) reads w x old b.middle b.front
      come =
          come_way (net_of defs) tree few law reads w x r written old at defs b.front b.middle (front_in w h.rest b.front b.back b.split inside)
          (λ e k. more e (kept_front e trace (event ∷ b.front) b.back whole_is k))
          (λ a f hears for. sent a f (heard_by a f hears) for) b.begins
        where
          heard_by : (a : ℕ) (f : Frame) → HearsFrom old b.middle a f → HearsFrom old new a f
          heard_by a f k = record {
            more = k.more;
            grows = ap (λ (g : ℕ → Heard). (g a).frames) same_heard ∙ k.grows;
            among = k.among;
          }

      first : JoinedWay (net_of defs) reads w x x come.world old.node old.node b.middle.node (event ∷ []) b.front
          (way_plain (net_of defs) reads w x old.node (event ∷ []) at reads_only).stretch come.way.stretch
      first =
          way_on (net_of defs) reads w x x come.world old.node old.node b.middle.node (event ∷ []) b.front
          (way_plain (net_of defs) reads w x old.node (event ∷ []) at reads_only) come.way

      rest : TurnWay (net_of defs) reads w come.world b.middle.node new.node b.back
      rest =
          rest_way (net_of defs) tree few reads w w_in come.world (come.way.grows.reached r) b.middle come.way.here h.reading b.back new
          (sym reading) (back_in w h.rest b.front b.back b.split inside)
          (subst (λ (t : ℕ). is_too_long (would_keep (net_of defs) come.world w t) ≡ false) (sym reading) (short come.world come.way.stretch))
          b.goes_on

      all : JoinedWay (net_of defs) reads w x come.world rest.world old.node b.middle.node new.node (event ∷ b.front) b.back
          first.way.stretch rest.way.stretch
      all =
          way_on (net_of defs) reads w x come.world rest.world old.node b.middle.node new.node (event ∷ b.front) b.back first.way
          rest.way
