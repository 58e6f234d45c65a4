-- Whatever comes in a pass, its node stands for its workstation behind it.
use Rattle.std.proofs.Common.{[], ◌++◌, ◌≤◌, ◌≡◌, ◌∙◌, ◌∷◌, ◌⊎◌, ℕ, List, None, Option, Some, ap, append_assoc, inl, inr, refl, subst, suc, sym, zero}
use Rattle.std.proofs.lemmas.List.{append-nil}
use Rattle.std.specs.List.{AllByRecursion}
use Rattle.std.specs.Option.{option_map_or, option_to_list}
use Rattle.std.specs.Prelude.{is_some, option_map}
use Rattle.lemmas.proofs.Lists.{get_in_front}
use Rattle.lemmas.proofs.Options.{some_is}
use Rattle.composer_parser.specs.declared.Defs.{Defs}
use Rattle.model.specs.Types.{Ack, Body, Entry, Input, Linked, Local, Mail, Net, Out, Packet, Turn, Unlinked}
use Rattle.model.specs.History.{list_of}
use Rattle.model.specs.Network.{IsTree, node_count}
use Rattle.model.specs.Words.{nth}
use Rattle.model.specs.World.{World, delivery, packet_input}
use Rattle.model_laws.proofs.Feeds.{list_of-append}
use Rattle.outside.specs.Calls.{Asked, Replied, Sent}
use Rattle.outside.specs.declared.links.Arrival.{Arrival}
use Rattle.outside.specs.declared.links.Arrival.TheVariants as arrival
use Rattle.mail_frames.specs.declared.frames.Frame.{Frame}
use Rattle.mail_frames.specs.Spelling.{frame_bytes}
use Rattle.agent_core.specs.Nodes.{NodeState, view_in}
use Rattle.agent_core.specs.Steps.{effect_in}
use Rattle.file_watch.specs.Circle.{DepPlace}
use Rattle.file_watch.specs.Probes.{next_probe}
use Rattle.node_inputs.specs.Actions.{Action, Both, IfThere, Nothing, Then}
use Rattle.node_inputs.specs.Inputs.{IsKeeping, Keep, Take as TakeIt}
use Rattle.node_inputs.specs.Traces.{Event, Trace, kept}
use Rattle.node_inputs.specs.declared.ends.NodeEnd.{NodeEnd}
use Rattle.node_inputs.proofs.Fronts.{kept-append}
use Rattle.node_loop.specs.Frames.{Frames, input_of}
use Rattle.node_loop.specs.Heard.{Heard, heard_more, nothing_heard}
use Rattle.node_loop.specs.Runs.{Advise, Anew, Arrive, Come, Comes, Hear, Hears, Looks, On, Probing, Reports, Running, TurnOf}
use Rattle.run_laws.proofs.Listening.{IsHeard, frames_gives, listen_gives}
use Rattle.run_laws.proofs.Rules.{Gives, IsJoined}
use Rattle.run_laws.proofs.Taking.{GivesOut, IsRule, IsTold, Steps, take_gives}
use Rattle.run_laws.proofs.Turning.{advise_gives, found_gives, reports_gives}
use Rattle.network_world.specs.Standing.{NodeStandsFor}
use Rattle.network_runs.specs.Nights.{IsForNodes}
use Rattle.network_runs.proofs.Carrying.{AreWritten, IsCarried, ReadLaw, carried_on, outs_in}
use Rattle.network_runs.proofs.Counting.{together}
use Rattle.network_runs.proofs.Growing.{Grows, IsThere, Took, grows_not, grows_on, moves_grow, node_takes, nth_of_in, stands_again}
use Rattle.network_runs.proofs.Members.{IsIn, contains_of, in_either, in_right}
use Rattle.network_runs.proofs.Telling.{IsOutput, given_out}
use Rattle.network_runs.proofs.Worlds.{IsReached}
use Rattle.nights_at_rest.specs.Passes.{HearsFrom}
use Rattle.nights_at_rest.proofs.Doing.{Outputs, no_ask, outputs_none, plain}
use Rattle.nights_at_rest.proofs.Hearing.{brings_it, history_told, node_for, node_in}
use Rattle.nights_at_rest.proofs.Arriving.{for_nodes, no_arrival}
use Rattle.nights_at_rest.proofs.Passing.{no_look, no_reading, no_report, rest_heard}
use Rattle.nights_at_rest.proofs.StillParts.{both_of, no_end, wanted}
use Rattle.nights_at_rest.proofs.Ways.{Way, own_of, own_on, parts_same}

-- the trace of w leads from x to y: its node stands there again, and what is new in the world is what it keeps and sends
pub record Stays (net : Net) (w : ℕ) (x y : World) (old new : NodeState) (trace : Trace) : Type 0 where
  pub grows : Grows net x y w
  pub here : NodeStandsFor net y w new
  pub history_ : y.history ≡ x.history ++ own_of w (kept trace)
  pub disk : new.kept ≡ old.kept ++ kept trace
  pub sent_ : (call : Sent) → IsIn (Event.Sends call) trace
      → (g : Frame) × IsCarried y w call.to g × (call.bytes ≡ frame_bytes g)

pub way_stays : (net : Net) (reads : ℕ → ℕ) (w : ℕ) (x y : World) (old new : NodeState) (trace : Trace)
    → Way net reads w x y old new trace → Stays net w x y old new trace
way_stays net reads w x y old new trace g =
    record { grows = g.grows; here = g.here; history_ = g.history_; disk = g.disk; sent_ = g.sent_ }

module _ (net : Net) (w : ℕ) where
  pub stays_plain : (x : World) (node : NodeState) (trace : Trace) → NodeStandsFor net x w node → Outputs node [] trace
      → Stays net w x x node node trace
  stays_plain x node trace at out = record {
    grows = grows_not net x w;
    here = at;
    history_ = sym (append-nil x.history) ∙ ap (λ l. x.history ++ own_of w l) (sym out.keeps_none);
    disk = sym (append-nil node.kept) ∙ ap (λ l. node.kept ++ l) (sym out.keeps_none);
    sent_ = λ call k. absurd ((out.sends.only call k).given);
  }

  pub stays_on : (x y z : World) (a b c : NodeState) (front back : Trace) → Stays net w x y a b front → Stays net w y z b c back
      → Stays net w x z a c (front ++ back)
  stays_on x y z a b c front back g h = record {
    grows = grows_on net x y z w g.grows h.grows;
    here = h.here;
    history_ =
        h.history_ ∙ ap (λ l. l ++ own_of w (kept back)) g.history_
        ∙ append_assoc x.history (own_of w (kept front)) (own_of w (kept back))
        ∙ ap (λ l. x.history ++ l) (sym (own_on w (kept front) (kept back)) ∙ ap (own_of w) (sym (kept-append front back)));
    disk =
        h.disk ∙ ap (λ l. l ++ kept back) g.disk ∙ append_assoc a.kept (kept front) (kept back)
        ∙ ap (λ l. a.kept ++ l) (sym (kept-append front back));
    sent_ = λ call k. sent call (in_either (Event.Sends call) front back k);
  }
    where
      sent : (call : Sent) → IsIn (Event.Sends call) front ⊎ IsIn (Event.Sends call) back
          → (f : Frame) × IsCarried z w call.to f × (call.bytes ≡ frame_bytes f)
      sent call (inl k) = let it = g.sent_ call k in (it.0, carried_on net y z w w call.to it.0 h.grows it.1, it.2)
      sent call (inr k) = h.sent_ call k

-- what a packet is told to be stays so
sender : Input → ℕ → ℕ
sender (Input.Mail a e) d = a
sender (Input.Ack a f n) d = a
sender (Input.Local l) d = d

module _ (x : World) (a : ℕ) where
  sender_is : (q : Packet) (i : Input) → packet_input x a q ≡ Some i → a ≡ sender i a
  unfolding packet_input sender
  sender_is (Mail f k) i h = go (nth (list_of x.history f) k) h
    where
      go : (o : Option Body) → option_map (λ (b : Body). Input.Mail a (record { feed = f; place = k; body = b })) o ≡ Some i
          → a ≡ sender i a
      go None h = cc
      go (Some b) h = ap (λ (j : Input). sender j a) (some_is h)
  sender_is (Ack f n) i h = ap (λ (j : Input). sender j a) (some_is h)

  nth_front : (xs ys : List Body) (k : ℕ) (b : Body) → nth xs k ≡ Some b → nth (xs ++ ys) k ≡ Some b
  nth_front xs ys zero b e = cc
  nth_front xs ys (suc k) b e = get_in_front xs ys k b e

  input_stays : (z : World) (more : List Entry) (q : Packet) (i : Input) → z.history ≡ x.history ++ more
      → packet_input x a q ≡ Some i → packet_input z a q ≡ Some i
  unfolding packet_input
  input_stays z more (Ack f n) i history h = h
  input_stays z more (Mail f k) i history h = go (nth (list_of x.history f) k) refl h
    where
      go : (o : Option Body) → nth (list_of x.history f) k ≡ o
          → option_map (λ (b : Body). Input.Mail a (record { feed = f; place = k; body = b })) o ≡ Some i
          → option_map (λ (b : Body). Input.Mail a (record { feed = f; place = k; body = b })) (nth (list_of z.history f) k) ≡ Some i
      go None is h = cc
      go (Some b) is h =
          ap (option_map (λ (b : Body). Input.Mail a (record { feed = f; place = k; body = b })))
          (ap (λ (G : List Entry). nth (list_of G f) k) history ∙ ap (λ (l : List Body). nth l k) (list_of-append x.history more f)
          ∙ nth_front (list_of x.history f) (list_of more f) k b is) ∙ h

-- outputs keep nothing
pub outputs_keep_none : (node : NodeState) (outs : List Out) (trace : Trace) → AllByRecursion (IsOutput node outs) trace → kept trace ≡ []
outputs_keep_none node outs [] h = refl
outputs_keep_none node outs (Event.Keeps e ∷ trace) h = absurd h.0.0
outputs_keep_none node outs (Event.Refuses e why ∷ trace) h = absurd h.0.0
outputs_keep_none node outs (Event.Comes a ∷ trace) h = absurd h.0.1
outputs_keep_none node outs (Event.Reads t ∷ trace) h = outputs_keep_none node outs trace h.1
outputs_keep_none node outs (Event.Reports r ∷ trace) h = outputs_keep_none node outs trace h.1
outputs_keep_none node outs (Event.Looks p a ∷ trace) h = outputs_keep_none node outs trace h.1
outputs_keep_none node outs (Event.Starts c ∷ trace) h = outputs_keep_none node outs trace h.1
outputs_keep_none node outs (Event.Kills j n ∷ trace) h = outputs_keep_none node outs trace h.1
outputs_keep_none node outs (Event.Sends c ∷ trace) h = outputs_keep_none node outs trace h.1
outputs_keep_none node outs (Event.Replies c ∷ trace) h = outputs_keep_none node outs trace h.1
outputs_keep_none node outs (Event.Asks c ∷ trace) h = outputs_keep_none node outs trace h.1

pub is_output : (node : NodeState) (outs : List Out) (trace : Trace) (event : Event) → AllByRecursion (IsOutput node outs) trace
    → IsIn event trace → IsOutput node outs event
is_output node outs [] event h k = absurd k
is_output node outs (e ∷ trace) event h (inl q) = subst (IsOutput node outs) q h.0
is_output node outs (e ∷ trace) event h (inr k) = is_output node outs trace event h.1 k

pub no_reply : (c : Replied) (call : Sent) → Event.Replies c ≡ Event.Sends call → ⊥
no_reply c call q = cc

-- at one workstation, from this world on
module _ (net : Net) (tree : IsTree net) (few : node_count net ≤ 65536) (w : ℕ) (first : World) where
  -- an input of the node itself, or one that a packet brings that is there
  abbrev pub CameAt : Input → Type 0
  CameAt (Input.Local l) = Unit {0}
  CameAt (Input.Mail a e) = (q : Packet) × IsIn q (first.packets a w) × (packet_input first a q ≡ Some (Input.Mail a e))
  CameAt (Input.Ack a f n) = (q : Packet) × IsIn q (first.packets a w) × (packet_input first a q ≡ Some (Input.Ack a f n))

  pub came_at : (a : ℕ) (q : Packet) (i : Input) → IsIn q (first.packets a w) → packet_input first a q ≡ Some i → CameAt i
  unfolding sender
  came_at a q (Input.Local l) k h = tt
  came_at a q (Input.Mail b e) k h =
      let same : a ≡ b = sender_is first a q (Input.Mail b e) h in (
        q,
        subst (λ (c : ℕ). IsIn q (first.packets c w)) same k,
        subst (λ (c : ℕ). packet_input first c q ≡ Some (Input.Mail b e)) same h,
      )
  came_at a q (Input.Ack b f n) k h =
      let same : a ≡ b = sender_is first a q (Input.Ack b f n) h in (
        q,
        subst (λ (c : ℕ). IsIn q (first.packets c w)) same k,
        subst (λ (c : ℕ). packet_input first c q ≡ Some (Input.Ack b f n)) same h,
      )

  brought : (x : World) → Grows net first x w → (a : ℕ) (i : Input) (q : Packet) → IsIn q (first.packets a w)
      → packet_input first a q ≡ Some i → (k : ℕ) × (delivery x a w k ≡ Some i)
  brought x g a i q k h =
      let place = nth_of_in q (x.packets a w) (g.sent a w q k) in (
        place.0,
        ap (λ (o : Option Packet). option_map_or (packet_input x a) o None) place.1 ∙ input_stays first a x g.more q i g.history_ h,
      )

  pub there_at : (x : World) → Grows net first x w → (i : Input) → CameAt i → IsThere x w i
  there_at x g (Input.Local l) c = tt
  there_at x g (Input.Mail a e) c = brought x g a (Input.Mail a e) c.0 c.1 c.2
  there_at x g (Input.Ack a f n) c = brought x g a (Input.Ack a f n) c.0 c.1 c.2

  abbrev StaysOn : Action NodeState
  StaysOn old trace end new =
      end ≡ None → (x : World) → Grows net first x w → IsReached net x → NodeStandsFor net x w old
      → (y : World) × Stays net w x y old new trace

  stays_joined : IsJoined StaysOn
  stays_joined = record {
    rests = λ s end free none x g r at. (x, stays_plain net w x s [] at (outputs_none s [] refl));
    joins = λ a b c front back end h k none x g r at.
        let one = h refl x g r at in
        let two = k none one.0 (grows_on net first x one.0 w g one.1.grows) (one.1.grows.reached r) one.1.here in
        (two.0, stays_on net w x one.0 two.0 a b c front back one.1 two.1);
  }

  stays_event : (event : Event) (s : NodeState) → Outputs s [] (event ∷ []) → StaysOn s (event ∷ []) None s
  stays_event event s out none x g r at = (x, stays_plain net w x s (event ∷ []) at out)

  stays_step : (input : Input) → CameAt input → Gives (λ o t e n. Steps input o t e n) StaysOn
  stays_step input came old trace end new h none x g r at = (
    it.world,
    record {
      grows = moves_grow net x it.world w it.origin (effect_in h.step new) it.moves;
      here = here;
      history_ = history_told w x it.world it.origin h.step.kept trace it.moves.history_ it.keeps keeps;
      disk = h.taken.kept ∙ ap (λ l. old.kept ++ l) (sym keeps);
      sent_ = λ call k. sent call (in_either (Event.Sends call) b.front b.back (subst (IsIn (Event.Sends call)) b.split k));
    },
  )
    where
      it : Took net x w (effect_in h.step new) (effect_in h.step new)
      it = node_takes net x w old new input h.step (node_in net x w old at) (there_at x g input came) h.taken

      here : NodeStandsFor net it.world w new
      here =
          node_for net it.world w new
          (stands_again net x it.world w it.origin old new input h.step r (node_in net x w old at) h.taken it.moves)

      b : Both (Keep h.step.kept) (λ o t e n. GivesOut h.step.outs o t e n) new trace None new
      b =
          both_of (Keep h.step.kept) (λ o t e n. GivesOut h.step.outs o t e n) new trace new
          (subst (λ (e : Option NodeEnd). Then (Keep h.step.kept) (λ o t e n. GivesOut h.step.outs o t e n) new trace e new) none
          h.acts)

      outputs : AllByRecursion (IsOutput new h.step.outs) b.back
      outputs =
          subst (λ (n : NodeState). AllByRecursion (IsOutput n h.step.outs) b.back) b.begins.1
          (given_out b.middle h.step.outs b.back None new b.goes_on)

      kept_first : (m : Option Entry) (front : Trace) → IsKeeping m front None → kept front ≡ option_to_list m
      kept_first None front k = ap kept k.0
      kept_first (Some e) front (inl k) = ap kept k.0
      kept_first (Some e) front (inr (inl k)) = no_end k.3
      kept_first (Some e) front (inr (inr k)) = no_end k.1

      keeps : kept trace ≡ option_to_list h.step.kept
      keeps =
          ap kept b.split ∙ kept-append b.front b.back
          ∙ parts_same (kept_first h.step.kept b.front b.begins.0) (outputs_keep_none new h.step.outs b.back outputs)
          ∙ append-nil (option_to_list h.step.kept)

      none_first : {P : Type 0} (m : Option Entry) (front : Trace) (call : Sent) → IsKeeping m front None
          → IsIn (Event.Sends call) front → P
      none_first None front call k i = absurd (subst (IsIn (Event.Sends call)) k.0 i)
      none_first (Some e) front call (inl k) i = other (subst (IsIn (Event.Sends call)) k.0 i)
        where
          other : {P : Type 0} → IsIn (Event.Sends call) (Event.Keeps e ∷ []) → P
          other (inl q) = cc
          other (inr none) = absurd none
      none_first (Some e) front call (inr (inl k)) i = no_end k.3
      none_first (Some e) front call (inr (inr k)) i = no_end k.1

      sent : (call : Sent) → IsIn (Event.Sends call) b.front ⊎ IsIn (Event.Sends call) b.back
          → (f : Frame) × IsCarried it.world w call.to f × (call.bytes ≡ frame_bytes f)
      sent call (inl k) = none_first h.step.kept b.front call b.begins.0 k
      sent call (inr k) =
          let out = (is_output new h.step.outs b.back (Event.Sends call) outputs k).0 in (
            out.frame_,
            (outs_in net x it.world w it.origin old input h.step new few (node_in net x w old at) h.taken it.moves
                (node_in net it.world w new here)).sends call.to out.packet out.frame_ out.given out.is,
            out.bytes_,
          )

  told_at : (input : Input) → IsTold input → CameAt input
  told_at (Input.Local l) h = tt
  told_at (Input.Mail a e) h = absurd h
  told_at (Input.Ack a f n) h = absurd h

  heard_at : (input : Input) → IsHeard input → CameAt input
  heard_at (Input.Local l) h = tt
  heard_at (Input.Mail a e) h = absurd h
  heard_at (Input.Ack a f n) h = absurd h

  rule : IsRule CameAt StaysOn
  rule = record {
    joined = stays_joined;
    spent = λ s end input due is none. no_end (sym none ∙ is);
    asks = λ s call. stays_event (Event.Asks call) s (plain s (Event.Asks call) refl (no_ask call));
    replies = λ s call. stays_event (Event.Replies call) s (plain s (Event.Replies call) refl (no_reply call));
    steps = λ input came. stays_step input came;
    told = λ input h. told_at input h;
  }

  -- an event and what follows it
  behind_event : (event : Event) (old new : NodeState) (rest trace : Trace) → Outputs old [] (event ∷ []) → trace ≡ event ∷ rest
      → StaysOn old rest None new → StaysOn old trace None new
  behind_event event old new rest trace out split h =
      subst (λ (t : Trace). StaysOn old t None new) (sym split)
      (stays_joined.joins old old new (event ∷ []) rest None (stays_event event old out) h)

  report_stays : (old : Running) (trace : Trace) (new : Running) → On (λ o t e n. Reports o t e n) old trace None new
      → StaysOn old.node trace None new.node
  report_stays old trace new h =
      reports_gives CameAt StaysOn rule
      (λ s answer. stays_event (Event.Reports answer) s (plain s (Event.Reports answer) refl (no_report answer)))
      (λ j rc. tt) old.node trace None new.node h.acts

  probing_stays : (old : Running) (trace : Trace) (new : Running) → Probing old trace None new
      → StaysOn old.node trace None new.node
  probing_stays old trace new h = go (next_probe (view_in old.node) old.node.me old.asked) h
    where
      go : (o : Option DepPlace) → IfThere o (λ (place : DepPlace). λ o t e n. Looks place o t e n) Nothing old trace None new
          → StaysOn old.node trace None new.node
      go None k =
          subst (λ (n : NodeState). StaysOn old.node trace None n) (sym (ap (λ (s : Running). s.node) k.2))
          (subst (λ (t : Trace). StaysOn old.node t None old.node) (sym k.0)
          (λ none x g r at. (x, stays_plain net w x old.node [] at (outputs_none old.node [] refl))))
      go (Some place) k =
          behind_event (Event.Looks k.path k.answer) old.node new.node k.rest trace
          (plain old.node (Event.Looks k.path k.answer) refl (no_look k.path k.answer)) k.split
          (found_gives CameAt StaysOn rule
          (λ s path answer. stays_event (Event.Looks path answer) s (plain s (Event.Looks path answer) refl (no_look path answer)))
          place tt k.answer old.node k.rest None new.node k.acts.acts)

  advise_stays : (old : Running) (trace : Trace) (new : Running) → On Advise old trace None new
      → StaysOn old.node trace None new.node
  advise_stays old trace new h =
      advise_gives CameAt StaysOn rule (λ to c. tt) old.node trace None new.node h.acts

  turn_stays : (t : ℕ) (old : Running) (trace : Trace) (new : Running) → On (TakeIt (Input.Local (Turn t))) old trace None new
      → StaysOn old.node trace None new.node
  turn_stays t old trace new h =
      take_gives CameAt StaysOn rule (Input.Local (Turn t)) tt old.node trace None new.node h.acts

  -- a link that begins or ends
  anew_stays : (a : ℕ) (l : Local) (old : Running) (trace : Trace) (new : Running) → Anew a (Input.Local l) old trace None new
      → StaysOn old.node trace None new.node
  anew_stays a l old trace new h =
      let b = both_of (Hears a nothing_heard) (On (TakeIt (Input.Local l))) old trace new h in
      let acts : TakeIt (Input.Local l) old.node b.back None new.node =
      subst (λ (n : NodeState). TakeIt (Input.Local l) n b.back None new.node) (ap (λ (s : Running). s.node) b.begins.2)
      b.goes_on.acts in
      subst (λ (t : Trace). StaysOn old.node t None new.node) (sym (b.split ∙ ap (λ (t : Trace). t ++ b.back) b.begins.0))
      (take_gives CameAt StaysOn rule (Input.Local l) tt old.node b.back None new.node acts)

-- a pass, whatever comes in it
module _ (defs : Defs) (net : Net) (tree : IsTree net) (few : node_count net ≤ 65536) (law : ReadLaw net) (w : ℕ) (x : World)
    (r : IsReached net x) (written : AreWritten x.history) (old : Running) (at : NodeStandsFor net x w old.node) where
  abbrev HearsThere : Running → Type 0
  HearsThere new =
      (a : ℕ) (f : Frame) → HearsFrom old new a f → IsForNodes f
      → (g : Frame) × IsCarried x a w g × (frame_bytes f ≡ frame_bytes g)

  bytes_stay : (a : ℕ) (bytes : List ℕ) (trace : Trace) (new : Running) → HearsThere new → Hear a bytes old trace None new
      → StaysOn net tree few w x old.node trace None new.node
  bytes_stay a bytes trace new sent (inr stop) = no_end stop.1
  bytes_stay a bytes trace new sent (inl h) =
      subst (λ (t : Trace). StaysOn net tree few w x old.node t None new.node)
      (sym (b.split ∙ ap (λ (t : Trace). t ++ b.back) b.begins.0))
      (frames_gives (CameAt net tree few w x) (StaysOn net tree few w x) (rule net tree few w x) (heard_at net tree few w x) a
      (is_some h.1) h.0 (all h.0 (λ f k. k)) old.node b.back None new.node acts)
    where
      b : Both (Hears a (heard_more (old.heard a) bytes h.0)) (On (Frames a (is_some h.1) h.0)) old trace None new
      b = both_of (Hears a (heard_more (old.heard a) bytes h.0)) (On (Frames a (is_some h.1) h.0)) old trace new h.3

      acts : Frames a (is_some h.1) h.0 old.node b.back None new.node
      acts =
          subst (λ (n : NodeState). Frames a (is_some h.1) h.0 n b.back None new.node) (ap (λ (s : Running). s.node) b.begins.2)
          b.goes_on.acts

      heard_is : new.heard a ≡ heard_more (old.heard a) bytes h.0
      heard_is =
          ap (λ (g : ℕ → Heard). g a) (b.goes_on.heard_ ∙ ap (λ (s : Running). s.heard) b.begins.2)
          ∙ together a (heard_more (old.heard a) bytes h.0) (old.heard a)

      came : (f : Frame) → IsIn f h.0 → (i : Input) → input_of a f ≡ Some i → CameAt net tree few w x i
      came f k i is =
          let c = sent a f (record {
            more = h.0;
            grows = ap (λ (g : Heard). g.frames) heard_is;
            among = contains_of f h.0 k;
          }) (for_nodes a f i is) in
          came_at net tree few w x a c.1.packet i c.1.sent
          (brings_it x a w (law.reads x r written) c.1.packet c.0 f ((old.heard a).bytes ++ bytes) i c.1.sent c.1.its c.2 (record {
            frames = (old.heard a).frames ++ h.0;
            are = h.2.whole;
            among = contains_of f ((old.heard a).frames ++ h.0) (in_right f (old.heard a).frames h.0 k);
          }) is)

      all : (frames : List Frame) → ((f : Frame) → IsIn f frames → IsIn f h.0)
          → AllByRecursion (λ (f : Frame). (i : Input) → input_of a f ≡ Some i → CameAt net tree few w x i) frames
      all [] within = tt
      all (f ∷ frames) within = (λ i is. came f (within f (inl refl)) i is, all frames (λ g k. within g (inr k)))

  arrival_stays : (a : Arrival) (trace : Trace) (new : Running) → HearsThere new → Arrive defs a old trace None new
      → StaysOn net tree few w x old.node trace None new.node
  arrival_stays (arrival.Bytes a bytes) trace new sent h = bytes_stay a bytes trace new sent h
  arrival_stays (arrival.Up a) trace new sent h = anew_stays net tree few w x a (Linked a) old trace new h
  arrival_stays (arrival.Down a) trace new sent h = anew_stays net tree few w x a (Unlinked a) old trace new h
  arrival_stays (arrival.Client bytes) trace new sent h =
      listen_gives (CameAt net tree few w x) (StaysOn net tree few w x) (rule net tree few w x) (heard_at net tree few w x) defs bytes
      old.node trace None new.node h.acts
  arrival_stays arrival.Nothing trace new sent h =
      subst (λ (n : NodeState). StaysOn net tree few w x old.node trace None n) (sym (ap (λ (s : Running). s.node) h.2))
      (subst (λ (t : Trace). StaysOn net tree few w x old.node t None old.node) (sym h.0)
      (λ none y g s stands. (y, stays_plain net w y old.node [] stands (outputs_none old.node [] refl))))
  arrival_stays arrival.NoMemory trace new sent h = no_end h.1

  come_stays : (trace : Trace) (new : Running) → HearsThere new → Come defs old trace None new
      → StaysOn net tree few w x old.node trace None new.node
  come_stays trace new sent h =
      let c : Comes defs old trace None new = wanted (λ o t e n. Comes defs o t e n) old trace new h in
      behind_event net tree few w x (Event.Comes c.arrived) old.node new.node c.rest trace
      (plain old.node (Event.Comes c.arrived) refl (no_arrival c.arrived)) c.split
      (arrival_stays c.arrived c.rest new sent c.arrives)

  pub pass_stays : (trace : Trace) (new : Running) → HearsThere new → TurnOf defs old trace None new
      → (y : World) × Stays net w x y old.node new.node trace
  pass_stays trace new sent h = whole refl x (grows_not net x w) r at
    where
      b : Both (Come defs) (Then (On (λ o t e n. Reports o t e n))
          (Then Probing (Then (On Advise) (On (TakeIt (Input.Local (Turn h.reading))))))) old h.rest None new
      b = both_of (Come defs) (Then (On (λ o t e n. Reports o t e n))
          (Then Probing (Then (On Advise) (On (TakeIt (Input.Local (Turn h.reading))))))) old h.rest new h.acts

      c : Both (On (λ o t e n. Reports o t e n)) (Then Probing (Then (On Advise) (On (TakeIt (Input.Local (Turn h.reading))))))
          b.middle b.back None new
      c = both_of (On (λ o t e n. Reports o t e n)) (Then Probing (Then (On Advise) (On (TakeIt (Input.Local (Turn h.reading))))))
          b.middle b.back new b.goes_on

      d : Both Probing (Then (On Advise) (On (TakeIt (Input.Local (Turn h.reading))))) c.middle c.back None new
      d = both_of Probing (Then (On Advise) (On (TakeIt (Input.Local (Turn h.reading))))) c.middle c.back new c.goes_on

      e : Both (On Advise) (On (TakeIt (Input.Local (Turn h.reading)))) d.middle d.back None new
      e = both_of (On Advise) (On (TakeIt (Input.Local (Turn h.reading)))) d.middle d.back new d.goes_on

      joins : (f g k : NodeState) (front back trace : Trace) → trace ≡ front ++ back
          → StaysOn net tree few w x f front None g → StaysOn net tree few w x g back None k → StaysOn net tree few w x f trace None k
      joins f g k front back trace split i j =
          subst (λ (t : Trace). StaysOn net tree few w x f t None k) (sym split)
          ((stays_joined net tree few w x).joins f g k front back None i j)

      same_heard : new.heard ≡ b.middle.heard
      same_heard = rest_heard h.reading b.middle b.back new b.goes_on

      come : StaysOn net tree few w x old.node b.front None b.middle.node
      come =
          come_stays b.front b.middle
          (λ a f k for. sent a f (record {
            more = k.more;
            grows = ap (λ (g : ℕ → Heard). (g a).frames) same_heard ∙ k.grows;
            among = k.among;
          }) for) b.begins

      whole : StaysOn net tree few w x old.node trace None new.node
      whole =
          behind_event net tree few w x (Event.Reads h.reading) old.node new.node h.rest trace
          (plain old.node (Event.Reads h.reading) refl (no_reading h.reading)) h.split
          (joins old.node b.middle.node new.node b.front b.back h.rest b.split come
          (joins b.middle.node c.middle.node new.node c.front c.back b.back c.split
          (report_stays net tree few w x b.middle c.front c.middle c.begins)
          (joins c.middle.node d.middle.node new.node d.front d.back c.back d.split
          (probing_stays net tree few w x c.middle d.front d.middle d.begins)
          (joins d.middle.node e.middle.node new.node e.front e.back d.back e.split
          (advise_stays net tree few w x d.middle e.front e.middle e.begins)
          (turn_stays net tree few w x h.reading e.middle e.back new e.goes_on)))))
