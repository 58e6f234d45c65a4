-- Frames that are heard are packets that are delivered, and a turn is taken: each is a way in the world.
use Rattle.std.proofs.Common.{[], ◌++◌, ◌<◌, ◌≤◌, ◌≡◌, ◌≢◌, ◌∙◌, ◌∷◌, ◌⊎◌, ℕ, Bool, List, None, Option, Some, ap, arith, false, inl, inr, refl, subst, suc, sym, true, zero}
use Rattle.std.proofs.lemmas.Bool.{eq-eqb}
use Rattle.std.proofs.lemmas.Bool.Decides.{eqb_tells}
use Rattle.std.proofs.lemmas.List.{append-nil}
use Rattle.std.specs.Option.{option_map_or, option_to_list}
use Rattle.std.specs.Prelude.{◌==◌, Err, Ok, Result, if◌then◌else◌, option_map, slice_get}
use Rattle.lemmas.proofs.Lists.{get_take}
use Rattle.lemmas.proofs.Options.{some_is}
use Rattle.model.specs.Types.{Ack, Body, Deliver, Entry, Events, Feed, Input, Launch, Mail, Net, Orders, Out, Packet, Send, Take, Turn, WorldStep}
use Rattle.model.specs.History.{list_of}
use Rattle.model.specs.Words.{nth}
use Rattle.model.specs.FreeSteps.{free_step}
use Rattle.model.specs.Invariant.{IsBacked}
use Rattle.model.specs.Network.{IsTree, node_count}
use Rattle.model.specs.Ranges.{FeedInRange}
use Rattle.model.specs.Spelling.{entry_bytes}
use Rattle.model.specs.Step.{node_step}
use Rattle.model.specs.StepFaults as faults
use Rattle.model.specs.World.{Origin, World, delivery, history_with, packet_input, packets_to, view_at}
use Rattle.model_laws.proofs.Holdings.{IsKept}
use Rattle.model_laws.proofs.NoPackets.{there_within}
use Rattle.model_laws.proofs.Options.{slice_get_all, there_if}
use Rattle.outside.specs.Calls.{Sent}
use Rattle.entry_codec.specs.Entries.{entry_in}
use Rattle.entry_codec.specs.declared.EntryFault.{EntryFault}
use Rattle.mail_frames.specs.declared.frames.Frame.{Frame}
use Rattle.mail_frames.specs.declared.frames.Frame.TheVariants as frame
use Rattle.mail_frames.specs.Spelling.{frame_bytes}
use Rattle.agent_core.specs.Nodes.{NodeState, view_in}
use Rattle.agent_core.specs.Steps.{IsTaken, effect_in, step_at}
use Rattle.agent_core.specs.declared.faults.Step.{Step}
use Rattle.node_inputs.specs.Inputs.{frame_of}
use Rattle.node_inputs.specs.Traces.{Trace, kept}
use Rattle.node_loop.specs.Frames.{entry_of, input_of}
use Rattle.network_world.specs.Standing.{NodeStandsFor}
use Rattle.network_runs.specs.Nights.{BringsPacket, StandsIn, frame_in}
use Rattle.network_runs.proofs.Carrying.{IsCarried, IsFrameIn, Readable}
use Rattle.network_runs.proofs.Counting.{apart, together}
use Rattle.network_runs.proofs.Growing.{NodeIn, at_node, history_next, moves_grow, nth_of_in, stands_again}
use Rattle.network_runs.proofs.Members.{IsIn, in_of}
use Rattle.network_runs.proofs.Stories.{Brings}
use Rattle.network_runs.proofs.Worlds.{IsReached, invariant}
use Rattle.rest_laws.specs.Left.{keeps_to}
use Rattle.rest_laws.specs.Rounds.{IsAmong, is_of_round}
use Rattle.rest_laws.specs.ToRest.{names_inside, would_keep}
use Rattle.rest_laws.proofs.Named.{named_free}
use Rattle.rest_laws.proofs.Sending.{FeedIsIn, Near}
use Rattle.rest_laws.proofs.Taken.{ack_taken, mail_taken, opened}
use Rattle.nights_at_rest.specs.Frames.{ComesIn}
use Rattle.nights_at_rest.proofs.Doing.{PassedIn, TakenIn}
use Rattle.nights_at_rest.proofs.Posts.{ArePosted, Posted, posted_at, posted_free}
use Rattle.nights_at_rest.proofs.Standing.{not_refused}
use Rattle.nights_at_rest.proofs.Taken.{Stepped, delivered, not_taken, turned}
use Rattle.nights_at_rest.proofs.Ways.{Way, own_of, stretch_one}

pub node_in : (net : Net) (x : World) (w : ℕ) (node : NodeState) → NodeStandsFor net x w node → NodeIn net x w node
node_in net x w node h = record { net_ = h.net_; me_ = h.me_; kept_ = h.kept_; session_ = h.session_ }

pub node_for : (net : Net) (x : World) (w : ℕ) (node : NodeState) → NodeIn net x w node → NodeStandsFor net x w node
node_for net x w node h = record { net_ = h.net_; me_ = h.me_; kept_ = h.kept_; session_ = h.session_ }

pub named : (net : Net) (x : World) → IsReached net x → names_inside net x ≡ true
named net x r = subst (λ (y : World). names_inside net y ≡ true) (sym r.by_them) (named_free net r.steps)

-- a packet that stands in a world is one of the network's, which its sender holds
module _ (net : Net) (tree : IsTree net) (few : node_count net ≤ 65536) (x : World) (r : IsReached net x) where
  pub posted : (a b k : ℕ) (p : Packet) → nth (x.packets a b) k ≡ Some p → Posted net a b p
  posted a b k p there =
      posted_at net x a b k p (subst (λ (y : World). ArePosted net y) (sym r.by_them) (posted_free net r.steps tree)) there

  backed : (a b k : ℕ) (p : Packet) → nth (x.packets a b) k ≡ Some p → IsBacked (x.holdings a) p
  backed a b zero p there = cc
  backed a b (suc i) p there =
      there_if (IsBacked (x.holdings a)) (slice_get (x.packets a b) i) p
      (slice_get_all (IsBacked (x.holdings a)) (x.packets a b) i ((invariant net x r).backed a b)) there

  small : (w : ℕ) → w < node_count net → w < 65536
  small w low = omega (arith, few, low)

  in_range : (f : Feed) → FeedIsIn net f → FeedInRange f
  in_range (Events w) h = small w h.0
  in_range (Orders a w) h = (small a h.0, small w h.1.0)

  -- so its frame can be made of what its sender holds
  pub framed : (w b k : ℕ) (node : NodeState) (p : Packet) → NodeStandsFor net x w node → nth (x.packets w b) k ≡ Some p
      → (f : Frame) × (frame_of node p ≡ Some f) × IsFrameIn x.history p f
  framed w b k node (Mail g zero) at there = absurd (omega (arith, (backed w b k (Mail g zero) there).0))
  framed w b k node (Mail g (suc i)) at there =
      let h = backed w b k (Mail g (suc i)) there in
      let it = there_within (list_of x.history g) (suc i) h.0 (omega (arith, h.1, (invariant net x r).within w g)) in
      let held : slice_get (view_in node g) i ≡ Some it.0 =
      ap (λ (l : List Body). slice_get l i) (at.kept_.holds_them g)
      ∙ get_take (list_of x.history g) (x.holdings w g) i (omega (arith, h.1)) ∙ it.1 in (
        frame.Mail (entry_bytes (record { feed = g; place = suc i; body = it.0 })),
        ap (option_map (λ (body : Body). frame.Mail (entry_bytes (record { feed = g; place = suc i; body = body })))) held,
        (it.0, it.1, refl),
      )
  framed w b k node (Ack g n) at there =
      (frame.Ack g n, refl, (refl, in_range g (posted w b k (Ack g n) there).kind))

  -- and one that is told to bring a packet has its frame
  its_frame : (a b k : ℕ) (p : Packet) (g : Frame) → nth (x.packets a b) k ≡ Some p → frame_in x.history p ≡ Some g
      → IsFrameIn x.history p g
  its_frame a b k (Mail f i) g there is = go (nth (list_of x.history f) i) refl is
    where
      go : (o : Option Body) → nth (list_of x.history f) i ≡ o
          → option_map (λ (body : Body). frame.Mail (entry_bytes (record { feed = f; place = i; body = body }))) o ≡ Some g
          → IsFrameIn x.history (Mail f i) g
      go None none same = cc
      go (Some body) some same = (body, some, sym (some_is same))
  its_frame a b k (Ack f n) g there is = (sym (some_is is), in_range f (posted a b k (Ack f n) there).kind)

  pub carried : (a b : ℕ) (bytes : List ℕ) → BringsPacket x a b bytes
      → (g : Frame) × IsCarried x a b g × (bytes ≡ frame_bytes g)
  carried a b bytes h =
      let among : IsIn h.packet (x.packets a b) = in_of h.packet (x.packets a b) h.sent in
      let at = nth_of_in h.packet (x.packets a b) among in (
        h.frame_,
        record { packet = h.packet; sent = among; its = its_frame a b at.0 h.packet h.frame_ at.1 h.its },
        h.bytes_,
      )

-- what is read of a frame is what its packet brings
module _ (x : World) (a b : ℕ) (read : Readable x) where
  pub brings_it : (p : Packet) (g f : Frame) (heard : List ℕ) (i : Input) → IsIn p (x.packets a b) → IsFrameIn x.history p g
      → frame_bytes f ≡ frame_bytes g → StandsIn heard f → input_of a f ≡ Some i → packet_input x a p ≡ Some i
  brings_it p g (frame.Mail bytes) heard i sent its same stands is = go (entry_in bytes) refl is
    where
      go : (o : Result Entry EntryFault) → entry_in bytes ≡ o
          → option_map (λ (e : Entry). Input.Mail a e) (entry_of o) ≡ Some i → packet_input x a p ≡ Some i
      go (Ok e) reads input = read.mail a b p g bytes e sent its same reads ∙ input
      go (Err fault) reads input = cc
  brings_it p g (frame.Ack f n) heard i sent its same stands is = read.ack a b p g f n heard sent its stands same ∙ is
  brings_it p g (frame.Command text) heard i sent its same stands is = cc
  brings_it p g (frame.Reply text) heard i sent its same stands is = cc

-- the packet that an input came by, where it came by one
abbrev mailed : Input → Packet
mailed (Input.Mail a e) = Mail e.feed e.place
mailed (Input.Ack a f n) = Ack f n
mailed (Input.Local l) = Ack (Events 0) 0

its_packet : (x : World) (a : ℕ) (p : Packet) (i : Input) → packet_input x a p ≡ Some i → mailed i ≡ p
unfolding packet_input
its_packet x a (Mail f k) i h = go (nth (list_of x.history f) k) h
  where
    go : (o : Option Body) → option_map (λ (b : Body). Input.Mail a (record { feed = f; place = k; body = b })) o ≡ Some i
        → mailed i ≡ Mail f k
    go None h = cc
    go (Some b) h = ap mailed (sym (some_is h))
its_packet x a (Ack f n) i h = ap mailed (sym (some_is h))

-- packets that bring the same are one
pub one_packet : (x z : World) (a : ℕ) (p q : Packet) (i : Input) → packet_input x a p ≡ Some i → packet_input z a q ≡ Some i
    → p ≡ q
one_packet x z a p q i h e = sym (its_packet x a p i h) ∙ its_packet z a q i e

given_to : (b : ℕ) (p : Packet) (outs : List Out) → IsIn p (packets_to b outs) → IsIn (Send b p) outs
given_to b p [] h = absurd h
given_to b p (Send to q ∷ outs) h = go (given_to b p outs) (eqb_tells to b)
  where
    go : (IsIn p (packets_to b outs) → IsIn (Send b p) outs) → ((to == b) ≡ true) × (to ≡ b) ⊎ ((to == b) ≡ false) × (to ≢ b)
        → IsIn (Send b p) (Send to q ∷ outs)
    go later (inl t) = first (subst (λ (c : Bool). IsIn p (if c then q ∷ packets_to b outs else packets_to b outs)) t.0 h)
      where
        first : IsIn p (q ∷ packets_to b outs) → IsIn (Send b p) (Send to q ∷ outs)
        first (inl e) = inl (λ i. Send (t.1 i) (e i))
        first (inr k) = inr (later k)
    go later (inr t) =
        inr (later (subst (λ (c : Bool). IsIn p (if c then q ∷ packets_to b outs else packets_to b outs)) t.0 h))
given_to b p (Launch j n work ∷ outs) h = inr (given_to b p outs h)
given_to b p (Out.Kill j n ∷ outs) h = inr (given_to b p outs h)

-- what a step keeps is the history's next where w makes it
pub history_told : (w : ℕ) (x y : World) (o : Origin) (m : Option Entry) (trace : Trace) → y.history ≡ history_with o x.history m
    → IsKept x.history (x.holdings w) w o m → kept trace ≡ option_to_list m → y.history ≡ x.history ++ own_of w (kept trace)
history_told w x y o None trace history keeps is =
    history ∙ none o ∙ sym (append-nil x.history) ∙ ap (λ (l : List Entry). x.history ++ own_of w l) (sym is)
  where
    none : (o : Origin) → history_with o x.history None ≡ x.history
    none Origin.Own = refl
    none Origin.Mailed = refl
history_told w x y o (Some e) trace history keeps is =
    history ∙ history_next w o x.history (x.holdings w) e keeps ∙ ap (λ (l : List Entry). x.history ++ own_of w l) (sym is)

-- one step as a way
record StepWay (net : Net) (reads : ℕ → ℕ) (w : ℕ) (x y : World) (old new : NodeState) (trace : Trace) (s : WorldStep) : Type 0 where
  pub way : Way net reads w x y old new trace
  pub comes : (a b k : ℕ) (p : Packet) → s ≡ Deliver a b k → nth (x.packets a b) k ≡ Some p → ComesIn net reads x y way.stretch a b p
  pub among : IsAmong s way.stretch.steps

-- the step of an input that is taken is a way
module _ (net : Net) (tree : IsTree net) (few : node_count net ≤ 65536) (reads : ℕ → ℕ) (w : ℕ) (x : World)
    (r : IsReached net x) (old : NodeState) (at : NodeStandsFor net x w old) where
  pub node_effect_is : (i : Input) (step_ : Step) (new : NodeState) → IsTaken old i step_ new
      → node_step net w (view_at x w) (x.sessions w) i ≡ Ok (effect_in step_ new)
  node_effect_is i step_ new taken = sym (at_node net x w old i (node_in net x w old at)) ∙ taken.effect

  node_refuses : (i : Input) (f : faults.StepFault) → step_at old i ≡ Err f
      → node_step net w (view_at x w) (x.sessions w) i ≡ Err f
  node_refuses i f due = sym (at_node net x w old i (node_in net x w old at)) ∙ due

  way_of : (s : WorldStep) (o : Origin) (y : World) (i : Input) (trace : Trace) (new : NodeState) (t : TakenIn w i old trace new)
      → is_of_round s ≡ true → keeps_to (λ w. reads w ∷ []) s ≡ true
      → Stepped net x y w s o (effect_in t.step_ new) → StepWay net reads w x y old new trace s
  way_of s o y i trace new t of keep step =
      record { way = whole; comes = λ a b k p is there. inl (k, is, there); among = inl refl }
    where
      here : NodeStandsFor net y w new
      here = node_for net y w new (stands_again net x y w o old new i t.step_ r (node_in net x w old at) t.taken step.moves)

      frame_there : (b : ℕ) (p : Packet) → IsIn (Send b p) t.step_.outs
          → (f : Frame) × (frame_of new p ≡ Some f) × IsFrameIn y.history p f
      frame_there b p given =
          let place = nth_of_in p (y.packets w b) (step.moves.sends b p given) in
          framed net tree few y (step.moves.reached r) w b place.0 new p here place.1

      carries : (call : Sent) → Brings new t.step_.outs call
          → (g : Frame) × IsCarried y w call.to g × (call.bytes ≡ frame_bytes g)
      carries call b =
          let its = frame_there call.to b.packet b.given in
          let same : its.0 ≡ b.frame_ = some_is (sym its.1 ∙ b.is) in (
            b.frame_,
            record {
              packet = b.packet;
              sent = step.moves.sends call.to b.packet b.given;
              its = subst (IsFrameIn y.history b.packet) same its.2;
            },
            b.bytes_,
          )

      whole : Way net reads w x y old new trace
      whole = record {
        stretch = stretch_one net reads x y s of keep step.step_;
        grows = moves_grow net x y w o (effect_in t.step_ new) step.moves;
        here = here;
        history_ =
            history_told w x y o t.step_.kept trace step.moves.history_ step.keeps t.keeps;
        disk = t.taken.kept ∙ ap (λ (l : List Entry). old.kept ++ l) (sym t.keeps);
        lanes = λ a b other.
            ap (λ (f : ℕ → ℕ → List Packet). f a b) step.packets_
            ∙ ap (λ (l : ℕ → List Packet). l b)
            (apart a w (λ c. x.packets w c ++ packets_to c t.step_.outs) (x.packets a) (λ e. other (sym e)));
        posts = λ b. record {
          rest = packets_to b t.step_.outs;
          more =
              ap (λ (f : ℕ → ℕ → List Packet). f w b) step.packets_
              ∙ ap (λ (l : ℕ → List Packet). l b) (together w (λ c. x.packets w c ++ packets_to c t.step_.outs) (x.packets w));
          each = λ p k.
              let given : IsIn (Send b p) t.step_.outs = given_to b p t.step_.outs k in
              let its = frame_there b p given in (its.0, its.2, t.sends.all_sent b p its.0 given its.1);
        };
        sent_ = λ call k. carries call (t.sends.only call k);
      }

  -- a frame that came
  pub frame_way : (a k : ℕ) (q : Packet) (i : Input) (trace : Trace) (new : NodeState) → nth (x.packets a w) k ≡ Some q
      → packet_input x a q ≡ Some i → TakenIn w i old trace new ⊎ PassedIn i old trace new
      → (y : World) × (g : Way net reads w x y old new trace)
      × ((z : World) (p : Packet) → packet_input z a p ≡ Some i → ComesIn net reads x y g.stretch a w p)
  frame_way a k q i trace new there is (inl t) =
      let brought : delivery x a w k ≡ Some i = ap (λ (o : Option Packet). option_map_or (packet_input x a) o None) there ∙ is in
      let it = delivered net x a w k i (effect_in t.step_ new) brought (node_effect_is i t.step_ new t.taken) in
      let step = way_of (Deliver a w k) Origin.Mailed it.0 i trace new t refl refl it.1 in (
        it.0,
        step.way,
        λ z p same. step.comes a w k p refl (there ∙ ap Some (one_packet x z a q p i is same)),
      )
  frame_way a k q i trace new there is (inr p) =
      absurd (not_taken net x _ a w k i p.over.cause brought (node_refuses i p.over.cause p.over.due) (taken q there).1)
    where
      brought : delivery x a w k ≡ Some i
      brought = ap (λ (o : Option Packet). option_map_or (packet_input x a) o None) there ∙ is

      taken : (q : Packet) → nth (x.packets a w) k ≡ Some q → (z : World) × (free_step net x (Deliver a w k) ≡ Ok z)
      taken (Mail f m) here =
          let near : Near net a w = (posted net tree few x r a w k (Mail f m) here).near in
          let open_ = opened net x a w (invariant net x r) (named net x r) near f m k here in
          (_, mail_taken net x a w (invariant net x r) (named net x r) near f m open_.0 open_.1 k here)
      taken (Ack f n) here =
          let its = posted net tree few x r a w k (Ack f n) here in
          (_, ack_taken net x a w (invariant net x r) (named net x r) its.near f n k its.kind here)

  -- the turn
  pub turn_way : (t : ℕ) (trace : Trace) (new : NodeState) → w < node_count net → reads w ≡ t
      → faults.is_too_long (would_keep net x w t) ≡ false
      → TakenIn w (Input.Local (Turn t)) old trace new ⊎ PassedIn (Input.Local (Turn t)) old trace new
      → (y : World) × (g : Way net reads w x y old new trace) × IsAmong (Take w (Turn t)) g.stretch.steps
  turn_way t trace new w_in reading short (inl k) =
      let it = turned net x w t (effect_in k.step_ new) (node_effect_is (Input.Local (Turn t)) k.step_ new k.taken) in
      let step =
      way_of (Take w (Turn t)) Origin.Own it.0 (Input.Local (Turn t)) trace new k refl (rw (eq-eqb (reads w) t reading) refl) it.1 in
      (it.0, step.way, step.among)
  turn_way t trace new w_in reading short (inr p) =
      absurd (not_refused net x w t (invariant net x r) w_in old at short new p.over)
