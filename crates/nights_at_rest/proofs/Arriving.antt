-- Frames that are heard in a pass are deliveries, one behind the other, and an arrival is a way in the world.
use Rattle.std.proofs.Common.{[], ◌++◌, ◌≤◌, ◌≡◌, ◌≢◌, ◌∙◌, ◌∷◌, ◌⊎◌, ℕ, Bool, List, None, Option, Some, ap, false, inl, inr, refl, subst, sym, true}
use Rattle.std.proofs.lemmas.Bool.Decides.{eqb_tells}
use Rattle.std.proofs.lemmas.List.{append-nil}
use Rattle.std.specs.Prelude.{◌==◌, is_some}
use Rattle.composer_parser.specs.declared.Defs.{Defs}
use Rattle.model.specs.Types.{Entry, Input, Local, Net, Packet, Unlinked}
use Rattle.model.specs.Words.{with_at}
use Rattle.model.specs.Network.{IsTree, node_count}
use Rattle.model.specs.World.{World, packet_input}
use Rattle.outside.specs.Calls.{Asked, Sent}
use Rattle.outside.specs.declared.links.Arrival.{Arrival}
use Rattle.outside.specs.declared.links.Arrival.TheVariants as arrival
use Rattle.mail_frames.specs.declared.frames.Frame.{Frame}
use Rattle.mail_frames.specs.declared.frames.Frame.TheVariants as frame
use Rattle.mail_frames.specs.Spelling.{frame_bytes}
use Rattle.agent_core.specs.Nodes.{NodeState}
use Rattle.node_inputs.specs.Actions.{Both, Call, IfThere, Nothing, Then}
use Rattle.node_inputs.specs.Inputs.{Lose, Take as TakeIt, TakeQuietly}
use Rattle.node_inputs.specs.Traces.{Event, Trace, kept}
use Rattle.node_inputs.proofs.Fronts.{kept-append}
use Rattle.node_loop.specs.Frames.{Frames, input_of}
use Rattle.node_loop.specs.Heard.{Heard, heard_more}
use Rattle.node_loop.specs.Runs.{Arrive, Come, Comes, Hear, Hears, On, Running, running_with}
use Rattle.network_world.specs.Standing.{NodeStandsFor}
use Rattle.network_runs.specs.Nights.{IsForNodes, IsWritten, StandsIn}
use Rattle.network_runs.proofs.Carrying.{AreWritten, IsCarried, ReadLaw, carried_on}
use Rattle.network_runs.proofs.Counting.{apart, together}
use Rattle.network_runs.proofs.Growing.{nth_of_in}
use Rattle.network_runs.proofs.Members.{IsIn, contains_of, in_left, in_right}
use Rattle.network_runs.proofs.Worlds.{IsReached}
use Rattle.nights_at_rest.specs.Frames.{ComesIn, Stretch}
use Rattle.nights_at_rest.specs.NodeRounds.{is_inside}
use Rattle.nights_at_rest.specs.Passes.{HearsFrom}
use Rattle.nights_at_rest.proofs.Doing.{AreInside, Outputs, back_in, front_in, outputs_none, plain, take_inside}
use Rattle.nights_at_rest.proofs.Hearing.{brings_it, frame_way}
use Rattle.nights_at_rest.proofs.StillParts.{both_of, no_end, not_still, wanted}
use Rattle.nights_at_rest.proofs.Ways.{JoinedWay, Way, way_on, way_plain, written_on}

-- a frame that w heard whole from a is the input of a packet, which is delivered in this stretch
pub record Delivers (net : Net) (reads : ℕ → ℕ) (w a : ℕ) (x y : World) (s : Stretch net reads x y) (f : Frame) : Type 0 where
  pub heard : List ℕ
  pub stands : StandsIn heard f
  pub input : Input
  pub is : input_of a f ≡ Some input
  pub comes : (z : World) (p : Packet) → packet_input z a p ≡ Some input → ComesIn net reads x y s a w p

pub delivers_on : (net : Net) (reads : ℕ → ℕ) (w a : ℕ) (u v x y : World) (s : Stretch net reads u v) (t : Stretch net reads x y)
    (f : Frame) → ((a b : ℕ) (p : Packet) → ComesIn net reads u v s a b p → ComesIn net reads x y t a b p)
    → Delivers net reads w a u v s f → Delivers net reads w a x y t f
delivers_on net reads w a u v x y s t f more d = record {
  heard = d.heard;
  stands = d.stands;
  input = d.input;
  is = d.is;
  comes = λ z p same. more a w p (d.comes z p same);
}

-- the frames of an arrival
record FramesWay (net : Net) (reads : ℕ → ℕ) (w a : ℕ) (x : World) (old new : NodeState) (trace : Trace) (frames : List Frame) : Type 0 where
  pub world : World
  pub way : Way net reads w x world old new trace
  pub comes : (f : Frame) → IsIn f frames → Delivers net reads w a x world way.stretch f

pub kept_front : (e : Entry) (trace front back : Trace) → trace ≡ front ++ back → IsIn e (kept front) → IsIn e (kept trace)
kept_front e trace front back split k =
    subst (λ (t : Trace). IsIn e (kept t)) (sym split)
    (subst (IsIn e) (sym (kept-append front back)) (in_left e (kept front) (kept back) k))

kept_back : (e : Entry) (trace front back : Trace) → trace ≡ front ++ back → IsIn e (kept back) → IsIn e (kept trace)
kept_back e trace front back split k =
    subst (λ (t : Trace). IsIn e (kept t)) (sym split)
    (subst (IsIn e) (sym (kept-append front back)) (in_right e (kept front) (kept back) k))

pub for_nodes : (a : ℕ) (f : Frame) (i : Input) → input_of a f ≡ Some i → IsForNodes f
for_nodes a (frame.Mail bytes) i is = tt
for_nodes a (frame.Ack f n) i is = tt
for_nodes a (frame.Command text) i is = cc
for_nodes a (frame.Reply text) i is = cc

not_lost : {P : Type 0} (w a : ℕ) (old : NodeState) (trace : Trace) (new : NodeState) → AreInside w trace
    → Lose a old trace None new → P
not_lost w a old trace new each h =
    let b = both_of (Call (Event.Asks (Asked.Close a))) (TakeQuietly (Input.Local (Unlinked a))) old trace new h in
    not_still (subst (AreInside w) b.begins.0 (front_in w trace b.front b.back b.split each)).0

module _ (net : Net) (tree : IsTree net) (few : node_count net ≤ 65536) (law : ReadLaw net) (reads : ℕ → ℕ) (w a : ℕ)
    (heard : List ℕ) where
  abbrev AreSent : World → List Frame → Type 0
  AreSent x frames =
      (f : Frame) → IsIn f frames → IsForNodes f → (g : Frame) × IsCarried x a w g × (frame_bytes f ≡ frame_bytes g)

  -- all frames of a list that was heard
  abbrev AreFramed : Bool → List Frame → Type 0
  AreFramed bad frames =
      (x : World) (old : NodeState) (trace : Trace) (new : NodeState) → IsReached net x → AreWritten x.history
      → NodeStandsFor net x w old → AreInside w trace → ((e : Entry) → IsIn e (kept trace) → IsWritten e)
      → ((f : Frame) → IsIn f frames → StandsIn heard f) → AreSent x frames → Frames a bad frames old trace None new
      → FramesWay net reads w a x old new trace frames

  frames_way : (bad : Bool) (frames : List Frame) → AreFramed bad frames
  frames_way true [] x old trace new r written at each more stand sent h = not_lost w a old trace new each h
  frames_way false [] x old trace new r written at each more stand sent h =
      record {
        world = x;
        way =
            subst (λ (n : NodeState). Way net reads w x x old n trace) (sym h.2)
            (way_plain net reads w x old trace at (outputs_none old trace h.0));
        comes = λ f k. absurd k;
      }
  frames_way bad (f ∷ rest) x old trace new r written at each more stand sent h =
      go (frames_way bad rest) (input_of a f) refl
      (wanted (IfThere (input_of a f) (λ (i : Input). Then (TakeIt i) (Frames a bad rest)) (Lose a)) old trace new h)
    where
      go : AreFramed bad rest → (o : Option Input) → input_of a f ≡ o
          → IfThere o (λ (i : Input). Then (TakeIt i) (Frames a bad rest)) (Lose a) old trace None new
          → FramesWay net reads w a x old new trace (f ∷ rest)
      go later None is k = not_lost w a old trace new each k
      go later (Some i) is k =
          let b = both_of (TakeIt i) (Frames a bad rest) old trace new k in
          let c = sent f (inl refl) (for_nodes a f i is) in
          let place = nth_of_in c.1.packet (x.packets a w) c.1.sent in
          let brought : packet_input x a c.1.packet ≡ Some i =
          brings_it x a w (law.reads x r written) c.1.packet c.0 f heard i c.1.sent c.1.its c.2 (stand f (inl refl)) is in
          let first = frame_way net tree few reads w x r old at a place.0 c.1.packet i b.front b.middle place.1 brought
          (take_inside w i old b.front b.middle (front_in w trace b.front b.back b.split each) b.begins) in
          let g : Way net reads w x first.0 old b.middle b.front = first.1 in
          let others = later first.0 b.middle b.back new (g.grows.reached r)
          (written_on net reads w x first.0 old b.middle b.front g written (λ e i. more e (kept_front e trace b.front b.back b.split i)))
          g.here (back_in w trace b.front b.back b.split each) (λ e i. more e (kept_back e trace b.front b.back b.split i))
          (λ d i. stand d (inr i))
          (λ d i for. let it = sent d (inr i) for in (it.0, carried_on net x first.0 w a w it.0 g.grows it.1, it.2)) b.goes_on in
          let joined : JoinedWay net reads w x first.0 others.world old b.middle new b.front b.back g.stretch others.way.stretch =
          way_on net reads w x first.0 others.world old b.middle new b.front b.back g others.way in
          subst (λ (t : Trace). FramesWay net reads w a x old new t (f ∷ rest)) (sym b.split) (record {
            world = others.world;
            way = joined.way;
            comes = λ d among.
                elim among [
                  | inl e ↦ subst (Delivers net reads w a x others.world joined.way.stretch) e (record {
                    heard = heard;
                    stands = stand f (inl refl);
                    input = i;
                    is = is;
                    comes = λ z p same. joined.first a w p (first.2 z p same);
                  })
                  | inr behind ↦ delivers_on net reads w a first.0 others.world x others.world others.way.stretch joined.way.stretch d
                      joined.then_ (others.comes d behind)
                ];
          })

-- what is heard of each in a way
pub record HeardOf (net : Net) (reads : ℕ → ℕ) (w : ℕ) (x y : World) (s : Stretch net reads x y) (old new : Running) (a : ℕ) : Type 0 where
  pub more : List Frame
  pub grows : (new.heard a).frames ≡ (old.heard a).frames ++ more
  pub comes : (f : Frame) → IsIn f more → Delivers net reads w a x y s f

-- one arrival
pub record ComeWay (net : Net) (reads : ℕ → ℕ) (w : ℕ) (x : World) (old new : Running) (trace : Trace) : Type 0 where
  pub world : World
  pub way : Way net reads w x world old.node new.node trace
  pub hears : (a : ℕ) → HeardOf net reads w x world way.stretch old new a

pub no_arrival : (a : Arrival) (call : Sent) → Event.Comes a ≡ Event.Sends call → ⊥
no_arrival a call q = cc

module _ (net : Net) (tree : IsTree net) (few : node_count net ≤ 65536) (law : ReadLaw net) (reads : ℕ → ℕ) (w : ℕ)
    (x : World) (r : IsReached net x) (written : AreWritten x.history) (old : Running)
    (at : NodeStandsFor net x w old.node) where
  abbrev pub HearsSent : Running → Type 0
  HearsSent new =
      (a : ℕ) (f : Frame) → HearsFrom old new a f → IsForNodes f
      → (g : Frame) × IsCarried x a w g × (frame_bytes f ≡ frame_bytes g)

  nothing_comes : (event : Event) (rest trace : Trace) (new : Running) → Outputs old.node [] (event ∷ []) → trace ≡ event ∷ rest
      → rest ≡ [] → new ≡ old → ComeWay net reads w x old new trace
  nothing_comes event rest trace new out split none same =
      subst (λ (t : Trace). ComeWay net reads w x old new t) (sym (split ∙ ap (λ (t : Trace). event ∷ t) none))
      (subst (λ (n : Running). ComeWay net reads w x old n (event ∷ [])) (sym same)
      (record {
        world = x;
        way = way_plain net reads w x old.node (event ∷ []) at out;
        hears = λ a. record { more = []; grows = sym (append-nil (old.heard a).frames); comes = λ f k. absurd k };
      }))

  -- bytes of a workstation
  bytes_come : (a : ℕ) (bytes : List ℕ) (rest trace : Trace) (new : Running) → trace ≡ Event.Comes (arrival.Bytes a bytes) ∷ rest
      → AreInside w trace → ((e : Entry) → IsIn e (kept trace) → IsWritten e) → HearsSent new
      → Hear a bytes old rest None new → ComeWay net reads w x old new trace
  bytes_come a bytes rest trace new split each more sent (inr stop) = no_end stop.1
  bytes_come a bytes rest trace new split each more sent (inl h) =
      subst (λ (t : Trace). ComeWay net reads w x old new t) (sym (split ∙ ap (λ (t : Trace). event ∷ t) rest_is)) (record {
        world = f.world;
        way = joined.way;
        hears = λ c. heard_of c (eqb_tells c a);
      })
    where
      event : Event
      event = Event.Comes (arrival.Bytes a bytes)

      frames : List Frame
      frames = h.0

      all : Heard
      all = heard_more (old.heard a) bytes frames

      b : Both (Hears a all) (On (Frames a (is_some h.1) frames)) old rest None new
      b = both_of (Hears a all) (On (Frames a (is_some h.1) frames)) old rest new h.3

      rest_is : rest ≡ b.back
      rest_is = b.split ∙ ap (λ (t : Trace). t ++ b.back) b.begins.0

      middle_is : b.middle ≡ running_with old.node (with_at a all old.heard) old.asked
      middle_is = b.begins.2

      heard_is : (c : ℕ) → new.heard c ≡ with_at a all old.heard c
      heard_is c = ap (λ (g : ℕ → Heard). g c) (b.goes_on.heard_ ∙ ap (λ (s : Running). s.heard) middle_is)

      grows_here : (new.heard a).frames ≡ (old.heard a).frames ++ frames
      grows_here = ap (λ (g : Heard). g.frames) (heard_is a ∙ together a all (old.heard a))

      inside : AreInside w rest
      inside = (subst (AreInside w) split each).1

      kept_rest : (e : Entry) → IsIn e (kept b.back) → IsWritten e
      kept_rest e k =
          more e (kept_back e trace (event ∷ []) b.back (split ∙ ap (λ (t : Trace). event ∷ t) rest_is) k)

      acts : Frames a (is_some h.1) frames old.node b.back None new.node
      acts =
          subst (λ (n : NodeState). Frames a (is_some h.1) frames n b.back None new.node) (ap (λ (s : Running). s.node) middle_is)
          b.goes_on.acts

      f : FramesWay net reads w a x old.node new.node b.back frames
      f =
          frames_way net tree few law reads w a ((old.heard a).bytes ++ bytes) (is_some h.1) frames x old.node b.back new.node r
          written at (subst (AreInside w) rest_is inside) kept_rest
          (λ d k. record {
            frames = (old.heard a).frames ++ frames;
            are = h.2.whole;
            among = contains_of d ((old.heard a).frames ++ frames) (in_right d (old.heard a).frames frames k);
          })
          (λ d k for. sent a d (record { more = frames; grows = grows_here; among = contains_of d frames k }) for) acts

      joined : JoinedWay net reads w x x f.world old.node old.node new.node (event ∷ []) b.back (way_plain net reads w x old.node (event ∷ []) at (plain old.node event refl (no_arrival (arrival.Bytes a bytes)))).stretch f.way.stretch
      joined =
          way_on net reads w x x f.world old.node old.node new.node (event ∷ []) b.back
          (way_plain net reads w x old.node (event ∷ []) at (plain old.node event refl (no_arrival (arrival.Bytes a bytes)))) f.way

      heard_of : (c : ℕ) → ((c == a) ≡ true) × (c ≡ a) ⊎ ((c == a) ≡ false) × (c ≢ a)
          → HeardOf net reads w x f.world joined.way.stretch old new c
      heard_of c (inl t) =
          subst (HeardOf net reads w x f.world joined.way.stretch old new) (sym t.1) (record {
            more = frames;
            grows = grows_here;
            comes = λ d k. delivers_on net reads w a x f.world x f.world f.way.stretch joined.way.stretch d joined.then_ (f.comes d k);
          })
      heard_of c (inr t) = record {
        more = [];
        grows =
            ap (λ (g : Heard). g.frames) (heard_is c ∙ apart c a all (old.heard c) (λ e. t.1 (sym e)))
            ∙ sym (append-nil (old.heard c).frames);
        comes = λ d k. absurd k;
      }

  pub come_way : (defs : Defs) (trace : Trace) (new : Running) → AreInside w trace → ((e : Entry) → IsIn e (kept trace) → IsWritten e)
      → HearsSent new → Come defs old trace None new → ComeWay net reads w x old new trace
  come_way defs trace new each more sent h = go c.arrived c.split c.arrives
    where
      c : Comes defs old trace None new
      c = wanted (λ o t e n. Comes defs o t e n) old trace new h

      event_in : (a : Arrival) → trace ≡ Event.Comes a ∷ c.rest → is_inside w (Event.Comes a) ≡ true
      event_in a split = (subst (AreInside w) split each).0

      go : (a : Arrival) → trace ≡ Event.Comes a ∷ c.rest → Arrive defs a old c.rest None new → ComeWay net reads w x old new trace
      go (arrival.Bytes a bytes) split k = bytes_come a bytes c.rest trace new split each more sent k
      go (arrival.Up a) split k = not_still (event_in (arrival.Up a) split)
      go (arrival.Down a) split k = not_still (event_in (arrival.Down a) split)
      go (arrival.Client bytes) split k = not_still (event_in (arrival.Client bytes) split)
      go arrival.Nothing split k =
          nothing_comes (Event.Comes arrival.Nothing) c.rest trace new
          (plain old.node (Event.Comes arrival.Nothing) refl (no_arrival arrival.Nothing)) split k.0 k.2
      go arrival.NoMemory split k = not_still (event_in arrival.NoMemory split)
