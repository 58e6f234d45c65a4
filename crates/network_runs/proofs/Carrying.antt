-- What was sent is there: each frame is that of a packet of the world, and what is heard of it is delivered.
use Rattle.std.proofs.Common.{[], ◌++◌, ◌≡◌, ◌≤◌, ◌∙◌, ◌∷◌, ℕ, List, None, Option, Some, ap, refl, subst, suc, sym, zero}
use Rattle.std.specs.Option.{option_map_or}
use Rattle.std.specs.Prelude.{Ok, option_map, slice_get, take}
use Rattle.lemmas.proofs.Lists.{get_in_front}
use Rattle.model.specs.Types.{Ack, Body, Entry, Feed, Input, Launch, Mail, Net, Out, Packet, Send, Work}
use Rattle.model.specs.Words.{nth}
use Rattle.model.specs.History.{list_of}
use Rattle.model.specs.Kept.{HasKept}
use Rattle.model.specs.Spelling.{entry_bytes}
use Rattle.model.specs.World.{Origin, World, delivery, packet_input, view_at}
use Rattle.model.specs.Network.{node_count}
use Rattle.model.specs.Ranges.{FeedInRange}
use Rattle.model_laws.proofs.Feeds.{list_of-append}
use Rattle.entry_codec.specs.Entries.{entry_in}
use Rattle.mail_frames.specs.declared.frames.Frame.{Frame}
use Rattle.mail_frames.specs.declared.frames.Frame.TheVariants as frame
use Rattle.mail_frames.specs.Spelling.{frame_bytes}
use Rattle.agent_core.specs.Nodes.{NodeState, view_in}
use Rattle.agent_core.specs.Steps.{IsTaken, effect_in}
use Rattle.agent_core.specs.declared.faults.Step.{Step}
use Rattle.node_inputs.specs.Traces.{Trace}
use Rattle.node_inputs.specs.Inputs.{frame_of}
use Rattle.network_runs.specs.Happenings.{heard_from}
use Rattle.network_runs.specs.Nights.{BringsPacket, IsForNodes, IsWritten, StandsIn, frame_in}
use Rattle.network_runs.proofs.Acks.{IsAckInRange, sent_in_range}
use Rattle.network_runs.proofs.Growing.{Grows, IsThere, NodeIn, at_node, nth_of_in}
use Rattle.network_runs.proofs.Stories.{CameBy}
use Rattle.network_runs.proofs.Worlds.{IsReached, Moves}
use Rattle.network_runs.proofs.Members.{IsIn, contains_of}

nth_more : {X : Type 0} (xs ys : List X) (k : ℕ) (x : X) → nth xs k ≡ Some x → nth (xs ++ ys) k ≡ Some x
nth_more xs ys zero x e = cc
nth_more xs ys (suc k) x e = get_in_front xs ys k x e

get_taken : {X : Type 0} (n : ℕ) (xs : List X) (k : ℕ) (x : X) → slice_get (take n xs) k ≡ Some x → slice_get xs k ≡ Some x
get_taken zero xs k x e = cc
get_taken (suc n) [] k x e = cc
get_taken (suc n) (z ∷ xs) zero x e = e
get_taken (suc n) (z ∷ xs) (suc k) x e = get_taken n xs k x e

nth_taken : {X : Type 0} (n : ℕ) (xs : List X) (k : ℕ) (x : X) → nth (take n xs) k ≡ Some x → nth xs k ≡ Some x
nth_taken n xs zero x e = cc
nth_taken n xs (suc k) x e = get_taken n xs k x e

-- the frame of a packet, by the history
abbrev pub IsFrameIn : List Entry → Packet → Frame → Type 0
IsFrameIn G (Mail g k) f =
    (body : Body) × (nth (list_of G g) k ≡ Some body)
    × (f ≡ frame.Mail (entry_bytes (record { feed = g; place = k; body = body })))
IsFrameIn G (Ack g n) f = (f ≡ frame.Ack g n) × FeedInRange g

pub frame_grows : (G H : List Entry) (p : Packet) (f : Frame) → IsFrameIn G p f → IsFrameIn (G ++ H) p f
frame_grows G H (Mail g k) f h =
    (h.0, ap (λ (l : List Body). nth l k) (list_of-append G H g) ∙ nth_more (list_of G g) (list_of H g) k h.0 h.1, h.2)
frame_grows G H (Ack g n) f h = h

-- a packet from a to b has this frame
pub record IsCarried (x : World) (a b : ℕ) (f : Frame) : Type 0 where
  pub packet : Packet
  pub sent : IsIn packet (x.packets a b)
  pub its : IsFrameIn x.history packet f

-- the definitions say so of its bytes
pub brings : (x : World) (a b : ℕ) (f : Frame) (bytes : List ℕ) → IsCarried x a b f → bytes ≡ frame_bytes f → BringsPacket x a b bytes
brings x a b f bytes c is = record {
  packet = c.packet;
  sent = contains_of c.packet (x.packets a b) c.sent;
  frame_ = f;
  its = go c.packet c.its;
  bytes_ = is;
}
  where
    go : (p : Packet) → IsFrameIn x.history p f → frame_in x.history p ≡ Some f
    go (Mail g k) h =
        ap (option_map (λ (body : Body). frame.Mail (entry_bytes (record { feed = g; place = k; body = body })))) h.1 ∙ ap Some (sym h.2)
    go (Ack g n) h = ap Some (sym h.0)

pub carried_on : (net : Net) (x y : World) (w a b : ℕ) (f : Frame) → Grows net x y w → IsCarried x a b f → IsCarried y a b f
carried_on net x y w a b f g c = record {
  packet = c.packet;
  sent = g.sent a b c.packet c.sent;
  its = subst (λ (G : List Entry). IsFrameIn G c.packet f) (sym g.history_) (frame_grows x.history g.more c.packet f c.its);
}

frame_is : (net : Net) (x : World) (w : ℕ) (node : NodeState) (p : Packet) (f : Frame) → HasKept net x w node.kept
    → IsAckInRange p → frame_of node p ≡ Some f → IsFrameIn x.history p f
frame_is net x w node (Mail g k) f h ranged e = go (nth (view_in node g) k) refl e
  where
    go : (o : Option Body) → nth (view_in node g) k ≡ o
        → option_map (λ (body : Body). frame.Mail (entry_bytes (record { feed = g; place = k; body = body }))) o ≡ Some f
        → IsFrameIn x.history (Mail g k) f
    go None is same = cc
    go (Some body) is same = (
      body,
      nth_taken (x.holdings w g) (list_of x.history g) k body
          (sym (ap (λ (l : List Body). nth l k) (h.holds_them g)) ∙ is),
      sym (frame_same same),
    )
      where
        frame_same : Some (frame.Mail (entry_bytes (record { feed = g; place = k; body = body }))) ≡ Some f
            → frame.Mail (entry_bytes (record { feed = g; place = k; body = body })) ≡ f
        frame_same q = cc
frame_is net x w node (Ack g n) f h ranged e = (sym (frame_same e), ranged)
  where
    frame_same : Some (frame.Ack g n) ≡ Some f → frame.Ack g n ≡ f
    frame_same q = cc

-- what the last step of a node gave out is in the world
pub record OutsIn (x : World) (w : ℕ) (node : NodeState) (outs : List Out) : Type 0 where
  pub sends : (to : ℕ) (p : Packet) (f : Frame) → IsIn (Send to p) outs → frame_of node p ≡ Some f → IsCarried x w to f
  pub starts : (j n : ℕ) (work : Work) → IsIn (Launch j n work) outs → IsIn (record { ws = w; job = j; number = n }) x.starts

pub outs_none : (x : World) (w : ℕ) (node : NodeState) → OutsIn x w node []
outs_none x w node = record { sends = λ to p f h e. absurd h; starts = λ j n work h. absurd h }

pub outs_on : (net : Net) (x y : World) (v w : ℕ) (node : NodeState) (outs : List Out) → Grows net x y v → OutsIn x w node outs
    → OutsIn y w node outs
outs_on net x y v w node outs g h = record {
  sends = λ to p f i e. carried_on net x y v w to f g (h.sends to p f i e);
  starts = λ j n work i. g.started (record { ws = w; job = j; number = n }) (h.starts j n work i);
}

pub outs_in : (net : Net) (x y : World) (w : ℕ) (o : Origin) (old : NodeState) (input : Input) (step : Step) (new : NodeState)
    → node_count net ≤ 65536 → NodeIn net x w old → IsTaken old input step new
    → Moves net x y w o (effect_in step new) → NodeIn net y w new → OutsIn y w new step.outs
outs_in net x y w o old input step new few at taken m h = record {
  sends = λ to p f i e. record {
    packet = p;
    sent = m.sends to p i;
    its =
        frame_is net y w new p f h.kept_
        (sent_in_range net w (view_at x w) (x.sessions w) input (effect_in step new) few
        (sym (at_node net x w old input at) ∙ taken.effect) to p i) e;
  };
  starts = λ j n work i. m.starts (record { ws = w; job = j; number = n }) (Launch j n work) i refl;
}

-- each frame for nodes that was heard is that of a packet
abbrev pub Links : World → ℕ → Trace → Type 0
Links x w past =
    (a : ℕ) (f : Frame) → StandsIn (heard_from a past) f → IsForNodes f
    → (g : Frame) × IsCarried x a w g × (frame_bytes f ≡ frame_bytes g)

pub links_on : (net : Net) (x y : World) (v w : ℕ) (past : Trace) → Grows net x y v → Links x w past → Links y w past
links_on net x y v w past g h = λ a f stands is.
    let it = h a f stands is in (it.0, carried_on net x y v a w it.0 g it.1, it.2)

abbrev pub AreWritten : List Entry → Type 0
AreWritten G = (e : Entry) → IsIn e G → IsWritten e

-- what is read of the bytes of a packet's frame is what the packet brings
pub record Readable (x : World) : Type 0 where
  pub mail : (a b : ℕ) (p : Packet) (g : Frame) (bytes : List ℕ) (e : Entry) → IsIn p (x.packets a b) → IsFrameIn x.history p g
      → frame_bytes (frame.Mail bytes) ≡ frame_bytes g → entry_in bytes ≡ Ok e → packet_input x a p ≡ Some (Input.Mail a e)
  pub ack : (a b : ℕ) (p : Packet) (g : Frame) (f : Feed) (n : ℕ) (heard : List ℕ) → IsIn p (x.packets a b)
      → IsFrameIn x.history p g → StandsIn heard (frame.Ack f n) → frame_bytes (frame.Ack f n) ≡ frame_bytes g
      → packet_input x a p ≡ Some (Input.Ack a f n)

-- the network has no more workstations than two bytes can tell, and what was sent is read
pub record ReadLaw (net : Net) : Type 0 where
  pub few : node_count net ≤ 65536
  pub reads : (x : World) → IsReached net x → AreWritten x.history → Readable x

brought : (x : World) (a b : ℕ) (p : Packet) (i : Input) → IsIn p (x.packets a b) → packet_input x a p ≡ Some i
    → (k : ℕ) × (delivery x a b k ≡ Some i)
brought x a b p i h e =
    let at = nth_of_in p (x.packets a b) h in
    (at.0, ap (λ (o : Option Packet). option_map_or (packet_input x a) o None) at.1 ∙ e)

-- so each input that came is there
pub came_there : (x : World) (w : ℕ) (past : Trace) (i : Input) → Readable x → Links x w past
    → CameBy (λ a. heard_from a past) i → IsThere x w i
came_there x w past (Input.Local l) r links c = tt
came_there x w past (Input.Mail a e) r links c =
    let it = links a (frame.Mail c.0) c.1 tt in
    brought x a w it.1.packet (Input.Mail a e) it.1.sent
    (r.mail a w it.1.packet it.0 c.0 e it.1.sent it.1.its it.2 c.2)
came_there x w past (Input.Ack a f n) r links c =
    let it = links a (frame.Ack f n) c tt in
    brought x a w it.1.packet (Input.Ack a f n) it.1.sent
    (r.ack a w it.1.packet it.0 f n (heard_from a past) it.1.sent it.1.its c it.2)
