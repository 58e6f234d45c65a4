-- Rounds of running nodes: links are up at both ends, each node makes whole passes, what is sent comes, nothing comes
-- from outside, and the clocks stand.
use Rattle.std.specs.List.{AllByRecursion}
use Rattle.std.specs.Prelude.{[], ℕ, ◌++◌, ◌<◌, ◌==◌, ◌∷◌, ◌≡◌, ◌⊎◌, Bool, Contains, IsTrue, List, None, Ok, false, not}
use Rattle.std.specs.Prelude.{suc, true, zero}
use Rattle.composer_parser.specs.declared.Defs.{Defs}
use Rattle.model.specs.Types.{Events, Feed, Orders}
use Rattle.model.specs.Network.{are_neighbours, node_count}
use Rattle.model.specs.World.{World}
use Rattle.outside.specs.Calls.{Asked}
use Rattle.outside.specs.declared.links.Arrival.TheVariants as arrival
use Rattle.mail_frames.specs.declared.frames.Frame.{Frame}
use Rattle.mail_frames.specs.Spelling.{frame_bytes}
use Rattle.workload_defs.specs.Nets.{net_of}
use Rattle.agent_core.specs.Nodes.{present_in, session_in}
use Rattle.node_inputs.specs.Traces.{Event, readings}
use Rattle.network_runs.specs.Happenings.{Does, Night}
use Rattle.nights_at_rest.specs.Passes.{ArePasses, HearsFrom, Pass, StandBetween, happened}
use Rattle.nights_at_rest.specs.Still.{Nodes, RestsIn}

-- an order that w gives
abbrev pub is_given_by : ℕ → Feed → Bool
is_given_by w (Orders a b) = a == w
is_given_by w (Events v) = false

-- What may happen in a pass of w: bytes come, entries are kept that are no orders of its own, frames go out, launches
-- are killed, and links to new neighbours are asked for. No link begins or ends and no send fails, nobody types, no
-- process starts or ends, no file is found.
abbrev pub is_inside : ℕ → Event → Bool
is_inside w (Event.Keeps e) = not (is_given_by w e.feed)
is_inside w (Event.Reads t) = true
is_inside w (Event.Comes arrival.Nothing) = true
is_inside w (Event.Comes (arrival.Bytes a bytes)) = true
is_inside w (Event.Reports (Ok None)) = true
is_inside w (Event.Looks path (Ok false)) = true
is_inside w (Event.Kills j n) = true
is_inside w (Event.Sends call) = call.ok
is_inside w (Event.Asks (Asked.Raise x)) = true
is_inside w _ = false

-- all that happens in the pass may, and its one reading is that of the standing clock
pub record IsInside (reads : ℕ → ℕ) (p : Pass) : Type 0 where
  pub each : AllByRecursion (λ event. IsTrue (is_inside p.ws event)) p.trace
  pub stands : readings p.trace ≡ reads p.ws ∷ []

-- a sent this frame to b in these passes
abbrev pub IsSentIn : List Pass → ℕ → ℕ → Frame → Type 0
IsSentIn ps a b f = Contains (happened ps) (Does a (Event.Sends (record { to = b; bytes = frame_bytes f; ok = true })))

-- both ends are up of each link to one that either takes for a neighbour
abbrev pub AreNodesLinked : Defs → Nodes → Type 0
AreNodesLinked defs nodes =
    (n m : ℕ) → n < node_count (net_of defs) → IsTrue (are_neighbours (present_in (nodes n).node) n m)
    → IsTrue ((session_in (nodes n).node).links m) × IsTrue ((session_in (nodes m).node).links n)

-- A round: each node makes a whole pass in the first stretch; what was sent in the first is heard by the end of the
-- second, and what was sent by then by the end of the third.
pub record IsNodeRound (defs : Defs) (reads : ℕ → ℕ) (night : Night) (old new : Nodes) : Type 0 where
  pub turning : List Pass
  pub arriving : List Pass
  pub answering : List Pass
  pub turned : Nodes
  pub arrived : Nodes
  pub to_turned : ArePasses defs night turning old turned
  pub to_arrived : ArePasses defs (night ++ happened turning) arriving turned arrived
  pub to_end : ArePasses defs ((night ++ happened turning) ++ happened arriving) answering arrived new
  pub linked : AreNodesLinked defs old
  pub each : AllByRecursion (IsInside reads) ((turning ++ arriving) ++ answering)
  pub turns : (w : ℕ) → w < node_count (net_of defs) → (p : Pass) × Contains turning p × (p.ws ≡ w)
  pub sent : (a b : ℕ) (f : Frame) → IsSentIn turning a b f → HearsFrom (old b) (arrived b) a f
  pub answers : (a b : ℕ) (f : Frame) → IsSentIn (turning ++ arriving) a b f → HearsFrom (old b) (new b) a f

-- the night behind a round
abbrev pub behind_round : (defs : Defs) (reads : ℕ → ℕ) (night : Night) (old new : Nodes)
    → IsNodeRound defs reads night old new → Night
behind_round defs reads night old new r = ((night ++ happened r.turning) ++ happened r.arriving) ++ happened r.answering

-- so many rounds, one behind the other
abbrev pub AreNodeRounds : Defs → (ℕ → ℕ) → ℕ → Night → Nodes → Nodes → Type 0
AreNodeRounds defs reads zero night old new = new ≡ old
AreNodeRounds defs reads (suc k) night old new =
    (middle : Nodes) × (r : IsNodeRound defs reads night old middle)
    × AreNodeRounds defs reads k (behind_round defs reads night old middle r) middle new

-- the night rests by then: in its world nothing is undone, and each disk has what its workstation wants
abbrev pub RestsBy : Defs → (ℕ → ℕ) → Night → Nodes → Type 0
RestsBy defs reads night nodes = (x : World) × StandBetween defs night nodes x × RestsIn defs reads night x

-- all of these rounds but at most so many begin at rest
abbrev pub NodesRestBut : ℕ → (defs : Defs) (reads : ℕ → ℕ) (k : ℕ) (night : Night) (old new : Nodes)
    → AreNodeRounds defs reads k night old new → Type 0
NodesRestBut n defs reads zero night old new r = Unit {0}
NodesRestBut zero defs reads (suc k) night old new r =
    RestsBy defs reads night old
    × NodesRestBut zero defs reads k (behind_round defs reads night old r.0 r.1) r.0 new r.2
NodesRestBut (suc n) defs reads (suc k) night old new r =
    (RestsBy defs reads night old
    × NodesRestBut (suc n) defs reads k (behind_round defs reads night old r.0 r.1) r.0 new r.2)
    ⊎ NodesRestBut n defs reads k (behind_round defs reads night old r.0 r.1) r.0 new r.2
