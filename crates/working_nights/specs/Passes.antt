-- Rounds of running nodes in which processes start and end and files are found: links are up at both ends, each node makes
-- whole passes, what is sent comes, nobody types or makes a plan, and the clocks stand.
use Rattle.std.specs.List.{AllByRecursion}
use Rattle.std.specs.Prelude.{[], ℕ, ◌++◌, ◌<◌, ◌∷◌, ◌≡◌, ◌⊎◌, ◌||◌, Bool, Contains, IsTrue, List, false, not}
use Rattle.std.specs.Prelude.{suc, true, zero}
use Rattle.composer_parser.specs.declared.Defs.{Defs}
use Rattle.model.specs.Network.{node_count}
use Rattle.outside.specs.Calls.{Asked}
use Rattle.outside.specs.declared.links.Arrival.TheVariants as arrival
use Rattle.mail_frames.specs.declared.frames.Frame.{Frame}
use Rattle.workload_defs.specs.Nets.{net_of}
use Rattle.node_inputs.specs.Traces.{Event, readings}
use Rattle.network_runs.specs.Happenings.{Night}
use Rattle.nights_at_rest.specs.NodeRounds.{AreNodesLinked, IsSentIn, RestsBy, is_given_by}
use Rattle.nights_at_rest.specs.Passes.{ArePasses, HearsFrom, Pass, happened}
use Rattle.nights_at_rest.specs.Still.{Nodes}

-- What may happen in a pass of w: bytes come, entries are kept, frames go out, launches are started, cannot be started or
-- are killed, ends and files are told or nothing is known of them, and links to new neighbours are asked for. No link begins
-- or ends and no send fails, and nobody types: so an order of w's own is one that w advises itself. Such ones may be kept
-- where `advises` says so.
abbrev pub is_working : Bool → ℕ → Event → Bool
is_working advises w (Event.Keeps e) = advises || not (is_given_by w e.feed)
is_working advises w (Event.Reads t) = true
is_working advises w (Event.Comes arrival.Nothing) = true
is_working advises w (Event.Comes (arrival.Bytes a bytes)) = true
is_working advises w (Event.Reports answer) = true
is_working advises w (Event.Looks path answer) = true
is_working advises w (Event.Starts call) = true
is_working advises w (Event.Kills j n) = true
is_working advises w (Event.Sends call) = call.ok
is_working advises w (Event.Asks (Asked.Raise x)) = true
is_working advises w _ = false

-- all that happens in the pass may, and its one reading is that of the standing clock
pub record IsWorkingPass (advises : Bool) (reads : ℕ → ℕ) (p : Pass) : Type 0 where
  pub each : AllByRecursion (λ event. IsTrue (is_working advises p.ws event)) p.trace
  pub stands : readings p.trace ≡ reads p.ws ∷ []

-- A round: each node makes a whole pass in the first stretch; what was sent in the first is heard by the end of the
-- second, and what was sent by then by the end of the third.
pub record IsNodeWork (advises : Bool) (defs : Defs) (reads : ℕ → ℕ) (night : Night) (old new : Nodes) : Type 0 where
  pub turning : List Pass
  pub arriving : List Pass
  pub answering : List Pass
  pub turned : Nodes
  pub arrived : Nodes
  pub to_turned : ArePasses defs night turning old turned
  pub to_arrived : ArePasses defs (night ++ happened turning) arriving turned arrived
  pub to_end : ArePasses defs ((night ++ happened turning) ++ happened arriving) answering arrived new
  pub linked : AreNodesLinked defs old
  pub each : AllByRecursion (IsWorkingPass advises reads) ((turning ++ arriving) ++ answering)
  pub turns : (w : ℕ) → w < node_count (net_of defs) → (p : Pass) × Contains turning p × (p.ws ≡ w)
  pub sent : (a b : ℕ) (f : Frame) → IsSentIn turning a b f → HearsFrom (old b) (arrived b) a f
  pub answers : (a b : ℕ) (f : Frame) → IsSentIn (turning ++ arriving) a b f → HearsFrom (old b) (new b) a f

-- the night behind a round
abbrev pub behind_work : (advises : Bool) (defs : Defs) (reads : ℕ → ℕ) (night : Night) (old new : Nodes)
    → IsNodeWork advises defs reads night old new → Night
behind_work advises defs reads night old new r = ((night ++ happened r.turning) ++ happened r.arriving) ++ happened r.answering

-- so many rounds, one behind the other
abbrev pub AreNodeWorks : Bool → Defs → (ℕ → ℕ) → ℕ → Night → Nodes → Nodes → Type 0
AreNodeWorks advises defs reads zero night old new = new ≡ old
AreNodeWorks advises defs reads (suc k) night old new =
    (middle : Nodes) × (r : IsNodeWork advises defs reads night old middle)
    × AreNodeWorks advises defs reads k (behind_work advises defs reads night old middle r) middle new

-- all of these rounds but at most so many begin at rest, with nothing left undone
abbrev pub NodesWorkBut : ℕ → (advises : Bool) (defs : Defs) (reads : ℕ → ℕ) (k : ℕ) (night : Night) (old new : Nodes)
    → AreNodeWorks advises defs reads k night old new → Type 0
NodesWorkBut n advises defs reads zero night old new r = Unit {0}
NodesWorkBut zero advises defs reads (suc k) night old new r =
    RestsBy defs reads night old
    × NodesWorkBut zero advises defs reads k (behind_work advises defs reads night old r.0 r.1) r.0 new r.2
NodesWorkBut (suc n) advises defs reads (suc k) night old new r =
    (RestsBy defs reads night old
    × NodesWorkBut (suc n) advises defs reads k (behind_work advises defs reads night old r.0 r.1) r.0 new r.2)
    ⊎ NodesWorkBut n advises defs reads k (behind_work advises defs reads night old r.0 r.1) r.0 new r.2
