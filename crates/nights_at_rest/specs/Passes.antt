-- Running nodes that go on by whole passes of their loops, one pass after the other.
use Rattle.std.specs.Prelude.{[], ℕ, ◌++◌, ◌<◌, ◌∷◌, ◌≡◌, Bool, Contains, List, None, flat_map, map}
use Rattle.composer_parser.specs.declared.Defs.{Defs}
use Rattle.model.specs.Types.{Entry, WorldStep}
use Rattle.model.specs.FreeSteps.{free_run}
use Rattle.model.specs.Network.{node_count}
use Rattle.model.specs.Words.{with_at}
use Rattle.model.specs.World.{World, empty_world}
use Rattle.mail_frames.specs.declared.frames.Frame.{Frame}
use Rattle.workload_defs.specs.Nets.{net_of}
use Rattle.agent_core.specs.Nodes.{NodeState}
use Rattle.node_inputs.specs.Traces.{Event, Trace, kept}
use Rattle.node_loop.specs.Runs.{Running, TurnOf}
use Rattle.network_runs.specs.Happenings.{Does, Night, kept_at, made, since}
use Rattle.network_runs.specs.Nights.{BringsPacket, IsBegun, IsForNodes, IsSent, IsWritten}
use Rattle.nights_at_rest.specs.Still.{Nodes, NodesStandFor}

-- one pass of the loop of a workstation's run, and what it did in it
pub record Pass : Type 0 where
  pub ws : ℕ
  pub trace : Trace

abbrev pub happened_in : Pass → Night
happened_in p = map (Does p.ws) p.trace

-- what happened in these passes
abbrev pub happened : List Pass → Night
happened ps = flat_map happened_in ps

-- between these two moments the run heard this frame whole from a
pub record HearsFrom (old new : Running) (a : ℕ) (f : Frame) : Type 0 where
  pub more : List Frame
  pub grows : (new.heard a).frames ≡ (old.heard a).frames ++ more
  pub among : Contains more f

-- The pass is one turn of the loop of `run_node`, as its clause `run` has it, and the run goes on behind it. What it
-- hears was sent to it before, in this night; and what it keeps can be written down, as its keeper sees to.
pub record Passes (defs : Defs) (night : Night) (p : Pass) (old new : Nodes) : Type 0 where
  pub ws_in : p.ws < node_count (net_of defs)
  pub after : Running
  pub turn : TurnOf defs (old p.ws) p.trace None after
  pub then_ : new ≡ with_at p.ws after old
  pub hears : (a : ℕ) (f : Frame) → HearsFrom (old p.ws) after a f → IsForNodes f → IsSent night a p.ws f
  pub written : (e : Entry) → Contains (kept p.trace) e → IsWritten e

-- One pass after the other, each of one workstation. In a network the passes of several workstations overlap; but what
-- happens at two of them has no order of its own, save that a frame comes after it was sent. All that a pass sends it
-- sends after its one arrival. So each pass is told as a whole where its arrival comes.
abbrev pub ArePasses : Defs → Night → List Pass → Nodes → Nodes → Type 0
ArePasses defs night [] old new = new ≡ old
ArePasses defs night (p ∷ ps) old new =
    (middle : Nodes) × Passes defs night p old middle × ArePasses defs (night ++ happened_in p) ps middle new

-- Each node is between two passes of its run, and stands for its workstation in this world of the night: steps of the
-- definitions lead there; its history is what makers kept, in that order, and can be written down; what was sent brings
-- packets of it; and each disk has what its node holds.
pub record StandBetween (defs : Defs) (night : Night) (nodes : Nodes) (x : World) : Type 0 where
  pub steps : List WorldStep
  pub by_them : x ≡ free_run (net_of defs) steps empty_world
  pub history_ : x.history ≡ made night
  pub written : (e : Entry) → Contains (made night) e → IsWritten e
  pub sent_ : (a b : ℕ) (bytes : List ℕ) (ok : Bool)
      → Contains night (Does a (Event.Sends (record { to = b; bytes = bytes; ok = ok }))) → BringsPacket x a b bytes
  pub nodes_ : NodesStandFor defs nodes x
  pub disks : (w : ℕ) → w < node_count (net_of defs) → (nodes w).node.kept ≡ kept_at w night

-- a workstation that does not run by the end of the night, and begins with all that its disk has
pub record HasBegun (defs : Defs) (night : Night) (w : ℕ) (node : NodeState) : Type 0 where
  pub stopped : since w night ≡ None
  pub begun : IsBegun (net_of defs) w (kept_at w night) node

-- so do all
abbrev pub HaveBegun : Defs → Night → Nodes → Type 0
HaveBegun defs night nodes = (w : ℕ) → w < node_count (net_of defs) → HasBegun defs night w (nodes w).node
