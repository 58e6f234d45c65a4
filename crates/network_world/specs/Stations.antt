-- The world as contracts see it.
use Rattle.std.specs.Prelude.{ℕ, List, Option, option_and_then, slice_get}
use Rattle.model.specs.Types.{Entry, Net, Packet, Start}
use Rattle.agent_core.specs.Nodes.{NodeState}

-- the packets ever sent to one workstation, and the greatest number delivered
pub record Lane : Type 0 where
  pub packets : List Packet
  pub reached : ℕ

-- a node, and what it sent, by the workstation to which it went
pub record Station : Type 0 where
  pub node : NodeState
  pub lanes : List Lane

-- the history; the launches that were started; how many steps were taken, packets sent and bytes of entries kept
pub record Journal : Type 0 where
  pub history : List Entry
  pub starts : List Start
  pub taken : ℕ
  pub sent : ℕ
  pub kept : ℕ

-- the network as it was defined; its stations, by workstation; what is written of it
pub record WorldState : Type 0 where
  pub net : Net
  pub stations : List Station
  pub journal : Journal

-- the station of a workstation
abbrev pub station_of : WorldState → ℕ → Option Station
station_of s w = slice_get s.stations w

-- what one sent to another
abbrev pub lane_of : WorldState → ℕ → ℕ → Option Lane
lane_of s a b = option_and_then (λ (t : Station). slice_get t.lanes b) (station_of s a)
