-- A node as contracts see it.
use Rattle.std.specs.Prelude.{ℕ, List}
use Rattle.model.specs.Types.{Entry, LiveJob, Net}
use Rattle.model.specs.History.{View, view_of}
use Rattle.model.specs.PresentNet.{present_net}
use Rattle.model.specs.Sessions.{Session}
use Rattle.mailman_core.specs.Mails.{Neighbourhood, acked_by, is_up}

-- the network as it was defined, and its workstation; the entries that it holds, in the order in which it took them;
-- what it keeps of its neighbours; the launches that live
pub record NodeState : Type 0 where
  pub net : Net
  pub me : ℕ
  pub kept : List Entry
  pub mail : Neighbourhood
  pub live : List LiveJob

-- what it holds of each feed
abbrev pub view_in : NodeState → View
view_in node = view_of node.kept

-- the network as it stands for it, after the switches of managers that it knows of
abbrev pub present_in : NodeState → Net
present_in node = present_net node.net (view_in node)

-- its session
abbrev pub session_in : NodeState → Session
session_in node = record { acked = acked_by node.mail; links = is_up node.mail; live = node.live }
