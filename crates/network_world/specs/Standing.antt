-- When the world of the program stands for a world of the definitions, and what a step owes then.
use Rattle.std.specs.Option.{option_to_list}
use Rattle.std.specs.Prelude.{◌≡◌, ◌++◌, ◌∷◌, [], ℕ, Err, List, Ok, Some, length, slice_get}
use Rattle.model.specs.Types.{Crash, CrashDeliver, CrashTake, Deliver, Entry, Net, Take, WorldStep}
use Rattle.model.specs.Network.{node_count}
use Rattle.model.specs.World as model
use Rattle.model.specs.World.{empty_world, run}
use Rattle.model.specs.Kept.{HasKept, kept_in}
use Rattle.agent_core.specs.Nodes.{NodeState, session_in}
use Rattle.network_world.specs.Stations.{Journal, Lane, Station, WorldState, station_of}
use Rattle.network_world.specs.Refusals.{Tells}
use Rattle.network_world.specs.declared.refusals.StepRefused.{StepRefused}
use Rattle.network_world.specs.declared.refusals.StepRefused.TheVariants.{Limit, NoMemory, NoPacket, Step}

-- steps of the definitions lead there from the empty world
pub record IsReached (net : Net) (x : model.World) : Type 0 where
  pub steps : List WorldStep
  pub by_them : x ≡ run net steps empty_world

-- a lane has what w sent to b
pub record LaneStandsFor (x : model.World) (w b : ℕ) (l : Lane) : Type 0 where
  pub packets_ : l.packets ≡ x.packets w b
  pub reached_ : l.reached ≡ x.reached w b

-- a node is that of w: it holds what w holds and is restored from it, with w's session
pub record NodeStandsFor (net : Net) (x : model.World) (w : ℕ) (node : NodeState) : Type 0 where
  pub net_ : node.net ≡ net
  pub me_ : node.me ≡ w
  pub kept_ : HasKept net x w node.kept
  pub session_ : session_in node ≡ x.sessions w

-- a station is that of w: so is its node, and its lanes have what w sent
pub record StationStandsFor (net : Net) (x : model.World) (w : ℕ) (t : Station) : Type 0 where
  pub node_ : NodeStandsFor net x w t.node
  pub lane_count : length t.lanes ≡ node_count net
  pub lanes_ : (b : ℕ) (l : Lane) → slice_get t.lanes b ≡ Some l → LaneStandsFor x w b l

-- what is written of a world is what it has
pub record JournalStandsFor (x : model.World) (j : Journal) : Type 0 where
  pub history_ : j.history ≡ x.history
  pub starts_ : j.starts ≡ x.starts
  pub taken_ : j.taken ≡ x.taken
  pub sent_ : j.sent ≡ x.sent
  pub kept_ : j.kept ≡ x.kept

-- the whole
pub record StandsFor (s : WorldState) (x : model.World) : Type 0 where
  pub reached : IsReached s.net x
  pub station_count : length s.stations ≡ node_count s.net
  pub stations_ : (w : ℕ) (t : Station) → station_of s w ≡ Some t → StationStandsFor s.net x w t
  pub journal_ : JournalStandsFor x s.journal

-- there is a world of the definitions for which it stands
pub record IsWorld (s : WorldState) : Type 0 where
  pub world : model.World
  pub stands : StandsFor s world

-- the workstations of the step itself
abbrev pub ws_in_step : WorldStep → List ℕ
ws_in_step (Take w l) = w ∷ []
ws_in_step (Deliver a b k) = a ∷ b ∷ []
ws_in_step (Crash w) = w ∷ []
ws_in_step (CrashTake w l kept) = w ∷ []
ws_in_step (CrashDeliver a b k kept) = a ∷ b ∷ []

-- a step that is taken leads, from whatever world it stood for, to the world after the step of the definitions, over the
-- same network
pub record Steps (old : WorldState) (st : WorldStep) (new : WorldState) : Type 0 where
  pub net_ : new.net ≡ old.net
  pub leads : (x : model.World) → StandsFor old x
      → (y : model.World) × (model.step old.net x st ≡ Ok y) × StandsFor new y

-- the definitions refuse a step for this cause, in whatever world it stands for
abbrev pub IsRefusedFor : WorldState → WorldStep → model.StepRefused → Type 0
IsRefusedFor s st r = (x : model.World) → StandsFor s x → model.step s.net x st ≡ Err r

-- a refusal that is told is that of the definitions, or memory ran out; a node's want of memory is told as the world's
abbrev pub IsRefusalDue : WorldState → WorldStep → StepRefused → Type 0
IsRefusalDue s st NoPacket = IsRefusedFor s st model.StepRefused.NoPacket
IsRefusalDue s st (Limit l) = IsRefusedFor s st (model.StepRefused.Limit l)
IsRefusalDue s st (Step f) = Tells (λ g. IsRefusedFor s st (model.StepRefused.Step g)) f
IsRefusalDue s st NoMemory = Unit {0}

-- what a step keeps at each node is what restores it
abbrev pub KeepsAll : Net → model.World → WorldStep → model.World → Type 0
KeepsAll net x st y =
    (v : ℕ) (kept : List Entry) → HasKept net x v kept → HasKept net y v (kept ++ option_to_list (kept_in net x v st))
