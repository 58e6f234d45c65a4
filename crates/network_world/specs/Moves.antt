-- What a step does at one station.
use Rattle.std.specs.Option.{option_to_list}
use Rattle.std.specs.Prelude.{◌≡◌, ◌++◌, [], ℕ, Bool, List, None, Ok, Err, Option, Some, length, max, slice_get, slice_set}
use Rattle.model.specs.Types.{Entry, Input, Net, Out}
use Rattle.model.specs.Network.{node_count}
use Rattle.model.specs.Restore.{restore_fault}
use Rattle.model.specs.Sessions.{restarted}
use Rattle.model.specs.Step.{Effect}
use Rattle.model.specs.World.{cut_short, packets_to}
use Rattle.agent_core.specs.Nodes.{NodeState, session_in}
use Rattle.agent_core.specs.Steps.{effect_in, step_at}
use Rattle.agent_core.specs.declared.Step.{Step}
use Rattle.network_world.specs.Stations.{Lane, Station}
use Rattle.network_world.specs.Refusals.{Tells}
use Rattle.network_world.specs.declared.refusals.StepRefused.{StepRefused}
use Rattle.network_world.specs.declared.refusals.StepRefused.TheVariants as refused

-- a node of w that holds these entries, and has just begun
pub record IsAgain (net : Net) (w : ℕ) (kept : List Entry) (node : NodeState) : Type 0 where
  pub net_ : node.net ≡ net
  pub me_ : node.me ≡ w
  pub kept_ : node.kept ≡ kept
  pub session_ : session_in node ≡ restarted

-- what the node of a station holds restores it
abbrev pub IsRestorable : Station → Type 0
IsRestorable t = restore_fault t.node.net t.node.me t.node.kept ≡ None

-- the station of w before anything has happened
pub record IsNew (net : Net) (w : ℕ) (t : Station) : Type 0 where
  pub node_ : IsAgain net w [] t.node
  pub lane_count : length t.lanes ≡ node_count net
  pub lanes_ : (b : ℕ) (l : Lane) → slice_get t.lanes b ≡ Some l → l ≡ record { packets = []; reached = 0 }

-- those of a network
pub record AreNew (net : Net) (stations : List Station) : Type 0 where
  pub count : length stations ≡ node_count net
  pub each : (w : ℕ) (t : Station) → slice_get stations w ≡ Some t → IsNew net w t

-- lanes to whose ends came what goes to their workstations
pub record LanesGrow (outs : List Out) (old new : List Lane) : Type 0 where
  pub count : length new ≡ length old
  pub each : (b : ℕ) (m : Lane) → slice_get new b ≡ Some m
      → (l : Lane) × (slice_get old b ≡ Some l) × (m.packets ≡ l.packets ++ packets_to b outs)
      × (m.reached ≡ l.reached)

-- a station after a step with this effect
pub record GoesOn (d : Effect) (t u : Station) : Type 0 where
  pub net_ : u.node.net ≡ t.node.net
  pub me_ : u.node.me ≡ t.node.me
  pub kept_ : u.node.kept ≡ t.node.kept ++ option_to_list d.made
  pub session_ : session_in u.node ≡ d.session
  pub lanes_ : LanesGrow d.outs t.lanes u.lanes

-- the node took an input, with the effect that is due
pub record HasTaken (t : Station) (input : Input) (s : Step) (u : Station) : Type 0 where
  pub due : step_at t.node input ≡ Ok (effect_in s u.node)
  pub goes : GoesOn (effect_in s u.node) t u

-- the node stopped in the step on an input, and kept this of it
pub record HasStopped (t : Station) (input : Input) (kept : Bool) (made : Option Entry) (u : Station) : Type 0 where
  pub whole : Effect
  pub due : step_at t.node input ≡ Ok whole
  pub made_ : made ≡ (cut_short kept whole).made
  pub goes : GoesOn (cut_short kept whole) t u

-- nothing but that the node stops and begins again
abbrev pub stop : Effect
stop = record { made = None; outs = []; session = restarted }

-- of its lane to a workstation a packet of this number was delivered
pub record IsMarkedTo (t : Station) (to k : ℕ) (u : Station) : Type 0 where
  pub node_ : u.node ≡ t.node
  pub lanes_ : (l : Lane) → slice_get t.lanes to ≡ Some l
      → u.lanes ≡ slice_set t.lanes to (record { packets = l.packets; reached = max k l.reached })

-- the refusal of an input that is told is that of the definitions, or memory ran out
abbrev pub IsInputDue : Station → Input → StepRefused → Type 0
IsInputDue t input refused.NoMemory = Unit {0}
IsInputDue t input (refused.Step f) = Tells (λ g. step_at t.node input ≡ Err g) f
IsInputDue t input _ = ⊥

-- the same of one of several stations
abbrev pub HasTakenAt : List Station → ℕ → Station → Input → Step → List Station → Type 0
HasTakenAt old w t input s new = (u : Station) × (new ≡ slice_set old w u) × HasTaken t input s u

abbrev pub HasStoppedAt : List Station → ℕ → Station → Input → Bool → Option Entry → List Station → Type 0
HasStoppedAt old w t input kept made new = (u : Station) × (new ≡ slice_set old w u) × HasStopped t input kept made u

abbrev pub HasRestartedAt : List Station → ℕ → Station → List Station → Type 0
HasRestartedAt old w t new = (u : Station) × (new ≡ slice_set old w u) × GoesOn stop t u

abbrev pub IsMarkedAt : List Station → ℕ → ℕ → ℕ → Station → List Station → Type 0
IsMarkedAt old a b k t new = (u : Station) × (new ≡ slice_set old a u) × IsMarkedTo t b k u
