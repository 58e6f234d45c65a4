-- What an answer of a call on one input says.
use Rattle.std.specs.Prelude.{ℕ, ◌<◌, ◌≡◌, ◌≢◌, ◌≤◌, ◌⊎◌, Bool, Err, List, None, Ok, Option, Result, Some, false, get_or, length}
use Rattle.std.specs.List.{All, AllByRecursion}
use Rattle.base_types.specs.declared.LimitName.TheVariants.{Places}
use Rattle.model.specs.Types.{Entry, Input, Launch, Out, Send}
use Rattle.model.specs.Fit.{IsFit}
use Rattle.model.specs.Network.{are_neighbours, node_count}
use Rattle.model.specs.Spelling.{entry_bytes}
use Rattle.outside.specs.Records.{longest_body}
use Rattle.agent_core.specs.Nodes.{NodeState, present_in}
use Rattle.agent_core.specs.Steps.{IsDue, IsTaken}
use Rattle.agent_core.specs.declared.faults.Step.{Step}
use Rattle.agent_core.specs.declared.faults.StepFault.{StepFault}
use Rattle.agent_core.specs.declared.faults.StepFault.TheVariants.{NoMemory as NoRoom, PlaceSpent}
use Rattle.node_inputs.specs.declared.ends.NodeEnd.{NodeEnd}
use Rattle.node_inputs.specs.declared.ends.NodeEnd.TheVariants.{Limit, NoMemory}
use Rattle.node_inputs.specs.Actions.{Action, Nothing}
use Rattle.node_inputs.specs.Inputs.{Follow, Take, Takes, is_lost}

-- it can be written down: it is fit, and has at most 4,194,304 bytes
pub record IsKeepable (e : Entry) : Type 0 where
  pub fit : IsFit e
  pub short : length (entry_bytes e) ≤ longest_body

abbrev pub AreKeepable : List Entry → Type 0
AreKeepable entries = All IsKeepable entries

-- a fault that the run goes on with: the input changed nothing
pub record IsPassed (old : NodeState) (input : Input) (fault : StepFault) (new : NodeState) : Type 0 where
  pub known : fault ≢ NoRoom
  pub has_place : fault ≢ PlaceSpent
  pub due : IsDue old input fault
  pub same : new ≡ old

-- the step of an input, its fault, or the end of the run, which comes for want of memory or of places
abbrev pub IsStepped : NodeState → Input → Result (Result Step StepFault) NodeEnd → NodeState → Type 0
IsStepped old input (Ok (Ok step)) new = IsTaken old input step new
IsStepped old input (Ok (Err fault)) new = IsPassed old input fault new
IsStepped old input (Err why) new =
    (new ≡ old) × ((why ≡ NoMemory) ⊎ ((why ≡ Limit Places) × IsDue old input PlaceSpent))

-- an input that was taken, one that was refused for this fault, or the end of the run
abbrev pub TakesTelling : Input → Result (Option StepFault) NodeEnd → Action NodeState
TakesTelling input (Ok None) = λ old trace end new. Takes Follow input old trace end new
TakesTelling input (Ok (Some fault)) =
    λ old trace end new. (fault ≢ NoRoom) × (fault ≢ PlaceSpent) × IsDue old input fault × Nothing old trace end new
TakesTelling input (Err why) = Take input

-- the flags tell for each workstation whether it is a neighbour
pub record TellNeighbours (node : NodeState) (flags : List Bool) : Type 0 where
  pub each : (x : ℕ) → x < node_count node.net → get_or flags x false ≡ are_neighbours (present_in node) node.me x

-- the flags tell for each workstation whether it is lost
abbrev pub TellLost : List Bool → List ℕ → Type 0
TellLost flags lost = (x : ℕ) → x < 256 → get_or flags x false ≡ is_lost lost x

-- what is sent goes to a workstation with a number below n
abbrev pub IsWithin : ℕ → Out → Type 0
IsWithin n (Launch j k work) = Unit {0}
IsWithin n (Out.Kill j k) = Unit {0}
IsWithin n (Send x p) = x < n

abbrev pub AreWithin : ℕ → List Out → Type 0
AreWithin n outs = AllByRecursion (IsWithin n) outs
