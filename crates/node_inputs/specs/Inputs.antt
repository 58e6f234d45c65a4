-- One input of a node: its step, the entry that is kept before all else, what is then carried out, and what follows.
use Rattle.std.specs.List.{list_any}
use Rattle.std.specs.Prelude.{[], if◌then◌else◌, ℕ, ◌&&◌, ◌++◌, ◌==◌, ◌∷◌, ◌≡◌, ◌≢◌, ◌⊎◌, Bool, List, None, Option, Some}
use Rattle.std.specs.Prelude.{not, option_map}
use Rattle.base_types.specs.declared.LimitName.TheVariants.{Places}
use Rattle.model.specs.Types.{Body, Entry, Input, Launch, Local, Mail, Out, Packet, Send, StartFailed, Unlinked}
use Rattle.model.specs.Types.{Work}
use Rattle.model.specs.Words.{below, nth}
use Rattle.model.specs.Network.{are_neighbours, node_count}
use Rattle.model.specs.Spelling.{entry_bytes}
use Rattle.agent_core.specs.Nodes.{NodeState, present_in, view_in}
use Rattle.agent_core.specs.Steps.{IsDue, IsTaken}
use Rattle.agent_core.specs.declared.faults.Step.{Step}
use Rattle.agent_core.specs.declared.faults.StepFault.{StepFault}
use Rattle.agent_core.specs.declared.faults.StepFault.TheVariants.{NoMemory as NoRoom, PlaceSpent}
use Rattle.mail_frames.specs.declared.frames.Frame.{Frame}
use Rattle.mail_frames.specs.declared.frames.Frame.TheVariants as frame
use Rattle.mail_frames.specs.Spelling.{frame_bytes}
use Rattle.outside.specs.Calls.{Asked}
use Rattle.node_inputs.specs.Actions.{Action, Call, Each, From, If, IfThere, Nothing, Stop, Then, Wants}
use Rattle.node_inputs.specs.Keeping.{IsRefusal}
use Rattle.node_inputs.specs.Traces.{Event, Trace}
use Rattle.node_inputs.specs.declared.ends.NodeEnd.{NodeEnd}
use Rattle.node_inputs.specs.declared.ends.NodeEnd.TheVariants.{Limit, NoMemory}

-- the entry of a step is kept; or it is refused, or there is no memory for it, and the run ends
abbrev pub IsKeeping : Option Entry → Trace → Option NodeEnd → Type 0
IsKeeping None trace end = (trace ≡ []) × (end ≡ None)
IsKeeping (Some e) trace end =
    ((trace ≡ Event.Keeps e ∷ []) × (end ≡ None))
    ⊎ (((why : NodeEnd) × IsRefusal why × (trace ≡ Event.Refuses e why ∷ []) × (end ≡ Some why))
    ⊎ ((trace ≡ []) × (end ≡ Some NoMemory)))

abbrev pub Keep : Option Entry → Action NodeState
Keep kept old trace end new = IsKeeping kept trace end × (new ≡ old)

-- the step of an input: its entry is kept before all that follows
pub record Takes (follows : NodeState → Step → Action NodeState) (input : Input) (old : NodeState) (trace : Trace) (end : Option NodeEnd) (new : NodeState) : Type 0 where
  pub step : Step
  pub after : NodeState
  pub taken : IsTaken old input step after
  pub acts : Then (Keep step.kept) (follows old step) after trace end new

-- An input that is refused changes nothing. What then follows is decided by its fault.
abbrev pub Refused : (StepFault → Action NodeState) → Input → Action NodeState
Refused follows input old trace end new =
    (fault : StepFault) × (fault ≢ NoRoom) × IsDue old input fault × follows fault old trace end new

-- nothing follows, but a place that is spent ends the run
abbrev pub PassOver : StepFault → Action NodeState
PassOver PlaceSpent = Stop (Limit Places)
PassOver _ = Nothing

-- one input
abbrev pub TakeWith : (NodeState → Step → Action NodeState) → Input → Action NodeState
TakeWith follows input =
    Wants (λ old trace end new. Takes follows input old trace end new ⊎ Refused PassOver input old trace end new)

-- one whose step gives nothing out
abbrev pub TakeQuietly : Input → Action NodeState
TakeQuietly = TakeWith (λ before step. Nothing)

-- a workstation is a neighbour after a step and was none before it
abbrev pub is_new_neighbour : NodeState → NodeState → ℕ → Bool
is_new_neighbour before now x =
    are_neighbours (present_in now) now.me x && not (are_neighbours (present_in before) before.me x)

-- a link to it is then asked for
abbrev pub RaiseNew : NodeState → NodeState → ℕ → Action NodeState
RaiseNew before now x = If (is_new_neighbour before now x) (Call (Event.Asks (Asked.Raise x))) Nothing

-- in ascending order
abbrev pub Raise : NodeState → Action NodeState
Raise before = From (λ (now : NodeState).
    Each (RaiseNew before now) (below (node_count now.net)))

-- what has become of a step's outputs: the workstations to which a send failed, and the job that was to start, with
-- whether it did
pub record Carried : Type 0 where
  pub lost : List ℕ
  pub started : Option (ℕ × Bool)

abbrev pub carried_with : List ℕ → Option (ℕ × Bool) → Carried
carried_with lost started = record { lost = lost; started = started }

abbrev pub nothing_carried : Carried
nothing_carried = carried_with [] None

abbrev pub is_lost : List ℕ → ℕ → Bool
is_lost lost x = list_any (λ y. y == x) lost

-- the frame of a packet: mail brings the entry that it names
abbrev pub frame_of : NodeState → Packet → Option Frame
frame_of node (Mail f place) =
    option_map
    (λ (body : Body). frame.Mail (entry_bytes (record { feed = f; place = place; body = body })))
    (nth (view_in node f) place)
frame_of node (Packet.Ack f n) = Some (frame.Ack f n)

-- a job is to start; whether it did is to be told
abbrev pub StartIt : ℕ → ℕ → Work → Action Carried
StartIt j n work old trace end new =
    (ok : Bool) × (trace ≡ Event.Starts (record { job = j; number = n; work = work; ok = ok }) ∷ []) × (end ≡ None)
    × (new ≡ carried_with old.lost (Some (j, ok)))

-- a frame is sent; where that fails the workstation is lost
abbrev pub SendFrame : ℕ → Frame → Action Carried
SendFrame x f old trace end new =
    (ok : Bool) × (trace ≡ Event.Sends (record { to = x; bytes = frame_bytes f; ok = ok }) ∷ []) × (end ≡ None)
    × (new ≡ carried_with (if ok then old.lost else x ∷ old.lost) old.started)

-- To a workstation to which a send failed nothing more is sent, and nothing where the node lacks what is to be sent.
abbrev pub SendIt : NodeState → ℕ → Packet → Action Carried
SendIt node x p =
    From (λ (so_far : Carried).
    If (is_lost so_far.lost x) Nothing (Wants (IfThere (frame_of node p) (SendFrame x) Nothing)))

-- one output
abbrev pub CarryOut : NodeState → Out → Action Carried
CarryOut node (Launch j n work) = StartIt j n work
CarryOut node (Out.Kill j n) = Call (Event.Kills j n)
CarryOut node (Send x p) = SendIt node x p

-- the outputs, in order
abbrev pub Carry : NodeState → List Out → Action Carried
Carry node outs = Each (CarryOut node) outs

-- the link to a workstation is lost: it is closed, and that is told to the node
abbrev pub Lose : ℕ → Action NodeState
Lose x = Then (Call (Event.Asks (Asked.Close x))) (TakeQuietly (Input.Local (Unlinked x)))

-- where a send to it failed
abbrev pub LoseIf : List ℕ → ℕ → Action NodeState
LoseIf lost x = If (is_lost lost x) (Lose x) Nothing

-- in ascending order
abbrev pub LoseAll : List ℕ → Action NodeState
LoseAll lost = From (λ (now : NodeState). Each (LoseIf lost) (below (node_count now.net)))

-- what became of a launch is told to the node: its job was started, or its start failed
abbrev pub start_told : ℕ × Bool → Input
start_told start = if start.1 then Input.Local (Local.Started start.0) else Input.Local (StartFailed start.0)

abbrev pub Tell : Option (ℕ × Bool) → Action NodeState
Tell None = Nothing
Tell (Some start) = TakeQuietly (start_told start)

-- the outputs are carried out; then the start of a launch is told, and the links that were lost
pub record Gives (outs : List Out) (old : NodeState) (trace : Trace) (end : Option NodeEnd) (new : NodeState) : Type 0 where
  pub front : Trace
  pub back : Trace
  pub carried : Carried
  pub split : trace ≡ front ++ back
  pub carries : Carry old outs nothing_carried front None carried
  pub follows : Then (Tell carried.started) (LoseAll carried.lost) old back end new

-- or memory runs out for one of them, and the run ends
pub record GivesSome (outs : List Out) (old : NodeState) (trace : Trace) (end : Option NodeEnd) (new : NodeState) : Type 0 where
  pub carried : Carried
  pub for_want_of_memory : end ≡ Some NoMemory
  pub carries : Carry old outs nothing_carried trace (Some NoMemory) carried
  pub same : new ≡ old

abbrev pub Give : List Out → Action NodeState
Give outs old trace end new = Gives outs old trace end new ⊎ GivesSome outs old trace end new

-- what follows the step of an input, once its entry is kept
abbrev pub Follow : NodeState → Step → Action NodeState
Follow before step = Then (Raise before) (Give step.outs)

-- one input
abbrev pub Take : Input → Action NodeState
Take = TakeWith Follow
