-- A run of a node, turn by turn.
use Rattle.std.specs.Option.{option_map_or}
use Rattle.std.specs.Prelude.{ℕ, ◌==◌, ◌∷◌, ◌≡◌, ◌≢◌, Bool, Err, List, None, Ok, Option, Result, Some, false, is_some}
use Rattle.std.specs.Prelude.{suc, true, zero}
use Rattle.composer_parser.specs.declared.Defs.{Defs}
use Rattle.model.specs.Types.{Cmd, Fulfil, Input, Linked, LiveJob, Local, Turn, Typed, Unlinked}
use Rattle.model.specs.Sessions.{live_launch}
use Rattle.model.specs.Words.{with_at}
use Rattle.agent_core.specs.Nodes.{NodeState, view_in}
use Rattle.file_watch.specs.Circle.{DepPlace}
use Rattle.file_watch.specs.Probes.{next_probe, path_at}
use Rattle.mail_frames.specs.declared.frames.Frame.{Frame}
use Rattle.outside.specs.declared.Failed.{Failed}
use Rattle.outside.specs.declared.links.Arrival.{Arrival}
use Rattle.outside.specs.declared.links.Arrival.TheVariants as arrival
use Rattle.outside.specs.declared.spawners.End.{End}
use Rattle.recovery_watch.specs.Advice.{advice}
use Rattle.node_inputs.specs.Actions.{Action, Becomes, From, If, IfThere, Nothing, Stop, Then, Wants}
use Rattle.node_inputs.specs.Inputs.{Take}
use Rattle.node_lines.specs.Lines.{Listen}
use Rattle.node_loop.specs.Frames.{Frames}
use Rattle.node_loop.specs.Heard.{Completes, Heard, heard_more, nothing_heard}
use Rattle.node_inputs.specs.Traces.{Event, Trace}
use Rattle.node_inputs.specs.declared.ends.NodeEnd.{NodeEnd}
use Rattle.node_inputs.specs.declared.ends.NodeEnd.TheVariants.{NoMemory, TurnsSpent}

-- the node, what it heard of each workstation, and the dependency for whose file it looked last
pub record Running : Type 0 where
  pub node : NodeState
  pub heard : ℕ → Heard
  pub asked : Option DepPlace

abbrev pub running_with : NodeState → (ℕ → Heard) → Option DepPlace → Running
running_with node heard asked = record { node = node; heard = heard; asked = asked }

-- at the beginning of a run
abbrev pub running : NodeState → Running
running node = running_with node (λ x. nothing_heard) None

-- what the node does, with all else as it was
pub record On (act : Action NodeState) (old : Running) (trace : Trace) (end : Option NodeEnd) (new : Running) : Type 0 where
  pub acts : act old.node trace end new.node
  pub heard_ : new.heard ≡ old.heard
  pub asked_ : new.asked ≡ old.asked

-- what was heard of a workstation is this
abbrev pub Hears : ℕ → Heard → Action Running
Hears x heard = From (λ (now : Running). Becomes (running_with now.node (with_at x heard now.heard) now.asked))

-- bytes of a workstation
abbrev pub Hear : ℕ → List ℕ → Action Running
Hear x bytes =
    Wants (λ old trace end new. (frames : List Frame) × (bad : Option ℕ)
    × Completes (old.heard x) bytes frames bad
    × Then (Hears x (heard_more (old.heard x) bytes frames)) (On (Frames x (is_some bad) frames)) old trace end new)

-- a link began or ended: its stream begins anew
abbrev pub Anew : ℕ → Input → Action Running
Anew x input = Then (Hears x nothing_heard) (On (Take input))

-- what came over the links
abbrev pub Arrive : Defs → Arrival → Action Running
Arrive defs (arrival.Bytes x bytes) = Hear x bytes
Arrive defs (arrival.Up x) = Anew x (Input.Local (Linked x))
Arrive defs (arrival.Down x) = Anew x (Input.Local (Unlinked x))
Arrive defs (arrival.Client bytes) = On (Listen defs bytes)
Arrive defs arrival.Nothing = Nothing
Arrive defs arrival.NoMemory = Stop NoMemory

-- one arrival
pub record Comes (defs : Defs) (old : Running) (trace : Trace) (end : Option NodeEnd) (new : Running) : Type 0 where
  pub arrived : Arrival
  pub rest : Trace
  pub there : arrived ≢ arrival.NoMemory
  pub split : trace ≡ Event.Comes arrived ∷ rest
  pub arrives : Arrive defs arrived old rest end new

-- want of memory for it is no event, and ends the run
abbrev pub Come : Defs → Action Running
Come defs = Wants (λ old trace end new. Comes defs old trace end new)

-- the process of a launch ended; what is no live launch's gives nothing
abbrev pub is_live : NodeState → End → Bool
is_live node ended =
    option_map_or (λ (l : LiveJob). l.number == ended.number) (live_launch node.live ended.job) false

abbrev pub EndOf : Result (Option End) Failed → Action NodeState
EndOf (Ok (Some ended)) = From (λ (now : NodeState).
    If (is_live now ended) (Take (Input.Local (Local.Ended ended.job ended.rc))) Nothing)
EndOf (Ok None) = Nothing
EndOf (Err failed) = Nothing

-- one end
pub record Reports (old : NodeState) (trace : Trace) (end : Option NodeEnd) (new : NodeState) : Type 0 where
  pub answer : Result (Option End) Failed
  pub rest : Trace
  pub split : trace ≡ Event.Reports answer ∷ rest
  pub acts : EndOf answer old rest end new

-- the file of a dependency is there, or it is not known to be
abbrev pub Found : DepPlace → Result Bool Failed → Action NodeState
Found place (Ok true) = Take (Input.Local (Fulfil place.0 place.1))
Found place (Ok false) = Nothing
Found place (Err failed) = Nothing

-- the path of a dependency is looked at, which is then the one that was asked last
pub record Looks (place : DepPlace) (old : Running) (trace : Trace) (end : Option NodeEnd) (new : Running) : Type 0 where
  pub path : List ℕ
  pub answer : Result Bool Failed
  pub rest : Trace
  pub its_path : path_at (view_in old.node) place.0 place.1 ≡ Some path
  pub split : trace ≡ Event.Looks path answer ∷ rest
  pub acts : On (Found place answer) (running_with old.node old.heard (Some place)) rest end new

-- one probe, where a file is due
abbrev pub Probing : Action Running
Probing = From (λ (now : Running).
    IfThere (next_probe (view_in now.node) now.node.me now.asked)
    (λ (place : DepPlace). λ old trace end new. Looks place old trace end new) Nothing)

-- the advice of the node as it stands is typed
abbrev pub Advise : Action NodeState
Advise = From (λ (now : NodeState).
    IfThere (advice (view_in now) now.me) (λ (c : Cmd). Take (Input.Local (Typed now.me c))) Nothing)

-- a turn: one reading of the clock, one arrival, one end, one probe, the advice, and the turn with that reading
pub record TurnOf (defs : Defs) (old : Running) (trace : Trace) (end : Option NodeEnd) (new : Running) : Type 0 where
  pub reading : ℕ
  pub rest : Trace
  pub split : trace ≡ Event.Reads reading ∷ rest
  pub acts :
      Then (Come defs)
      (Then (On (λ o t e n. Reports o t e n))
      (Then Probing (Then (On Advise) (On (Take (Input.Local (Turn reading))))))) old rest end new

-- so many turns at most
abbrev pub Run : Defs → ℕ → Action Running
Run defs zero = Stop TurnsSpent
Run defs (suc turns) = Then (λ o t e n. TurnOf defs o t e n) (Run defs turns)
