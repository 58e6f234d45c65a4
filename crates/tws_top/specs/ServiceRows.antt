-- The statuses one by one, of words that ask for a service.
use Rattle.std.specs.Prelude.{ℕ, ◌++◌, ◌≡◌, ◌⊎◌, IfSome, List, None, Ok, Option, Some, slice_get}
use Rattle.std.specs.Io.KnownBytes.{Appends}
use Rattle.base_types.specs.Limits.{limit_number}
use Rattle.base_types.specs.declared.LimitName.{LimitName}
use Rattle.base_types.specs.declared.LimitName.TheVariants as limit
use Rattle.base_types.specs.declared.Peer.{Peer}
use Rattle.composer_parser.specs.declared.Defs.{Defs}
use Rattle.conman_client.specs.Asks.{IsUnanswered}
use Rattle.definition_texts.specs.Kinds.{word_of}
use Rattle.definition_texts.specs.declared.refusals.Refusal.{Refusal}
use Rattle.model.specs.Types.{Entry, Input}
use Rattle.agent_core.specs.Nodes.{NodeState}
use Rattle.agent_core.specs.Steps.{IsDue}
use Rattle.agent_core.specs.declared.faults.StepFault.TheVariants.{PlaceSpent}
use Rattle.node_inputs.specs.Keeping.{bodies}
use Rattle.node_inputs.specs.Tellings.{Told}
use Rattle.node_inputs.specs.Traces.{Trace, kept}
use Rattle.node_inputs.specs.declared.ends.NodeEnd.{NodeEnd}
use Rattle.node_inputs.specs.declared.ends.NodeEnd.TheVariants.{Limit}
use Rattle.node_service.specs.Serving.{IsFull, KeepsFront}
use Rattle.node_service.specs.declared.services.ServiceEnd.TheVariants.{Ran}
use Rattle.node_restart.specs.Restarting.{IsRefused}
use Rattle.outside.specs.Calls.{LinkCalls}
use Rattle.outside.specs.Causes.{Rose}
use Rattle.outside.specs.Streams.{Stream}
use Rattle.replies.specs.Texts.{definitions_line, limit_line, limit_word}
use Rattle.whole_io.specs.Whole.{TakesCount}
use Rattle.workload_defs.specs.Nets.{net_of, peers_of}
use Rattle.workload_defs.specs.Stations.{number_of}
use Rattle.node_commands.specs.Ends.{other_file_line}
use Rattle.node_commands.specs.Forms.{AskOf, NodeFor, Request, name_in, request_of}
use Rattle.node_commands.specs.Services.{Asking, IsAsked, IsServed, ReadsDefs, RefusesDefs, ServedBy, Serving}

-- The input was read to its end as what is no checked definitions, and nothing but the line was written.
pub record RefusesRequest (words : List (List ℕ)) (old new : Option Stream) (written written' : Option (List ℕ)) : Type 0 where
  pub request : Request
  pub refusal : Refusal
  pub asked : request_of words ≡ Some request
  pub refused : RefusesDefs refusal old new
  pub wrote : Appends written written' (definitions_line refusal.line (word_of refusal.kind))

-- The input was read to its end as definitions without a workstation of the name.
pub record HasNoStation (words : List (List ℕ)) (old new : Option Stream) : Type 0 where
  pub request : Request
  pub defs : Defs
  pub asked : request_of words ≡ Some request
  pub read : ReadsDefs defs old new
  pub none : number_of defs (name_in request) ≡ None

-- A node was asked for of a disk whose file is refused at a place, where the disk tells it, and nothing but the line was
-- written.
pub record FindsOtherFile (words : List (List ℕ)) (told : Option (List ℕ)) (old new : Option Stream)
    (written written' : Option (List ℕ)) : Type 0 where
  pub name : List ℕ
  pub turns : ℕ
  pub defs : Defs
  pub me : ℕ
  pub place : ℕ
  pub asked : request_of words ≡ Some (NodeFor name turns)
  pub read : ReadsDefs defs old new
  pub there : number_of defs name ≡ Some me
  pub refused : IfSome told (IsRefused (net_of defs) me place)
  pub wrote : Appends written written' (other_file_line place)

-- A node was asked a command, and the link failed or 600 polls gave no whole reply.
pub record HasNoAnswer (words : List (List ℕ)) (old new : Option Stream) (calls calls' : LinkCalls) (faults faults' : ℕ)
    : Type 0 where
  pub name : List ℕ
  pub command : List ℕ
  pub defs : Defs
  pub me : ℕ
  pub peer : Peer
  pub asked : request_of words ≡ Some (AskOf name command)
  pub read : ReadsDefs defs old new
  pub there : number_of defs name ≡ Some me
  pub its_peer : slice_get (peers_of defs) me ≡ Some peer
  pub why : Rose faults faults' ⊎ IsUnanswered peer.ws calls calls'

-- The workstation of the words was served, and its node ran and ended so.
pub record HasServed (S : Serving) (words : List (List ℕ)) (old new : Option Stream) (why : NodeEnd) : Type 0 where
  pub request : Request
  pub asked : request_of words ≡ Some request
  pub served : IsServed S request old new (Ran why)

-- The workstation of the words was asked, and its whole reply was written and nothing else.
pub record HasReply (A : Asking) (words : List (List ℕ)) (old new : Option Stream) (written written' : Option (List ℕ)) : Type 0 where
  pub request : Request
  pub text : List ℕ
  pub asked : request_of words ≡ Some request
  pub answered : IsAsked A request old new (Ok text)
  pub wrote : Appends written written' text

-- The file keeps in front what was held and kept, and with the entry that was refused it is too long.
pub record IsFileFull (held : List Entry) (trace : Trace) (told now : Option (List ℕ)) : Type 0 where
  pub keeps : KeepsFront (bodies (held ++ kept trace)) told now
  pub full : IsFull held trace

-- Why a run ends at a limit: its file is full, where the disk tells its bytes, or an input meets a place that is spent at
-- the node with which the run ends.
pub data MeetsLimit (held : List Entry) (trace : Trace) (last : NodeState) (told now : Option (List ℕ)) : LimitName → Type 0 where
  file_full : IfSome told (λ (before : List ℕ). IsFileFull held trace told now) → MeetsLimit held trace last told now limit.File
  place_spent : (input : Input) → IsDue last input PlaceSpent → MeetsLimit held trace last told now limit.Places

-- A node was served, and its run ended at a limit that it met.
pub record EndsAtLimit {D : Type 0} (seen : D → Option (List ℕ)) (faults moment : D → ℕ) (may_leave : D → List ℕ → Type 0)
    (left_since : D → ℕ → List ℕ → Type 0) (disk disk' : D) (told now : Told) (others_same : Type 0) (request : Request)
    (old new : Option Stream) : Type 0 where
  pub which : LimitName
  pub served : IsServed (ServedBy seen faults moment may_leave left_since disk disk' told now others_same) request old new (Ran (Limit which))
  pub met : MeetsLimit served.served.0.start.kept served.served.0.trace served.served.0.after.node (seen disk) (seen disk') which

-- The input of a request passes its limit, or the run of a node ends at one, and nothing but the line was written.
pub data PassesLimit {D : Type 0} (seen : D → Option (List ℕ)) (faults moment : D → ℕ) (may_leave : D → List ℕ → Type 0)
    (left_since : D → ℕ → List ℕ → Type 0) (disk disk' : D) (told now : Told) (others_same : Type 0)
    (words : List (List ℕ)) (old new : Option Stream) (written written' : Option (List ℕ)) : Type 0 where
  of_input : (request : Request) → request_of words ≡ Some request → TakesCount 16777217 old new
      → Appends written written' (limit_line (limit_word limit.Input) 16777216)
      → PassesLimit seen faults moment may_leave left_since disk disk' told now others_same words old new written written'
  of_run : (request : Request) → request_of words ≡ Some request
      → (ends : EndsAtLimit seen faults moment may_leave left_since disk disk' told now others_same request old new)
      → Appends written written' (limit_line (limit_word ends.which) (limit_number ends.which))
      → PassesLimit seen faults moment may_leave left_since disk disk' told now others_same words old new written written'
