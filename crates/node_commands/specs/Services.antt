-- What a service came to, whatever was said of it.
use Rattle.std.specs.Prelude.{ℕ, ◌≡◌, ◌≤◌, ◌⊎◌, Err, List, None, Option, Result, Some, codes, length, slice_get}
use Rattle.std.specs.Io.KnownBytes.{Keeps}
use Rattle.base_types.specs.declared.LimitName.TheVariants as limit
use Rattle.base_types.specs.declared.Peer.{Peer}
use Rattle.composer_parser.specs.declared.Defs.{Defs}
use Rattle.conman_client.specs.Asks.{Counts, IsAsk, IsUnanswered, Made, Tells}
use Rattle.conman_client.specs.declared.ends.AskEnd.{AskEnd}
use Rattle.conman_client.specs.declared.ends.AskEnd.TheVariants.{NoAnswer}
use Rattle.definition_texts.specs.Kinds.{word_of}
use Rattle.definition_texts.specs.Refusals.{AreChecked, IsRefused}
use Rattle.definition_texts.specs.declared.refusals.Refusal.{Refusal}
use Rattle.node_inputs.specs.Tellings.{Told}
use Rattle.node_service.specs.Serving.{IsUncalled, Serves}
use Rattle.node_service.specs.declared.services.ServiceEnd.{ServiceEnd}
use Rattle.outside.specs.Calls.{LinkCalls}
use Rattle.outside.specs.Causes.{Rose}
use Rattle.outside.specs.Streams.{Stream, TakesAll}
use Rattle.replies.specs.Texts.{definitions_line, limit_line, limit_word}
use Rattle.replies.specs.declared.statuses.Status.{Status}
use Rattle.replies.specs.declared.statuses.Status.TheVariants.{DefinitionsRefused, LimitPassed, WordsRefused}
use Rattle.whole_io.specs.Whole.{TakesCount}
use Rattle.workload_defs.specs.Nets.{peers_of}
use Rattle.workload_defs.specs.Stations.{number_of}
use Rattle.node_commands.specs.Ends.{IsTold, answer_status, answer_text, end_status, end_text}
use Rattle.node_commands.specs.Forms.{AskOf, NodeFor, Request, name_in}

-- what serving a workstation came to, from the disk and what the others told before to what they have and tell now; where
-- no node was made the others are as they were
abbrev pub Serving : Type 1
Serving = Defs → ℕ → ℕ → ServiceEnd → Type 0

abbrev pub ServedBy : {D : Type 0} → (D → Option (List ℕ)) → (D → ℕ) → (D → ℕ) → (D → List ℕ → Type 0)
    → (D → ℕ → List ℕ → Type 0) → D → D → Told → Told → Type 0 → Serving
ServedBy seen faults moment may_leave left_since old new told now others_same defs me turns end =
    Serves seen faults moment may_leave left_since defs me turns end old new told now × IsUncalled end others_same

-- what asking one came to, by the calls of the link and the count of its faults
abbrev pub Asking : Type 1
Asking = Peer → List ℕ → Result (List ℕ) AskEnd → Type 0

pub record HasAsked (calls calls' : LinkCalls) (faults faults' : ℕ) (peer : Peer) (command : List ℕ)
    (answer : Result (List ℕ) AskEnd) : Type 0 where
  pub made : Made
  pub tells : Tells made calls calls'
  pub counts : Counts made faults faults'
  pub is_ask : IsAsk peer command made answer
  pub cause : answer ≡ Err NoAnswer → Rose faults faults' ⊎ IsUnanswered peer.ws calls calls'

abbrev pub AskedBy : LinkCalls → LinkCalls → ℕ → ℕ → Asking
AskedBy calls calls' faults faults' peer command answer = HasAsked calls calls' faults faults' peer command answer

-- the input was read to its end as checked definitions
pub record ReadsDefs (defs : Defs) (old new : Option Stream) : Type 0 where
  pub bytes : List ℕ
  pub read : TakesAll old new bytes
  pub short : length bytes ≤ 16777216
  pub are : AreChecked bytes defs

-- it was read to its end as what is refused
pub record RefusesDefs (refusal : Refusal) (old new : Option Stream) : Type 0 where
  pub bytes : List ℕ
  pub read : TakesAll old new bytes
  pub short : length bytes ≤ 16777216
  pub refused : IsRefused bytes refusal

-- what is due where no service is reached: the input is too long, or its definitions are refused, or have no workstation
-- of the name
pub data UnservedCallsFor (request : Request) (old new : Option Stream) : Status → List ℕ → Type 0 where
  too_long : TakesCount 16777217 old new
      → UnservedCallsFor request old new LimitPassed (limit_line (limit_word limit.Input) 16777216)
  refused : (r : Refusal) → RefusesDefs r old new
      → UnservedCallsFor request old new DefinitionsRefused (definitions_line r.line (word_of r.kind))
  unknown : (defs : Defs) → ReadsDefs defs old new → number_of defs (name_in request) ≡ None
      → UnservedCallsFor request old new WordsRefused (codes "words refused\n")

-- a workstation of the definitions that were read was served
pub record IsServed (S : Serving) (request : Request) (old new : Option Stream) (end : ServiceEnd) : Type 0 where
  pub name : List ℕ
  pub turns : ℕ
  pub defs : Defs
  pub me : ℕ
  pub is : request ≡ NodeFor name turns
  pub read : ReadsDefs defs old new
  pub there : number_of defs name ≡ Some me
  pub served : S defs me turns end

-- one was asked
pub record IsAsked (A : Asking) (request : Request) (old new : Option Stream) (answer : Result (List ℕ) AskEnd) : Type 0 where
  pub name : List ℕ
  pub command : List ℕ
  pub defs : Defs
  pub me : ℕ
  pub peer : Peer
  pub is : request ≡ AskOf name command
  pub read : ReadsDefs defs old new
  pub there : number_of defs name ≡ Some me
  pub its_peer : slice_get (peers_of defs) me ≡ Some peer
  pub asked : A peer command answer

-- why nothing is said before a service is reached: the source failed, or memory ran out
abbrev pub IsSilence : ℕ → ℕ → ℕ → Type 0
IsSilence result source source' = ((result ≡ 4) × Rose source source') ⊎ (result ≡ 9)

-- A service from the words on. Where none is reached all is the same, and with an ask all but the link.
pub data IsService (S : Serving) (A : Asking) (same but_link : Type 0) (request : Request) (old new : Option Stream)
    (source source' result : ℕ) (written written' : Option (List ℕ)) (sink sink' : ℕ) : Type 0 where
  silent : same → IsSilence result source source' → Keeps written written'
      → IsService S A same but_link request old new source source' result written written' sink sink'
  unserved : (due : Status) (text : List ℕ) → same → UnservedCallsFor request old new due text
      → IsTold due text result written written' sink sink'
      → IsService S A same but_link request old new source source' result written written' sink sink'
  served : (end : ServiceEnd) → IsServed S request old new end
      → IsTold (end_status end) (end_text end) result written written' sink sink'
      → IsService S A same but_link request old new source source' result written written' sink sink'
  asked : (answer : Result (List ℕ) AskEnd) → but_link → IsAsked A request old new answer
      → IsTold (answer_status answer) (answer_text answer) result written written' sink sink'
      → IsService S A same but_link request old new source source' result written written' sink sink'
