-- What is due for words and input, by what was read and called.
use Rattle.std.specs.Prelude.{ℕ, ◌<◌, ◌≡◌, ◌≢◌, ◌≤◌, List, None, Option, Result, Some, codes, length}
use Rattle.base_types.specs.declared.LimitName.TheVariants as limit
use Rattle.composer_parser.specs.declared.Defs.{Defs}
use Rattle.conman_client.specs.declared.ends.AskEnd.{AskEnd}
use Rattle.definition_texts.specs.Kinds.{word_of}
use Rattle.definition_texts.specs.Refusals.{AreChecked, IsRefused}
use Rattle.definition_texts.specs.declared.refusals.Refusal.{Refusal}
use Rattle.network_world.specs.Stations.{WorldState}
use Rattle.node_service.specs.declared.services.ServiceEnd.{ServiceEnd}
use Rattle.outside.specs.Streams.{Stream}
use Rattle.replies.specs.Sayings.{Says}
use Rattle.input_commands.specs.Dues.{IsOf}
use Rattle.input_commands.specs.Dues as texts
use Rattle.replies.specs.Texts.{definitions_line, limit_line, limit_word}
use Rattle.input_commands.specs.Nights.{Night}
use Rattle.replies.specs.declared.statuses.Status.{Status}
use Rattle.replies.specs.declared.statuses.Status.TheVariants.{DefinitionsRefused, LimitPassed, WordsRefused}
use Rattle.workload_defs.specs.Stations.{number_of}
use Rattle.node_commands.specs.Ends.{answer_status, answer_text, end_status, end_text}
use Rattle.node_commands.specs.Forms.{Request, name_in, request_of}
use Rattle.node_commands.specs.Services.{Asking, IsAsked, IsServed, Serving, UnservedCallsFor}

-- what a request calls for: what is due before a service, or what its end calls for
pub data ServiceCallsFor (S : Serving) (A : Asking) (request : Request) (old new : Option Stream) : Status → List ℕ → Type 0 where
  unserved : {status : Status} {text : List ℕ} → UnservedCallsFor request old new status text
      → ServiceCallsFor S A request old new status text
  served : (end : ServiceEnd) → IsServed S request old new end
      → ServiceCallsFor S A request old new (end_status end) (end_text end)
  asked : (answer : Result (List ℕ) AskEnd) → IsAsked A request old new answer
      → ServiceCallsFor S A request old new (answer_status answer) (answer_text answer)

-- The status, the text and the night that are due: those of words that are answered by the input alone, or of a request.
pub data Due (S : Serving) (A : Asking) (words : List (List ℕ)) (old new : Option Stream) : Status → List ℕ → Option Night → Type 0 where
  by_texts : {status : Status} {text : List ℕ} {night : Option Night} → request_of words ≡ None
      → texts.Due words old new status text night → Due S A words old new status text night
  by_request : {status : Status} {text : List ℕ} (request : Request) → request_of words ≡ Some request
      → ServiceCallsFor S A request old new status text → Due S A words old new status text None

-- what the bytes that a source still has call for before a service
pub data LeftCallsFor (request : Request) (left : List ℕ) : Status → List ℕ → Type 0 where
  too_long : 16777216 < length left
      → LeftCallsFor request left LimitPassed (limit_line (limit_word limit.Input) 16777216)
  refused : (r : Refusal) → length left ≤ 16777216 → IsRefused left r
      → LeftCallsFor request left DefinitionsRefused (definitions_line r.line (word_of r.kind))
  unknown : (defs : Defs) → length left ≤ 16777216 → AreChecked left defs → number_of defs (name_in request) ≡ None
      → LeftCallsFor request left WordsRefused (codes "words refused\n")

-- What is due was said, and the world of a night is handed back: none with 5.
pub record IsAnswer (S : Serving) (A : Asking) (words : List (List ℕ)) (old new : Option Stream) (result : ℕ)
    (handed : Option WorldState) (written written' : Option (List ℕ)) (faults faults' : ℕ) : Type 0 where
  pub status : Status
  pub text : List ℕ
  pub night : Option Night
  pub due : Due S A words old new status text night
  pub says : Says status text result written written' faults faults'
  pub whole : result ≢ 5 → IsOf handed night
  pub alone : result ≡ 5 → handed ≡ None
