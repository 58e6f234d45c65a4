-- Which status and which text are due.
use Rattle.std.specs.Prelude.{[], ℕ, ◌++◌, ◌≡◌, List, None, Option, Some, codes, flat_map}
use Rattle.std.specs.Fmt.{decimal}
use Rattle.composer_parser.specs.declared.Defs.{Defs}
use Rattle.model.specs.History.{view_of}
use Rattle.model.specs.Types.{Entry, Net}
use Rattle.outside.specs.Causes.{Rose}
use Rattle.outside.specs.Streams.{Stream}
use Rattle.replies.specs.declared.statuses.Status.{Status}
use Rattle.replies.specs.declared.statuses.Status.TheVariants.{DiskFailed, OtherFile, Success, WordsRefused}
use Rattle.report_text.specs.Reports.{entry_line}
use Rattle.waiting_lines.specs.Answers.{waits_of}
use Rattle.workload_defs.specs.Nets.{net_of}
use Rattle.workload_defs.specs.Stations.{number_of}
use Rattle.view_words.specs.Forms.{Request, request_of}
use Rattle.view_words.specs.Readings.{GivesDefs, HasRead, IsOther, Sight, UnreadCallsFor}
use Rattle.view_words.specs.declared.forms.Look.{Look}
use Rattle.view_words.specs.declared.forms.Look.TheVariants.{Kept, Why}

abbrev pub other_file_line : ℕ → List ℕ
other_file_line place = codes "not this message file: offset " ++ decimal place ++ codes "\n"

-- what is shown of the entries that the file of workstation me keeps: their lines, or why jobs and streams wait, all or
-- those whose names are of a pattern
abbrev pub text_of : Look → Option (List ℕ) → Net → ℕ → List Entry → List ℕ
text_of Kept pattern net me entries = flat_map (entry_line net) entries
text_of Why pattern net me entries = waits_of net (view_of entries) me pattern

-- by definitions that were read, and by the file of the workstation
pub data FileCallsFor (S : Sight) (request : Request) (defs : Defs) : Status → List ℕ → Type 0 where
  unknown : number_of defs request.name ≡ None → FileCallsFor S request defs WordsRefused (codes "words refused\n")
  failed : (me : ℕ) → number_of defs request.name ≡ Some me → Rose S.faults S.faults_then
      → FileCallsFor S request defs DiskFailed []
  other_file : (me place : ℕ) → number_of defs request.name ≡ Some me → IsOther S defs me request.name place
      → FileCallsFor S request defs OtherFile (other_file_line place)
  shown : (me : ℕ) (entries : List Entry) → number_of defs request.name ≡ Some me
      → HasRead S defs me request.name entries
      → FileCallsFor S request defs Success (text_of request.look request.pattern (net_of defs) me entries)

-- all causes, in their order: words without a form, an input that gives no definitions, and the file
pub data Due (S : Sight) (words : List (List ℕ)) (old new : Option Stream) : Status → List ℕ → Type 0 where
  no_form : request_of words ≡ None → Due S words old new WordsRefused (codes "words refused\n")
  unread : {status : Status} {text : List ℕ} (request : Request) → request_of words ≡ Some request
      → UnreadCallsFor old new status text → Due S words old new status text
  of_file : {status : Status} {text : List ℕ} (request : Request) (defs : Defs) → request_of words ≡ Some request
      → GivesDefs defs old new → FileCallsFor S request defs status text → Due S words old new status text
