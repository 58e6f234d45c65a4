-- The answers to lines that give a command or are for the node itself.
use Rattle.std.specs.Fmt.{decimal}
use Rattle.std.specs.Prelude.{ℕ, ◌++◌, List, codes}
use Rattle.model.specs.Types.{Net}
use Rattle.report_text.specs.Names.{name_of}
use Rattle.node_replies.specs.declared.replies.Refusal.{Refusal}
use Rattle.node_replies.specs.declared.replies.Refusal.TheVariants as refusal

-- `kept A>W PLACE`: a command was typed at A for W, as the order of this place
abbrev pub kept_of : List ℕ → List ℕ → ℕ → List ℕ
kept_of from to place = codes "kept " ++ from ++ codes ">" ++ to ++ codes " " ++ decimal place ++ codes "\n"

abbrev pub kept_line : Net → ℕ → ℕ → ℕ → List ℕ
kept_line net from to place = kept_of (name_of net from) (name_of net to) place

-- `link W` and `unlink W`: the link was asked
abbrev pub asked_of : List ℕ → List ℕ → List ℕ
asked_of what name = what ++ codes " " ++ name ++ codes "\n"

abbrev pub link_line : Net → ℕ → List ℕ
link_line net w = asked_of (codes "link") (name_of net w)

abbrev pub unlink_line : Net → ℕ → List ℕ
unlink_line net w = asked_of (codes "unlink") (name_of net w)

-- `plan RUN`: the plan of a new day was made
abbrev pub plan_line : ℕ → List ℕ
plan_line run = codes "plan " ++ decimal run ++ codes "\n"

abbrev pub shutdown_line : List ℕ
shutdown_line = codes "shutdown\n"

-- why a line was refused
abbrev pub refusal_word : Refusal → List ℕ
refusal_word refusal.UnknownCommand = codes "UnknownCommand"
refusal_word refusal.BadArgument = codes "BadArgument"
refusal_word refusal.TooMany = codes "TooMany"
refusal_word refusal.UnknownName = codes "UnknownName"
refusal_word refusal.Limit = codes "Limit"
refusal_word refusal.OutOfRange = codes "OutOfRange"
refusal_word refusal.NotInNetwork = codes "NotInNetwork"
refusal_word refusal.NotNeighbour = codes "NotNeighbour"
refusal_word refusal.NotMaster = codes "NotMaster"
refusal_word refusal.NoProcess = codes "NoProcess"
refusal_word refusal.NoDep = codes "NoDep"
refusal_word refusal.RunsSpent = codes "RunsSpent"
refusal_word refusal.NumbersSpent = codes "NumbersSpent"
refusal_word refusal.PlanFull = codes "PlanFull"
refusal_word refusal.TooLong = codes "TooLong"

-- `refused KIND`
abbrev pub refused_of : List ℕ → List ℕ
refused_of word = codes "refused " ++ word ++ codes "\n"

abbrev pub refused_line : Refusal → List ℕ
refused_line why = refused_of (refusal_word why)
