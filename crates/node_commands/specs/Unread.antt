-- Why no definitions were read of an input, and what is said of that.
use Rattle.std.specs.Prelude.{ℕ, ◌≡◌, List, Option, ⊤}
use Rattle.std.specs.Io.KnownBytes.{Keeps}
use Rattle.base_types.specs.declared.LimitName.TheVariants as limit
use Rattle.definition_texts.specs.Kinds.{word_of}
use Rattle.replies.specs.Texts.{definitions_line, limit_line, limit_word}
use Rattle.replies.specs.declared.statuses.Status.TheVariants.{DefinitionsRefused, LimitPassed}
use Rattle.outside.specs.Streams.{Stream}
use Rattle.whole_io.specs.Whole.{TakesCount}
use Rattle.node_commands.specs.Ends.{IsTold}
use Rattle.node_commands.specs.Services.{RefusesDefs}
use Rattle.node_commands.specs.declared.reading.Unread.{Unread}
use Rattle.node_commands.specs.declared.reading.Unread.TheVariants.{NoMemory, Refused, SourceFailed, TooLong}

-- by what was read
abbrev pub IsUnread : Unread → Option Stream → Option Stream → Type 0
IsUnread (Refused r) old new = RefusesDefs r old new
IsUnread TooLong old new = TakesCount 16777217 old new
IsUnread SourceFailed old new = ⊤
IsUnread NoMemory old new = ⊤

-- a refusal and a limit are said, a fault of the source and want of memory are not
abbrev pub IsToldUnread : Unread → ℕ → Option (List ℕ) → Option (List ℕ) → ℕ → ℕ → Type 0
IsToldUnread (Refused r) result written written' faults faults' =
    IsTold DefinitionsRefused (definitions_line r.line (word_of r.kind)) result written written' faults faults'
IsToldUnread TooLong result written written' faults faults' =
    IsTold LimitPassed (limit_line (limit_word limit.Input) 16777216) result written written' faults faults'
IsToldUnread SourceFailed result written written' faults faults' = (result ≡ 4) × Keeps written written'
IsToldUnread NoMemory result written written' faults faults' = (result ≡ 9) × Keeps written written'
