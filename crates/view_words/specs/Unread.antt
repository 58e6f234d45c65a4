-- Why no definitions were read of an input.
use Rattle.std.specs.Prelude.{Option, ⊤}
use Rattle.outside.specs.Streams.{Stream}
use Rattle.whole_io.specs.Whole.{TakesCount}
use Rattle.view_words.specs.Readings.{GivesRefusal}
use Rattle.view_words.specs.declared.reading.Unread.{Unread}
use Rattle.view_words.specs.declared.reading.Unread.TheVariants.{NoMemory, Refused, SourceFailed, TooLong}

-- by what was read
abbrev pub IsUnread : Unread → Option Stream → Option Stream → Type 0
IsUnread (Refused r) old new = GivesRefusal r old new
IsUnread TooLong old new = TakesCount 16777217 old new
IsUnread SourceFailed old new = ⊤
IsUnread NoMemory old new = ⊤
