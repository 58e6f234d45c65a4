-- Exit statuses by their numbers.
use Rattle.std.specs.Prelude.{ℕ}
use Rattle.replies.specs.declared.statuses.Status.{Status}
use Rattle.replies.specs.declared.statuses.Status.TheVariants.{Success, DefinitionsRefused, WordsRefused, RecordRefused}
use Rattle.replies.specs.declared.statuses.Status.TheVariants.{SourceFailed, SinkFailed, DiskFailed, OtherFile, TurnsSpent, NoMemory, LimitPassed, NotSound, NoAnswer}

abbrev pub number_of : Status → ℕ
number_of Success = 0
number_of DefinitionsRefused = 1
number_of WordsRefused = 2
number_of RecordRefused = 3
number_of SourceFailed = 4
number_of SinkFailed = 5
number_of DiskFailed = 6
number_of OtherFile = 7
number_of TurnsSpent = 8
number_of NoMemory = 9
number_of LimitPassed = 10
number_of NotSound = 11
number_of NoAnswer = 12
