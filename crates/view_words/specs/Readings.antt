-- What was read: definitions of the input, and the entries of a file of the folder.
use Rattle.std.specs.Prelude.{ℕ, ◌++◌, ◌≤◌, IfSome, List, Option, codes, length}
use Rattle.base_types.specs.declared.LimitName.TheVariants as limit
use Rattle.composer_parser.specs.declared.Defs.{Defs}
use Rattle.definition_texts.specs.Kinds.{word_of}
use Rattle.definition_texts.specs.Refusals.{AreChecked, IsRefused}
use Rattle.definition_texts.specs.declared.refusals.Refusal.{Refusal}
use Rattle.entry_files.specs.Entries.{GoOn, KeepsEntries, IsRefused as IsRefusedFile}
use Rattle.kept_files.specs.Growth.{OnlyKeepsMore}
use Rattle.kept_files.specs.declared.faults.FileFault.TheVariants.{NotThisFile}
use Rattle.model.specs.Types.{Entry}
use Rattle.outside.specs.Streams.{Stream, TakesAll}
use Rattle.replies.specs.Texts.{definitions_line, limit_line, limit_word}
use Rattle.replies.specs.declared.statuses.Status.{Status}
use Rattle.replies.specs.declared.statuses.Status.TheVariants.{DefinitionsRefused, LimitPassed}
use Rattle.whole_io.specs.Whole.{TakesCount}
use Rattle.workload_defs.specs.Nets.{net_of}

-- Definitions.

-- the input was read to its end as checked definitions
pub record GivesDefs (defs : Defs) (old new : Option Stream) : Type 0 where
  pub bytes : List ℕ
  pub read : TakesAll old new bytes
  pub short : length bytes ≤ 16777216
  pub are : AreChecked bytes defs

-- it was read to its end as what is refused
pub record GivesRefusal (refusal : Refusal) (old new : Option Stream) : Type 0 where
  pub bytes : List ℕ
  pub read : TakesAll old new bytes
  pub short : length bytes ≤ 16777216
  pub refused : IsRefused bytes refusal

-- what is due of an input that gives no definitions
pub data UnreadCallsFor (old new : Option Stream) : Status → List ℕ → Type 0 where
  too_long : TakesCount 16777217 old new
      → UnreadCallsFor old new LimitPassed (limit_line (limit_word limit.Input) 16777216)
  refused : (r : Refusal) → GivesRefusal r old new
      → UnreadCallsFor old new DefinitionsRefused (definitions_line r.line (word_of r.kind))

-- Files.

-- What a folder tells: the bytes of the file of a name when the reading began and as the last call found them, what
-- others may make of them meanwhile, and its count of faults at both times.
pub record Sight : Type 1 where
  pub seen : List ℕ → Option (List ℕ)
  pub seen_then : List ℕ → Option (List ℕ)
  pub becomes : List ℕ → List ℕ → List ℕ → Type 0
  pub faults : ℕ
  pub faults_then : ℕ

abbrev pub sight : {F : Type 0} → (F → List ℕ → Option (List ℕ)) → (F → List ℕ → List ℕ → List ℕ → Type 0)
    → (F → ℕ) → F → F → Sight
sight seen becomes faults old new =
    record { seen = seen old; seen_then = seen new; becomes = becomes old; faults = faults old; faults_then = faults new }

-- the name of the file of a workstation
abbrev pub file_of : List ℕ → List ℕ
file_of name = name ++ codes ".msg"

-- These entries were read of the file of workstation me. Where others only keep more in it, they are what the file
-- keeps as the last call found it, and all that it kept when the reading began stands at their front.
pub record HasRead (S : Sight) (defs : Defs) (me : ℕ) (name : List ℕ) (entries : List Entry) : Type 0 where
  pub last :
      OnlyKeepsMore S.becomes me (file_of name)
      → IfSome (S.seen_then (file_of name)) (λ file. KeepsEntries (net_of defs) me file entries)
  pub first :
      OnlyKeepsMore S.becomes me (file_of name)
      → IfSome (S.seen (file_of name))
      (λ file. (kept : List Entry) → KeepsEntries (net_of defs) me file kept → GoOn kept entries)

-- the file is none of workstation me, or keeps a wrong body, and this place shows it
abbrev pub IsOther : Sight → Defs → ℕ → List ℕ → ℕ → Type 0
IsOther S defs me name place =
    OnlyKeepsMore S.becomes me (file_of name)
    → IfSome (S.seen_then (file_of name)) (IsRefusedFile (net_of defs) me (NotThisFile place))
