-- Conditions that are none.
use Rattle.std.specs.Prelude.{◌≡◌, ◌⊎◌, ℕ, ◌≤◌, nat_le, List, ◌++◌, Contains, flat_map, Option, Some, None, if◌then◌else◌, option_map, option_and_then}
use Rattle.std.specs.List.{filter_map}
use Rattle.model.specs.Types.{CondOp}
use Rattle.rc_conditions.specs.Answers.{IsCondition}
use Rattle.composer_parser.specs.declared.Lined.{Lined}
use Rattle.composer_parser.specs.declared.Defs.{Defs}
use Rattle.composer_parser.specs.declared.WorkDef.{WorkDef}
use Rattle.composer_parser.specs.declared.JobDef.{JobDef}
use Rattle.composer_parser.specs.declared.EntryDef.{EntryDef}
use Rattle.composer_parser.specs.declared.ScheduleDef.{ScheduleDef}

-- the text is no condition of at most 64 operations
abbrev pub IsRefused : List ℕ → Type 0
IsRefused text = (ops : List CondOp) → IsCondition text ops → ⊥

abbrev pub IsRefusedOf : Option (List ℕ) → Type 0
IsRefusedOf None = ⊥
IsRefusedOf (Some text) = IsRefused text

-- a condition and the line at which it is told: that of the job or of the entry
abbrev pub condition_of_job : Lined JobDef → Option (ℕ × List ℕ)
condition_of_job j = option_map (λ text. (j.line, text)) j.item.work.cond

-- the condition of an entry's own work
abbrev pub cond_of_entry : EntryDef → Option (List ℕ)
cond_of_entry e = option_and_then (λ (w : WorkDef). w.cond) e.work

abbrev pub condition_of_entry : Lined EntryDef → Option (ℕ × List ℕ)
condition_of_entry e = option_map (λ text. (e.line, text)) (cond_of_entry e.item)

abbrev pub conditions_of : List (Lined EntryDef) → List (ℕ × List ℕ)
conditions_of entries = filter_map condition_of_entry entries

abbrev pub conditions_of_stream : Lined ScheduleDef → List (ℕ × List ℕ)
conditions_of_stream s = conditions_of s.item.entries

-- all conditions of the definitions with their lines
abbrev pub conditions : Defs → List (ℕ × List ℕ)
conditions d = filter_map condition_of_job d.jobs ++ flat_map conditions_of_stream d.schedules

-- one of these at the line is none
abbrev pub HasBad : List (ℕ × List ℕ) → ℕ → Type 0
HasBad all line = (text : List ℕ) × Contains all (line, text) × IsRefused text

-- the least of the lines of bad conditions, and none where all are good
abbrev pub IsLeastOf : (ℕ → Type 0) → Option ℕ → Type 0
IsLeastOf Has None = (line : ℕ) → Has line → ⊥
IsLeastOf Has (Some least) = Has least × ((line : ℕ) → Has line → least ≤ line)

abbrev pub IsLeastBadLine : Defs → Option ℕ → Type 0
IsLeastBadLine d found = IsLeastOf (HasBad (conditions d)) found

-- the same of these entries and a line that may be there before
abbrev pub IsLeastBadLineOf : Option ℕ → List (Lined EntryDef) → Option ℕ → Type 0
IsLeastBadLineOf before entries found =
    IsLeastOf (λ line. (Some line ≡ before) ⊎ HasBad (conditions_of entries) line) found

abbrev pub lesser_of : Option ℕ → ℕ → Option ℕ
lesser_of None line = Some line
lesser_of (Some other) line = if nat_le other line then Some other else Some line

-- the same of one condition that may be there: its line counts where it is none
abbrev pub IsNoted : Option ℕ → ℕ → Option (List ℕ) → Option ℕ → Type 0
IsNoted before line cond found =
    (IsRefusedOf cond × (found ≡ lesser_of before line)) ⊎ ((IsRefusedOf cond → ⊥) × (found ≡ before))
