-- The parts of a rule, and what each is worth.
use Rattle.std.specs.Prelude.{ℕ, ◌==◌, List, [], length, find, codes, Option, Some, None, if◌then◌else◌}
use Rattle.std.specs.List.{slice_split}
use Rattle.std.specs.Option.{option_map_or}
use Rattle.std.specs.Str.{str_eq_ignore_ascii_case}
use Rattle.syntax.specs.Numbers.{number_of}
use Rattle.composer_parser.specs.Rules.{parts_of, is_named}
use Rattle.composer_parser.specs.Words.{behind}
use Rattle.run_rules.specs.declared.parts.Frequency.{Frequency}
use Rattle.run_rules.specs.declared.parts.Frequency.TheVariants.{Daily, Weekly, Monthly}

-- what stands behind the `=` of the first part of this name, and nothing where there is none
unfoldable pub value_of : List ℕ → List ℕ → List ℕ
value_of name rule = option_map_or (behind 61) (find (is_named name) (parts_of rule)) []

-- the words between the commas of a value
abbrev pub listed : List ℕ → List (List ℕ)
listed value = slice_split (λ b. b == 44) value

-- how often the rule runs
unfoldable pub frequency_of : List ℕ → Frequency
frequency_of rule =
    if str_eq_ignore_ascii_case (value_of (codes "FREQ") rule) (codes "DAILY") then Daily else
    if str_eq_ignore_ascii_case (value_of (codes "FREQ") rule) (codes "WEEKLY") then Weekly else Monthly

-- the number of INTERVAL, and 1 where there is none; none for a number above 32 bits
unfoldable pub interval_of : List ℕ → Option ℕ
interval_of rule =
    if length (value_of (codes "INTERVAL") rule) == 0 then Some 1 else number_of 32 (value_of (codes "INTERVAL") rule)

-- the day of the week that a word says, 0 for MO to 6 for SU
abbrev pub later_weekday_of : List ℕ → Option ℕ
later_weekday_of word =
    if str_eq_ignore_ascii_case word (codes "TH") then Some 3 else
    if str_eq_ignore_ascii_case word (codes "FR") then Some 4 else
    if str_eq_ignore_ascii_case word (codes "SA") then Some 5 else
    if str_eq_ignore_ascii_case word (codes "SU") then Some 6 else None

unfoldable pub weekday_of : List ℕ → Option ℕ
weekday_of word =
    if str_eq_ignore_ascii_case word (codes "MO") then Some 0 else
    if str_eq_ignore_ascii_case word (codes "TU") then Some 1 else
    if str_eq_ignore_ascii_case word (codes "WE") then Some 2 else later_weekday_of word
