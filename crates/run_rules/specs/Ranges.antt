-- The ranges of a rule's numbers.
use Rattle.std.specs.Prelude.{ℕ, Bool, true, false, ◌&&◌, ◌||◌, ◌==◌, nat_le, List, codes, ℤ, unsigned_abs}
use Rattle.std.specs.List.{list_all}
use Rattle.std.specs.Option.{option_map_or}
use Rattle.syntax.specs.Numbers.{signed_of}
use Rattle.run_rules.specs.Parts.{value_of, listed, frequency_of, interval_of}
use Rattle.run_rules.specs.declared.parts.Frequency.{Frequency}
use Rattle.run_rules.specs.declared.parts.Frequency.TheVariants.{Daily, Weekly, Monthly}

-- from 1 to 999, and 1 where no first day is given
abbrev pub is_interval_in_range : Bool → ℕ → Bool
is_interval_in_range has_first n = nat_le 1 n && (nat_le n 999 && (n == 1 || has_first))

abbrev pub has_interval_in_range : List ℕ → Bool → Bool
has_interval_in_range rule has_first = option_map_or (is_interval_in_range has_first) (interval_of rule) false

-- from 1 to 31, or from -31 to -1
abbrev pub is_month_day_in_range : List ℕ → Bool
is_month_day_in_range word =
    option_map_or (λ k. nat_le 1 (unsigned_abs k) && nat_le (unsigned_abs k) 31) (signed_of word) false

-- each day of a monthly rule is so; the others have none
abbrev pub are_month_days_in_range : Frequency → List ℕ → Bool
are_month_days_in_range Daily rule = true
are_month_days_in_range Weekly rule = true
are_month_days_in_range Monthly rule = list_all is_month_day_in_range (listed (value_of (codes "BYMONTHDAY") rule))

abbrev pub has_month_days_in_range : List ℕ → Bool
has_month_days_in_range rule = are_month_days_in_range (frequency_of rule) rule

-- all its numbers are in range
unfoldable pub is_in_range : List ℕ → Bool → Bool
is_in_range rule has_first = has_interval_in_range rule has_first && has_month_days_in_range rule
