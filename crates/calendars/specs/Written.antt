-- Dates as they are written.
use Rattle.std.specs.Prelude.{ℕ, ◌&&◌, List, length, ◌==◌, Option, Some, None, option_and_then, if◌then◌else◌}
use Rattle.std.specs.List.{list_all, before_first, after_first}
use Rattle.std.specs.Char.{is_ascii_digit}
use Rattle.std.specs.Str.Parse.{digits_value}
use Rattle.calendars.specs.Dates.{day_of}

-- the number of exactly so many digits
abbrev pub digits_of : ℕ → List ℕ → Option ℕ
digits_of count word =
    if length word == count && list_all is_ascii_digit word then Some (digits_value 10 word) else None

-- what stands before the first `/`, and behind it
abbrev pub before_slash : List ℕ → List ℕ
before_slash word = before_first (λ b. b == 47) word

abbrev pub behind_slash : List ℕ → List ℕ
behind_slash word = after_first (λ b. b == 47) word

-- the day of a date MM/DD/YYYY
unfoldable pub date_of : List ℕ → Option ℕ
date_of word =
    option_and_then (λ month.
    option_and_then (λ day.
    option_and_then (λ year. day_of year month day)
    (digits_of 4 (behind_slash (behind_slash word))))
    (digits_of 2 (before_slash (behind_slash word))))
    (digits_of 2 (before_slash word))
