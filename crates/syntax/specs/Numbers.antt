use Rattle.std.specs.Prelude.{option_and_then, drop, ℤ, pos, neg_ℤ, ℕ, ◌^◌, Bool, ◌&&◌, not, List, length, ◌==◌, nat_le, nat_lt, Some, None, slice_index, if◌then◌else◌}
use Rattle.std.specs.declared.option.Option.{Option}
use Rattle.std.specs.List.{list_all}
use Rattle.std.specs.Char.{is_ascii_digit}
use Rattle.std.specs.Str.Parse.{digits_value}

-- more than one digit, of which the first is 0
abbrev pub has_leading_zero : List ℕ → Bool
has_leading_zero word = nat_lt 1 (length word) && slice_index word 0 == 48

-- one or more decimal digits without a leading zero
abbrev pub is_number : List ℕ → Bool
is_number word = nat_lt 0 (length word) && (not (has_leading_zero word) && list_all is_ascii_digit word)

-- the number, where it has at most so many bits
unfoldable pub number_of : ℕ → List ℕ → Option ℕ
number_of bits word =
    if is_number word && nat_lt (digits_value 10 word) (2 ^ bits) then Some (digits_value 10 word) else None

-- the number with a minus before it, where it fits 32 bits with a sign
abbrev pub below_zero : ℕ → Option ℤ
below_zero n = if nat_le n (2 ^ 31) then Some (neg_ℤ (pos n)) else None

-- the number with no minus before it, where it fits 32 bits with a sign
abbrev pub from_zero : ℕ → Option ℤ
from_zero n = if nat_lt n (2 ^ 31) then Some (pos n) else None

-- a number of 32 bits with a sign, which has a minus before it where it is below 0, and may have one at 0
unfoldable pub signed_of : List ℕ → Option ℤ
signed_of word =
    if slice_index word 0 == 45
    then option_and_then below_zero (number_of 32 (drop 1 word))
    else option_and_then from_zero (number_of 32 word)
