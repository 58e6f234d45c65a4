-- Offsets from UTC as they are written.
use Rattle.std.specs.Prelude.{ℕ, ◌+◌, ◌-◌, ◌*◌, ◌&&◌, ◌==◌, nat_lt, List, [], ◌∷◌, take, drop, codes}
use Rattle.std.specs.Prelude.{Option, Some, None, option_and_then, if◌then◌else◌, ℤ, pos, neg_ℤ, ◌≤ℤ◌}
use Rattle.std.specs.Char.{is_ascii_digit}
use Rattle.std.specs.Str.{bytes_eq}

-- the number of two digits
abbrev pub two_digits : ℕ → ℕ → Option ℕ
two_digits a b = if is_ascii_digit a && is_ascii_digit b then Some (10 * (a - 48) + (b - 48)) else None

-- hours below 24 and minutes below 60, as minutes
abbrev pub within_a_day : ℕ → ℕ → Option ℕ
within_a_day hours minutes = if nat_lt hours 24 && nat_lt minutes 60 then Some (60 * hours + minutes) else None

-- two digits of hours and two of minutes
unfoldable pub minutes_of : List ℕ → Option ℕ
minutes_of (a ∷ b ∷ c ∷ d ∷ []) =
    option_and_then (λ hours. option_and_then (within_a_day hours) (two_digits c d)) (two_digits a b)
minutes_of _ = None

-- a sign, 43 for `+` and 45 for `-`, before minutes: `+` is east of Greenwich
abbrev pub towards : ℕ → ℕ → Option ℤ
towards sign n = if sign == 43 then Some (pos n) else if sign == 45 then Some (neg_ℤ (pos n)) else None

abbrev pub signed : ℕ → List ℕ → Option ℤ
signed sign digits = option_and_then (towards sign) (minutes_of digits)

-- what stands behind `UTC`: nothing, or a sign and the digits
abbrev pub offset_of : List ℕ → Option ℤ
offset_of [] = Some (pos 0)
offset_of (sign ∷ digits) = signed sign digits

-- the minutes east of Greenwich that the text says
unfoldable pub east_of : List ℕ → Option ℤ
east_of text = if bytes_eq (take 3 text) (codes "UTC") then offset_of (drop 3 text) else None

-- less than a day to the west or to the east
abbrev pub IsOffset : ℤ → Type 0
IsOffset z = (neg_ℤ (pos 1439) ≤ℤ z) × (z ≤ℤ pos 1439)
