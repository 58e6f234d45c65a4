-- Bytes as digits in base 16, two for each, the letters in lower case.
use Rattle.std.specs.Prelude.{ℕ, ◌+◌, ◌*◌, ◌-◌, ◌/◌, ◌%◌, ◌==◌, ◌&&◌, Bool, List, [], ◌∷◌, Option, Some, None, length, flat_map}
use Rattle.std.specs.Prelude.{nat_le, nat_lt, option_and_then, option_map, if◌then◌else◌}

-- `0` to `9`, and `a` to `f` from 10 on
abbrev pub digit : ℕ → ℕ
digit n = if nat_lt n 10 then 48 + n else (87 + n)

abbrev pub byte_digits : ℕ → List ℕ
byte_digits b = digit (b / 16) ∷ digit (b % 16) ∷ []

-- the digits of bytes
unfoldable pub digits_of : List ℕ → List ℕ
digits_of bytes = flat_map byte_digits bytes

-- what one digit stands for
abbrev pub value_of : ℕ → Option ℕ
value_of c =
    if nat_le 48 c && nat_le c 57 then Some (c - 48) else
    if nat_le 97 c && nat_le c 102 then Some (c - 87) else None

-- what two digits stand for
abbrev pub byte_of : ℕ → ℕ → Option ℕ
byte_of a b = option_and_then (λ high. option_map (λ low. 16 * high + low) (value_of b)) (value_of a)

-- the bytes whose digits these are, where they are an even number of digits
unfoldable pub bytes_of : List ℕ → Option (List ℕ)
bytes_of [] = Some []
bytes_of (a ∷ []) = None
bytes_of (a ∷ b ∷ rest) =
    option_and_then (λ byte. option_map (λ bytes. byte ∷ bytes) (bytes_of rest)) (byte_of a b)

-- the same, where there are any
unfoldable pub some_bytes : List ℕ → Option (List ℕ)
some_bytes word = if length word == 0 then None else bytes_of word

-- a number of one byte
abbrev pub is_byte : ℕ → Bool
is_byte b = nat_lt b 256
