-- The words that lines are made of: numbers, return codes and quoted texts, each within its range or outside it.
use Rattle.std.specs.Prelude.{ℕ, ℤ, ◌==◌, ◌&&◌, Bool, false, List, [], ◌∷◌, Option, Some, None, drop, length}
use Rattle.std.specs.Prelude.{option_map, option_and_then, nat_le, slice_index, is_some, if◌then◌else◌}
use Rattle.std.specs.Option.{option_map_or}
use Rattle.std.specs.Str.{bytes_eq}
use Rattle.std.specs.Str.Parse.{digits_value}
use Rattle.syntax.specs.Numbers.{is_number, number_of, signed_of}
use Rattle.syntax.specs.Quotes.{unquoted}
use Rattle.record_rows.specs.declared.rows.Ranged.{Ranged}
use Rattle.record_rows.specs.declared.rows.Ranged.TheVariants.{Within, OutOfRange}

-- the second answer, of what the first one found
infixl 10 ◌>>=◌
abbrev pub ◌>>=◌ : {A B : Type 0} → Option A → (A → Option B) → Option B
o >>= f = option_and_then f o

-- the word is this one
infix 20 ◌is◌
abbrev pub ◌is◌ : List ℕ → List ℕ → Bool
word is k = bytes_eq word k

-- what was found, where it is in its field
abbrev pub ranged : {A : Type 0} → Option A → Ranged A
ranged o = option_map_or Within o OutOfRange

-- a number, within its range where it has at most so many bits
unfoldable pub sized : ℕ → List ℕ → Option (Ranged ℕ)
sized bits word = if is_number word then Some (ranged (number_of bits word)) else None

-- a number, within its range where it is at most so great
unfoldable pub up_to : ℕ → List ℕ → Option (Ranged ℕ)
up_to most word =
    if is_number word
    then Some (if nat_le (digits_value 10 word) most then Within (digits_value 10 word) else OutOfRange)
    else None

-- a number that may have a minus before it
abbrev pub is_signed_number : List ℕ → Bool
is_signed_number word = if slice_index word 0 == 45 then is_number (drop 1 word) else is_number word

-- a return code, within its range where it has 32 bits with a sign
unfoldable pub code_of : List ℕ → Option (Ranged ℤ)
code_of word = if is_signed_number word then Some (ranged (signed_of word)) else None

-- a text, within its range where it has at most 4,096 bytes
abbrev pub limited : List ℕ → Ranged (List ℕ)
limited value = if nat_le (length value) 4096 then Within value else OutOfRange

-- what a text in quotes stands for, where the whole is one
unfoldable pub text_of : List ℕ → Option (Ranged (List ℕ))
text_of [] = None
text_of (c ∷ cs) = if c == 34 then option_map limited (unquoted cs) else None

-- the whole is one text in quotes, however long it is
abbrev pub is_quoted : List ℕ → Bool
is_quoted [] = false
is_quoted (c ∷ cs) = c == 34 && is_some (unquoted cs)
