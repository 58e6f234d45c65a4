-- Which bytes are no text's field, and what taking a text answers.
use Rattle.std.specs.Prelude.{◌≡◌, ◌+◌, ◌≤◌, ◌<◌, ◌⊎◌, ℕ, List, Result, Ok, Err, length, take, drop}
use Rattle.std.specs.Int.{w16, from_be_bytes}
use Rattle.std.specs.Str.{IsUtf8}
use Rattle.byte_fields.specs.declared.FieldFault.{FieldFault}
use Rattle.byte_fields.specs.declared.FieldFault.TheVariants.{NoMemory}

-- how long the text is to be
abbrev pub told_length : List ℕ → ℕ
told_length left = from_be_bytes w16 (take 2 left)

-- bytes of the length are missing, or bytes of a text that is not too long
abbrev pub IsShortText : List ℕ → Type 0
IsShortText left = (length left < 2) ⊎ ((told_length left ≤ 4096) × (length left < 2 + told_length left))

-- the text is too long, or all its bytes are there and are not UTF-8
abbrev pub IsBadText : List ℕ → Type 0
IsBadText left = (2 ≤ length left) × ((4096 < told_length left)
    ⊎ ((2 + told_length left ≤ length left) × ¬ (IsUtf8 (take (told_length left) (drop 2 left)))))

-- the text is answered with the place behind it, unless memory ran out
abbrev pub TakesText : Result (List ℕ × ℕ) FieldFault → List ℕ → ℕ → Type 0
TakesText (Ok r) text next = (r.0 ≡ text) × (r.1 ≡ next)
TakesText (Err fault) text next = fault ≡ NoMemory
