use Rattle.std.specs.Prelude.{ℕ, Bool, ◌&&◌, ◌||◌, List, [], ◌∷◌, ◌++◌, codes, flat_map, length, ◌==◌, nat_le, Some, None}
use Rattle.std.specs.Prelude.{if◌then◌else◌, option_and_then, option_map}
use Rattle.std.specs.declared.option.Option.{Option}

-- a quote or a backslash, which a backslash before it escapes
abbrev pub is_escaped : ℕ → Bool
is_escaped c = c == 34 || c == 92

-- the byte that a first byte stands for, or the escape that it begins
abbrev pub byte_of : ℕ → List ℕ → ℕ
byte_of c [] = c
byte_of c (d ∷ cs) = if c == 92 && is_escaped d then d else c

-- what follows a first byte, or the escape that it begins
abbrev pub after_byte : ℕ → List ℕ → List ℕ
after_byte c [] = []
after_byte c (d ∷ cs) = if c == 92 && is_escaped d then cs else d ∷ cs

-- What the text behind the opening quote stands for: the closing quote is its last byte, no quote stands before that
-- but in an escape, and `\"` and `\\` stand for a quote and a backslash.
unfoldable pub unquoted : List ℕ → Option (List ℕ)
unquoted [] = None
unquoted (c ∷ []) = if c == 34 then Some [] else None
unquoted (c ∷ d ∷ cs) =
    if c == 34 then None else
    if c == 92 && is_escaped d then option_map (λ value. d ∷ value) (unquoted cs) else
    option_map (λ value. c ∷ value) (unquoted (d ∷ cs))

-- a text that may stand in quotes, of at most 4,096 bytes
abbrev pub within_limit : List ℕ → Option (List ℕ)
within_limit value = if nat_le (length value) 4096 then Some value else None

-- what a text in quotes stands for, where the whole is one
unfoldable pub quoted_of : List ℕ → Option (List ℕ)
quoted_of [] = None
quoted_of (c ∷ cs) = if c == 34 then option_and_then within_limit (unquoted cs) else None

-- a byte of a text, which has a backslash before it where it is a quote or a backslash
abbrev pub escaped : ℕ → List ℕ
escaped b = if is_escaped b then codes "\\" ++ b ∷ [] else b ∷ []

-- `"TEXT"`
unfoldable pub quoted_text : List ℕ → List ℕ
quoted_text text = codes "\"" ++ flat_map escaped text ++ codes "\""
