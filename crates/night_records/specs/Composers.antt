-- What of a record is composer text: the lines behind `$DEFINITIONS`, up to the first line that is exactly `$STEPS`.
use Rattle.std.specs.Prelude.{ℕ, ◌+◌, ◌==◌, ◌||◌, ◌++◌, ◌∷◌, [], Bool, List, Option, Some, None, codes, drop, length, slice_index}
use Rattle.std.specs.Prelude.{if◌then◌else◌}
use Rattle.std.specs.Str.{bytes_eq}
use Rattle.syntax.specs.Splits.{lines_of}

-- an empty line, or a comment
abbrev pub is_skipped : List ℕ → Bool
is_skipped line = length line == 0 || slice_index line 0 == 35

-- the place of the first line that is not skipped, counted from this one on, where it is `$DEFINITIONS`
abbrev pub definitions_from : ℕ → List (List ℕ) → Option ℕ
definitions_from n [] = None
definitions_from n (line ∷ lines) =
    if is_skipped line then definitions_from (n + 1) lines else
    if bytes_eq line (codes "$DEFINITIONS") then Some n else None

unfoldable pub definitions_place : List ℕ → Option ℕ
definitions_place text = definitions_from 0 (lines_of text)

-- a line with its line feed
abbrev pub ended : List ℕ → List ℕ
ended line = line ++ 10 ∷ []

-- the lines before the first that is `$STEPS`, each with a line feed
abbrev pub text_before_steps : List (List ℕ) → List ℕ
text_before_steps [] = []
text_before_steps (line ∷ lines) =
    if bytes_eq line (codes "$STEPS") then [] else (ended line ++ text_before_steps lines)

-- the composer text behind the line at this place
unfoldable pub composer_text : List ℕ → ℕ → List ℕ
composer_text text place = text_before_steps (drop (place + 1) (lines_of text))
