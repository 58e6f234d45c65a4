use Rattle.std.specs.Prelude.{◌-◌, take, ℕ, List, [], length, ◌==◌, slice_index, if◌then◌else◌}
use Rattle.std.specs.List.{before_first, after_first, slice_split}

-- the text without the line feed at its end
abbrev pub without_last_feed : List ℕ → List ℕ
without_last_feed text = if slice_index text (length text - 1) == 10 then take (length text - 1) text else text

-- the lines, each ended by a line feed, which the last may lack
unfoldable pub lines_of : List ℕ → List (List ℕ)
lines_of text = if length text == 0 then [] else slice_split (λ b. b == 10) (without_last_feed text)

-- the words, between single spaces
abbrev pub words_of : List ℕ → List (List ℕ)
words_of line = slice_split (λ b. b == 32) line

-- what stands before the first space, and all where there is none
abbrev pub first_word : List ℕ → List ℕ
first_word line = before_first (λ b. b == 32) line

-- what stands behind the first space, and nothing where there is none
abbrev pub after_word : List ℕ → List ℕ
after_word line = after_first (λ b. b == 32) line
