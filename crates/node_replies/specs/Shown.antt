-- The lines of a listing that a line asks for.
use Rattle.std.specs.Str.{bytes_eq}
use Rattle.std.specs.Option.{option_map_or}
use Rattle.std.specs.Prelude.{[], ℕ, ◌&&◌, ◌++◌, ◌∷◌, Bool, List, Option, codes, filter, flat_map, slice_get, true}
use Rattle.std.specs.Prelude.{unwrap_or}
use Rattle.syntax.specs.Splits.{lines_of, words_of}
use Rattle.node_replies.specs.Patterns.{matches}
use Rattle.node_replies.specs.declared.picks.Shows.{Shows}
use Rattle.node_replies.specs.declared.picks.Shows.TheVariants as shows

-- the word that a line of this kind begins with
abbrev pub first_word : Shows → List ℕ
first_word shows.Jobs = codes "job"
first_word shows.Schedules = codes "stream"
first_word shows.Cpus = codes "cpu"
first_word shows.Prompts = codes "prompt"
first_word shows.Resources = codes "resource"

-- the place of the name among its words, from 0: behind the number of a job or a stream
abbrev pub name_place : Shows → ℕ
name_place shows.Jobs = 2
name_place shows.Schedules = 2
name_place shows.Cpus = 1
name_place shows.Prompts = 1
name_place shows.Resources = 1

-- the word of a line with this number, from 0
abbrev pub word_at : ℕ → List ℕ → List ℕ
word_at n line = unwrap_or (slice_get (words_of line) n) []

-- a line of this kind whose name is of the pattern, where there is one
abbrev pub is_shown : Shows → Option (List ℕ) → List ℕ → Bool
is_shown kind pattern line =
    bytes_eq (word_at 0 line) (first_word kind)
    && option_map_or (λ (p : List ℕ). matches p (word_at (name_place kind) line)) pattern true

-- those of these lines, each with its line feed
unfoldable pub picked : Shows → Option (List ℕ) → List (List ℕ) → List ℕ
picked kind pattern lines = flat_map (λ (line : List ℕ). line ++ 10 ∷ []) (filter (is_shown kind pattern) lines)

-- those of a listing
abbrev pub shown_lines : Shows → Option (List ℕ) → List ℕ → List ℕ
shown_lines kind pattern listing = picked kind pattern (lines_of listing)
