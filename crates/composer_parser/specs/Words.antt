-- Words, and what stands in them before and behind a mark.
use Rattle.std.specs.Prelude.{ℕ, Bool, ◌==◌, nat_lt, List, length}
use Rattle.std.specs.List.{list_any, position_or_len, before_first, after_first}
use Rattle.std.specs.Str.{bytes_eq, str_to_ascii_lowercase}

abbrev pub lower : List ℕ → List ℕ
lower w = str_to_ascii_lowercase w

-- the word is one of these, in any case
abbrev pub is_one_of : List (List ℕ) → List ℕ → Bool
is_one_of all w = list_any (λ k. bytes_eq (lower w) (lower k)) all

-- the mark stands in the word
abbrev pub holds : ℕ → List ℕ → Bool
holds c w = nat_lt (position_or_len (λ b. b == c) w) (length w)

abbrev pub before : ℕ → List ℕ → List ℕ
before c w = before_first (λ b. b == c) w

abbrev pub behind : ℕ → List ℕ → List ℕ
behind c w = after_first (λ b. b == c) w
