-- The words that ask for a view: `kept NAME`, `why NAME` and `why NAME PATTERN`.
use Rattle.std.specs.Prelude.{[], if◌then◌else◌, ℕ, ◌∷◌, List, None, Option, Some, codes, map, option_map}
use Rattle.std.specs.Char.{to_ascii_uppercase}
use Rattle.std.specs.Str.{bytes_eq}
use Rattle.view_words.specs.declared.forms.Look.{Look}
use Rattle.view_words.specs.declared.forms.Look.TheVariants.{Kept, Why}

-- what the first word asks for
unfoldable pub look_of : List ℕ → Option Look
look_of word =
    if bytes_eq word (codes "kept") then Some Kept else
    if bytes_eq word (codes "why") then Some Why else None

-- what is asked for, of the workstation of a name: of all, or of what has a name of a pattern
pub record Request : Type 0 where
  pub look : Look
  pub name : List ℕ
  pub pattern : Option (List ℕ)

abbrev pub requested : Look → List ℕ → Option (List ℕ) → Request
requested look name pattern = record { look = look; name = name; pattern = pattern }

-- Only `why` may have a pattern, which is read in upper case.
abbrev pub patterned : List ℕ → List ℕ → List ℕ → Option Request
patterned word name pattern =
    if bytes_eq word (codes "why") then Some (requested Why name (Some (map to_ascii_uppercase pattern))) else None

-- what words request
unfoldable pub request_of : List (List ℕ) → Option Request
request_of (word ∷ name ∷ []) = option_map (λ (look : Look). requested look name None) (look_of word)
request_of (word ∷ name ∷ pattern ∷ []) = patterned word name pattern
request_of words = None
