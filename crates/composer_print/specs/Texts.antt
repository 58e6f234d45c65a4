-- Texts one behind the other.
use Rattle.std.specs.Prelude.{ℕ, Bool, true, false, ◌==◌, if◌then◌else◌, List, [], ◌∷◌, ◌++◌, Option, Some, None}
use Rattle.composer_parser.specs.declared.definitions.Lined.{Lined}

-- what stands before a text of a list: a separator, or the beginning of the list where none stands before it
abbrev pub lead : List ℕ → List ℕ → Bool → List ℕ
lead separator beginning true = separator
lead separator beginning false = beginning

-- texts of a list that stand behind others, or begin it
abbrev pub texts_from : List ℕ → List ℕ → Bool → List (List ℕ) → List ℕ
texts_from separator beginning begun [] = []
texts_from separator beginning begun (x ∷ xs) = lead separator beginning begun ++ x ++ texts_from separator beginning true xs

-- whether a list is begun behind these texts of it
abbrev pub begun_after : Bool → List (List ℕ) → Bool
begun_after begun [] = begun
begun_after begun (x ∷ xs) = begun_after true xs

-- what is given and is not the default
abbrev pub unless : ℕ → Option ℕ → Option ℕ
unless default None = None
unless default (Some n) = if n == default then None else Some n

-- what stands on a line
abbrev pub item_of : {A : Type 0} → Option (Lined A) → Option A
item_of None = None
item_of (Some l) = Some l.item
