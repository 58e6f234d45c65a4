-- Patterns of names.
use Rattle.std.specs.List.{list_any}
use Rattle.std.specs.Prelude.{[], if◌then◌else◌, ℕ, ◌&&◌, ◌==◌, ◌∷◌, Bool, List, false, map, true}

-- what is left of a text behind any front, the empty one and the whole included; the longest is first
abbrev pub rests : List ℕ → List (List ℕ)
rests [] = [] ∷ []
rests (c ∷ cs) = (c ∷ cs) ∷ rests cs

-- the text begins with this byte, and what follows passes
abbrev pub begins_with : ℕ → (List ℕ → Bool) → List ℕ → Bool
begins_with p passes [] = false
begins_with p passes (c ∷ cs) = (p == c) && passes cs

-- the text is of the pattern, in which an `@` stands for any characters, none among them, and any other byte for itself
abbrev pub matches : List ℕ → List ℕ → Bool
matches [] [] = true
matches [] (c ∷ cs) = false
matches (p ∷ ps) text = if p == 64 then list_any (matches ps) (rests text) else begins_with p (matches ps) text

-- for each rest of a text, whether it is of the pattern
abbrev pub matches_of_rests : List ℕ → List ℕ → List Bool
matches_of_rests pattern text = map (matches pattern) (rests text)
