-- Reading from left to right, where the next token decides which way to go.
use Rattle.std.specs.Prelude.{ℕ, zero, suc, Bool, true, false, ◌&&◌, ◌||◌, not, List, [], ◌∷◌, ◌++◌, length}
use Rattle.std.specs.Prelude.{if◌then◌else◌}
use Rattle.std.specs.List.{list_any}
use Rattle.composer_parser.specs.Kinds.{Kind, Spelled, is}
use Rattle.composer_parser.specs.declared.stops.Why.{Why}
use Rattle.composer_parser.specs.declared.stops.Why.TheVariants.{NotExpected, IsLeftOut}
use Rattle.composer_parser.specs.Groups.{kinds_apart, has_token}
use Rattle.composer_parser.specs.Grammars.{Grammar, nothing, one, left_out, both, either, many}

-- a value and the tokens behind, or the tokens from the one on that has no place
pub data Outcome (C : Type 0) : Type 0 where
  done : C → List Spelled → Outcome C
  stuck : Why → List Spelled → Outcome C

abbrev pub and_then : {A B : Type 0} → Outcome A → (A → List Spelled → Outcome B) → Outcome B
and_then (done a rest) f = f a rest
and_then (stuck w rest) f = stuck w rest

-- the next token is one of these kinds
abbrev pub is_any : List Kind → Spelled → Bool
is_any ks t = list_any (λ k. is k t) ks

abbrev pub begins : List Kind → List Spelled → Bool
begins ks [] = false
begins ks (t ∷ ts) = is_any ks t

-- a grammar has a sentence without tokens
abbrev pub empty : {C : Type 0} → Grammar C → Bool
empty (nothing c) = true
empty (one k f) = false
empty (left_out k) = false
empty (both f g h) = empty g && empty h
empty (either g h) = empty g || empty h
empty (many s after may g f) = true

-- a grammar has sentences
abbrev pub has : {C : Type 0} → Grammar C → Bool
has (nothing c) = true
has (one k f) = has_token k
has (left_out k) = false
has (both f g h) = has g && has h
has (either g h) = has g || has h
has (many s after may g f) = true

-- the kinds of token with which a sentence begins, and those that are left out in their place
abbrev pub tries : {C : Type 0} → Grammar C → List Kind
tries (nothing c) = []
tries (one k f) = k ∷ []
tries (left_out k) = k ∷ []
tries (both f g h) = if empty g then tries g ++ tries h else tries g
tries (either g h) = tries g ++ tries h
tries (many s after may g f) = tries g

-- the kinds with which reading goes on behind a sentence that could end
abbrev pub goes_on : {C : Type 0} → Grammar C → List Kind
goes_on (nothing c) = []
goes_on (one k f) = []
goes_on (left_out k) = []
goes_on (both f g h) = if empty h then goes_on h ++ goes_on g else goes_on h
goes_on (either g h) =
    if empty h then (goes_on g ++ goes_on h) ++ tries g else goes_on g ++ goes_on h
goes_on (many s after may g f) = tries g ++ goes_on g

-- pieces while the next token may begin one, at most so many
abbrev pub repeat : {S A : Type 0} → (S → A → S) → (S → Spelled → Bool) → (List Spelled → Outcome A) → ℕ → S
    → List Spelled → Outcome S
repeat after may piece zero s ts = done s ts
repeat after may piece (suc n) s [] = done s []
repeat after may piece (suc n) s (t ∷ ts) =
    if may s t
    then and_then (piece (t ∷ ts)) (λ a rest. repeat after may piece n (after s a) rest)
    else done s (t ∷ ts)

-- a further piece begins here
abbrev pub begins_piece : {S A : Type 0} → (S → Spelled → Bool) → Grammar A → S → List Spelled → Bool
begins_piece may g s [] = false
begins_piece may g s (t ∷ ts) = is_any (tries g) t && may s t

-- What reading the tokens gives.
abbrev pub read : {C : Type 0} → Grammar C → List Spelled → Outcome C
read (nothing c) ts = done c ts
read (one k f) [] = stuck NotExpected []
read (one k f) (t ∷ ts) = if is k t then done (f t) ts else stuck NotExpected (t ∷ ts)
read (left_out k) [] = stuck NotExpected []
read (left_out k) (t ∷ ts) = if is k t then stuck IsLeftOut (t ∷ ts) else stuck NotExpected (t ∷ ts)
read (both f g h) ts = and_then (read g ts) (λ a rest. and_then (read h rest) (λ b last. done (f a b) last))
read (either g h) ts = if begins (tries g) ts then read g ts else read h ts
read (many s after may g f) ts =
    and_then (repeat after (λ x t. is_any (tries g) t && may x t) (λ xs. read g xs) (length ts) s ts)
    (λ x last. done (f x) last)

-- all pieces from a state on
abbrev pub turns : {S A : Type 0} → (S → A → S) → (S → Spelled → Bool) → Grammar A → S → List Spelled → Outcome S
turns after may g s ts =
    repeat after (λ x t. is_any (tries g) t && may x t) (λ xs. read g xs) (length ts) s ts

-- The next token always decides.
abbrev pub decided : {C : Type 0} → Grammar C → Bool
decided (nothing c) = true
decided (one k f) = true
decided (left_out k) = true
decided (both f g h) = decided g && (decided h && (has g && (has h && kinds_apart (goes_on g) (tries h))))
decided (either g h) = decided g && (decided h && (not (empty g) && kinds_apart (tries g) (tries h)))
decided (many s after may g f) = decided g && (not (empty g) && kinds_apart (goes_on g) (tries g))
