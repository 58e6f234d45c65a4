-- Grammars, and which tokens are a sentence of one, with which value.
use Rattle.std.specs.Prelude.{◌≡◌, ◌⊎◌, Bool, true, List, [], ◌∷◌, ◌++◌}
use Rattle.composer_parser.specs.Kinds.{Kind, Spelled, is}

pub data Grammar : Type 0 → Type 1 where
  -- no token
  nothing : {C : Type 0} → C → Grammar C
  -- one token of a kind
  one : {C : Type 0} → Kind → (Spelled → C) → Grammar C
  -- a token of a kind that the language has and this project leaves out
  left_out : {C : Type 0} → Kind → Grammar C
  -- one behind the other
  both : {A B C : Type 0} → (A → B → C) → Grammar A → Grammar B → Grammar C
  -- one or the other
  either : {C : Type 0} → Grammar C → Grammar C → Grammar C
  -- Any number of pieces one behind the other, none among them. The state that the pieces so far led to says with which
  -- tokens a further piece may begin, and the last state gives the value.
  many : {S A C : Type 0} → S → (S → A → S) → (S → Spelled → Bool) → Grammar A → (S → C) → Grammar C

-- The tokens are pieces with these values, which lead from a state to the last one.
abbrev pub Pieces : {S A : Type 0} → (S → A → S) → (S → Spelled → Bool) → (List Spelled → A → Type 0)
    → S → List Spelled → List A → S → Type 0
Pieces after may Piece s ts [] last = (ts ≡ []) × (last ≡ s)
Pieces after may Piece s ts (a ∷ rest) last =
    (t : Spelled) × (xs : List Spelled) × (ys : List Spelled) × (ts ≡ (t ∷ xs) ++ ys) × (may s t ≡ true)
    × Piece (t ∷ xs) a × Pieces after may Piece (after s a) ys rest last

-- The tokens are a sentence of the grammar with this value.
abbrev pub Spells : {C : Type 0} → Grammar C → List Spelled → C → Type 0
Spells (nothing c) ts x = (ts ≡ []) × (x ≡ c)
Spells (one k f) ts x = (t : Spelled) × (ts ≡ t ∷ []) × (is k t ≡ true) × (x ≡ f t)
Spells (left_out k) ts x = ⊥
Spells (both {A = A} {B = B} f g h) ts x =
    (xs : List Spelled) × (ys : List Spelled) × (a : A) × (b : B) × (ts ≡ xs ++ ys) × Spells g xs a × Spells h ys b
    × (x ≡ f a b)
Spells (either g h) ts x = Spells g ts x ⊎ Spells h ts x
Spells (many {S = S} {A = A} s after may g f) ts x =
    (values : List A) × (last : S) × Pieces after may (λ xs a. Spells g xs a) s ts values last × (x ≡ f last)

-- The first of the tokens, and this one where there is none
abbrev pub first_of : List Spelled → Spelled → Spelled
first_of [] t = t
first_of (u ∷ us) t = u

-- Behind these tokens the grammar has a place at which it leaves this token out.
abbrev pub LeavesOut : {C : Type 0} → Grammar C → List Spelled → Spelled → Type 0
LeavesOut (nothing c) before t = ⊥
LeavesOut (one k f) before t = ⊥
LeavesOut (left_out k) before t = (before ≡ []) × (is k t ≡ true)
LeavesOut (both {A = A} f g h) before t =
    LeavesOut g before t
    ⊎ ((xs : List Spelled) × (ys : List Spelled) × (a : A) × (before ≡ xs ++ ys) × Spells g xs a × LeavesOut h ys t)
LeavesOut (either g h) before t = LeavesOut g before t ⊎ LeavesOut h before t
LeavesOut (many {S = S} {A = A} s after may g f) before t =
    (values : List A) × (now : S) × (xs : List Spelled) × (ys : List Spelled) × (before ≡ xs ++ ys)
    × Pieces after may (λ zs a. Spells g zs a) s xs values now × (may now (first_of ys t) ≡ true) × LeavesOut g ys t
