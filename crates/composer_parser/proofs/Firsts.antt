-- With what the sentences of a grammar begin.
use Rattle.std.proofs.Common.{◌≡◌, inl, inr, ◌||◌, cond, Bool, true, false, List, [], ◌∷◌, ◌++◌, refl, ap, sym, ◌∙◌}
use Rattle.composer_parser.specs.Kinds.{Kind, Spelled, is}
use Rattle.composer_parser.specs.Grammars.{Grammar, nothing, one, left_out, both, either, many, Spells}
use Rattle.composer_parser.specs.Reading.{is_any, empty, tries}
use Rattle.composer_parser.proofs.Fronts.{in_first, in_second}

no_tokens : (xs ys : List Spelled) → [] ≡ xs ++ ys → (xs ≡ []) × (ys ≡ [])
no_tokens [] ys h = (refl, sym h)
no_tokens (x ∷ xs) ys h = cc

-- only a grammar that may be empty has the sentence without tokens
pub empty_sentence : {C : Type 0} (g : Grammar C) (ts : List Spelled) (c : C) → ts ≡ [] → Spells g ts c
    → empty g ≡ true
empty_sentence (nothing x) ts c e h = refl
empty_sentence (one k f) ts c e (t, is_t, ok, v) = let no : t ∷ [] ≡ [] = sym is_t ∙ e in cc
empty_sentence (left_out k) ts c e h = absurd h
empty_sentence (both f g h) ts c e (xs, ys, a, b, split, left, right, v) =
    let parts = no_tokens xs ys (sym e ∙ split) in
    rw (empty_sentence g xs a parts.0 left) (empty_sentence h ys b parts.1 right)
empty_sentence (either g h) ts c e (inl s) = rw (empty_sentence g ts c e s) refl
empty_sentence (either g h) ts c e (inr s) = rw (empty_sentence h ts c e s) (or_true (empty g))
  where
    or_true : (a : Bool) → (a || true) ≡ true
    or_true true = refl
    or_true false = refl
empty_sentence (many s after may g f) ts c e h = refl

pub by_empty : (b : Bool) (ks ls : List Kind) (t : Spelled) → is_any ks t ≡ true
    → is_any (cond b (ks ++ ls) ks) t ≡ true
by_empty true ks ls t h = in_first ks ls t h
by_empty false ks ls t h = h

pub behind_empty : (b : Bool) (ks ls : List Kind) (t : Spelled) → b ≡ true → is_any ls t ≡ true
    → is_any (cond b (ks ++ ls) ks) t ≡ true
behind_empty true ks ls t e h = in_second ks ls t h
behind_empty false ks ls t e h = cc

head_of : (t u : Spelled) (ts us : List Spelled) → t ∷ ts ≡ u ∷ us → t ≡ u
head_of t u ts us h = cc

same_kind : (k : Kind) (t u : Spelled) → t ≡ u → is k u ≡ true → is_any (k ∷ []) t ≡ true
same_kind k t u e h = rw (ap (λ x. is k x) e ∙ h) refl

-- a sentence begins with a token that reading tries
pub tries_sentence : {C : Type 0} (g : Grammar C) (ts : List Spelled) (t : Spelled) (rest : List Spelled) (c : C)
    → ts ≡ t ∷ rest → Spells g ts c → is_any (tries g) t ≡ true
tries_sentence (nothing x) ts t rest c e (none, v) = let no : [] ≡ t ∷ rest = sym none ∙ e in cc
tries_sentence (one k f) ts t rest c e (u, is_u, ok, v) = same_kind k t u (head_of t u rest [] (sym e ∙ is_u)) ok
tries_sentence (left_out k) ts t rest c e h = absurd h
tries_sentence (both f g h) ts t rest c e ([], ys, a, b, split, left, right, v) =
    behind_empty (empty g) (tries g) (tries h) t (empty_sentence g [] a refl left)
    (tries_sentence h ys t rest b (sym split ∙ e) right)
tries_sentence (both f g h) ts t rest c e (x ∷ xs, ys, a, b, split, left, right, v) =
    by_empty (empty g) (tries g) (tries h) t
    (tries_sentence g (x ∷ xs) t xs a (ap (λ u. u ∷ xs) (head_of x t (xs ++ ys) rest (sym split ∙ e))) left)
tries_sentence (either g h) ts t rest c e (inl s) =
    in_first (tries g) (tries h) t (tries_sentence g ts t rest c e s)
tries_sentence (either g h) ts t rest c e (inr s) =
    in_second (tries g) (tries h) t (tries_sentence h ts t rest c e s)
tries_sentence (many s after may g f) ts t rest c e ([], end, pieces, v) =
    let no : [] ≡ t ∷ rest = sym pieces.0 ∙ e in cc
tries_sentence (many s after may g f) ts t rest c e (a ∷ items, end, (u, xs, ys, split, ok, piece, others), v) =
    tries_sentence g (u ∷ xs) t xs a (ap (λ x. x ∷ xs) (head_of u t (xs ++ ys) rest (sym split ∙ e))) piece
