-- What is told of several calls, from what is told of each.
use Rattle.std.proofs.Common.{[], ◌++◌, ◌≡◌, ◌∙◌, ◌∷◌, List, None, Option, Some, ap, append_assoc, subst, sym}
use Rattle.std.proofs.lemmas.List.{append-nil}
use Rattle.outside.specs.Calls.{AddsAllOrEnds, AddsOrEnds, HasCalls}

-- nothing more
pub told_none : {X : Type 0} (old : Option (List X)) → AddsAllOrEnds [] old old
told_none None = tt
told_none (Some old) = sym (append-nil old)

pub told_same : {X : Type 0} (old new : Option (List X)) → new ≡ old → AddsAllOrEnds [] old new
told_same {X} old new h = subst (λ (o : Option (List X)). AddsAllOrEnds [] old o) (sym h) (told_none old)

-- one more
pub told_one : {X : Type 0} (x : X) (old new : Option (List X)) → AddsOrEnds x old new → AddsAllOrEnds (x ∷ []) old new
told_one x None None h = tt
told_one x (Some old) (Some new) h = h
told_one x (Some old) None h = tt
told_one x None (Some new) h = absurd h

-- some and then some more
calls_left : {X : Type 0} (xs ys : List X) → HasCalls xs → HasCalls (xs ++ ys)
calls_left [] ys h = absurd h
calls_left (x ∷ xs) ys h = tt

calls_right : {X : Type 0} (xs ys : List X) → HasCalls ys → HasCalls (xs ++ ys)
calls_right [] ys h = h
calls_right (x ∷ xs) ys h = tt

pub told_both : {X : Type 0} (xs ys : List X) (old middle new : Option (List X)) → AddsAllOrEnds xs old middle
    → AddsAllOrEnds ys middle new → AddsAllOrEnds (xs ++ ys) old new
told_both xs ys None None None first second = tt
told_both xs ys None None (Some new) first second = absurd second
told_both xs ys None (Some middle) new first second = absurd first
told_both xs ys (Some old) None None first second = calls_left xs ys first
told_both xs ys (Some old) None (Some new) first second = absurd second
told_both xs ys (Some old) (Some middle) None first second = calls_right xs ys second
told_both {X} xs ys (Some old) (Some middle) (Some new) first second =
    second ∙ ap (λ (l : List X). l ++ ys) first ∙ append_assoc old xs ys

pub none_told : {X : Type 0} (xs : List X) → xs ≡ [] → (old : Option (List X)) → AddsAllOrEnds xs old old
none_told {X} xs h old = subst (λ (l : List X). AddsAllOrEnds l old old) (sym h) (told_none old)
