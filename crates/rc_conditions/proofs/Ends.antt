-- The end of a list of operations.
use Rattle.std.proofs.Common.{◌≡◌, ◌≤◌, ◌-◌, ◌+◌, ℤ, List, [], ◌∷◌, ◌++◌, length, take, get_or, refl, ap, sym, ◌∙◌}
use Rattle.std.proofs.Common.{arith}
use Rattle.std.proofs.Math.Seq.{take-length}
use Rattle.std.proofs.lemmas.List.{take_more, same_from_push}
use Rattle.model.specs.Types.{Rel, CondOp, Cmp, And, Or, Not}
use Rattle.rc_conditions.specs.Expressions.{Expression, compared, negated, both, either, postfix}

-- a list is its front and its last item
pub by_end : {X : Type 0} (xs : List X) (d : X) → 1 ≤ length xs
    → xs ≡ take (length xs - 1) xs ++ get_or xs (length xs - 1) d ∷ []
by_end xs d some =
    let one : length xs ≡ length xs - 1 + 1 = omega arith in
    sym (take-length xs) ∙ ap (λ k. take k xs) one ∙ take_more xs (length xs - 1) d (omega arith)

last_of : (e : Expression) → CondOp
last_of (compared r n) = Cmp r n
last_of (negated e) = Not
last_of (both e f) = And
last_of (either e f) = Or

-- what stands before the last operation
front_of : (e : Expression) → List CondOp
front_of (compared r n) = []
front_of (negated e) = postfix e
front_of (both e f) = postfix e ++ postfix f
front_of (either e f) = postfix e ++ postfix f

by_parts : (e : Expression) → postfix e ≡ front_of e ++ last_of e ∷ []
unfolding last_of front_of
by_parts (compared r n) = refl
by_parts (negated e) = refl
by_parts (both e f) = refl
by_parts (either e f) = refl

ends : (before : List CondOp) (op : CondOp) (e : Expression) → before ++ op ∷ [] ≡ postfix e
    → (before ≡ front_of e) × (op ≡ last_of e)
ends before op e h = same_from_push before (front_of e) op (last_of e) (h ∙ by_parts e)

by_compared : (r : Rel) (n : ℤ) (e : Expression) → Cmp r n ≡ last_of e → e ≡ compared r n
unfolding last_of
by_compared r n (compared s m) h = cc
by_compared r n (negated e) h = cc
by_compared r n (both e f) h = cc
by_compared r n (either e f) h = cc

pub ends_compared : (before : List CondOp) (op : CondOp) (r : Rel) (n : ℤ) (e : Expression) → op ≡ Cmp r n
    → before ++ op ∷ [] ≡ postfix e → e ≡ compared r n
ends_compared before op r n e is h = by_compared r n e (sym is ∙ (ends before op e h).1)

by_negated : (before : List CondOp) (e : Expression) → before ≡ front_of e → Not ≡ last_of e
    → (x : Expression) × (e ≡ negated x) × (before ≡ postfix x)
unfolding last_of front_of
by_negated before (compared s m) at h = cc
by_negated before (negated e) at h = (e, refl, at)
by_negated before (both e f) at h = cc
by_negated before (either e f) at h = cc

pub ends_negated : (before : List CondOp) (op : CondOp) (e : Expression) → op ≡ Not
    → before ++ op ∷ [] ≡ postfix e → (x : Expression) × (e ≡ negated x) × (before ≡ postfix x)
ends_negated before op e is h =
    let all = ends before op e h in by_negated before e all.0 (sym is ∙ all.1)

by_both : (before : List CondOp) (e : Expression) → before ≡ front_of e → And ≡ last_of e
    → (x y : Expression) × (e ≡ both x y) × (before ≡ postfix x ++ postfix y)
unfolding last_of front_of
by_both before (compared s m) at h = cc
by_both before (negated e) at h = cc
by_both before (both e f) at h = (e, f, refl, at)
by_both before (either e f) at h = cc

pub ends_both : (before : List CondOp) (op : CondOp) (e : Expression) → op ≡ And
    → before ++ op ∷ [] ≡ postfix e → (x y : Expression) × (e ≡ both x y) × (before ≡ postfix x ++ postfix y)
ends_both before op e is h = let all = ends before op e h in by_both before e all.0 (sym is ∙ all.1)

by_either : (before : List CondOp) (e : Expression) → before ≡ front_of e → Or ≡ last_of e
    → (x y : Expression) × (e ≡ either x y) × (before ≡ postfix x ++ postfix y)
unfolding last_of front_of
by_either before (compared s m) at h = cc
by_either before (negated e) at h = cc
by_either before (both e f) at h = cc
by_either before (either e f) at h = (e, f, refl, at)

pub ends_either : (before : List CondOp) (op : CondOp) (e : Expression) → op ≡ Or
    → before ++ op ∷ [] ≡ postfix e → (x y : Expression) × (e ≡ either x y) × (before ≡ postfix x ++ postfix y)
ends_either before op e is h = let all = ends before op e h in by_either before e all.0 (sym is ∙ all.1)
