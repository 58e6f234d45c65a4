-- Postfix expressions by the number of results that are there.
use Rattle.std.proofs.Common.{◌≡◌, ◌≤◌, ◌<◌, ◌+◌, ℕ, zero, suc, List, [], ◌∷◌, ◌++◌, length, Option, Some}
use Rattle.std.proofs.Common.{None, append_assoc, append-nil, refl, ap, sym, subst, ◌∙◌, arith, drop, get_or}
use Rattle.std.proofs.Common.{IsTrue, eqb, eq-eqb}
use Rattle.std.proofs.lemmas.List.{at_drop_more, at_drop_all}
use Rattle.std.proofs.lemmas.Bool.Decides.{nat_tests}
use Rattle.model.specs.Types.{CondOp, Cmp, And, Or, Not}
use Rattle.rc_conditions.specs.Expressions.{Expression, compared, negated, both, either, postfix, arity, IsPostfix}

-- how many results are there at the end, from so many
abbrev pub depth : ℕ → List CondOp → Option ℕ
depth d [] = Some d
depth d (Cmp r n ∷ ops) = depth (suc d) ops
depth (suc d) (Not ∷ ops) = depth (suc d) ops
depth (suc (suc d)) (And ∷ ops) = depth (suc d) ops
depth (suc (suc d)) (Or ∷ ops) = depth (suc d) ops
depth d ops = None

pub depth_lacks : (d : ℕ) (op : CondOp) (ops : List CondOp) → d < arity op → depth d (op ∷ ops) ≡ None
depth_lacks d (Cmp r n) ops h = absurd (omega arith)
depth_lacks zero Not ops h = refl
depth_lacks (suc d) Not ops h = absurd (omega arith)
depth_lacks zero And ops h = refl
depth_lacks (suc zero) And ops h = refl
depth_lacks (suc (suc d)) And ops h = absurd (omega arith)
depth_lacks zero Or ops h = refl
depth_lacks (suc zero) Or ops h = refl
depth_lacks (suc (suc d)) Or ops h = absurd (omega arith)

-- an expression adds one result
depth_of : (e : Expression) (d : ℕ) (ops : List CondOp) → depth d (postfix e ++ ops) ≡ depth (suc d) ops
depth_of (compared r n) d ops = refl
depth_of (negated e) d ops = rw (append_assoc (postfix e) (Not ∷ []) ops) (depth_of e d (Not ∷ ops))
depth_of (both e f) d ops =
    rw (append_assoc (postfix e ++ postfix f) (And ∷ []) ops, append_assoc (postfix e) (postfix f) (And ∷ ops))
    (depth_of e d (postfix f ++ And ∷ ops) ∙ depth_of f (suc d) (And ∷ ops))
depth_of (either e f) d ops =
    rw (append_assoc (postfix e ++ postfix f) (Or ∷ []) ops, append_assoc (postfix e) (postfix f) (Or ∷ ops))
    (depth_of e d (postfix f ++ Or ∷ ops) ∙ depth_of f (suc d) (Or ∷ ops))

-- the operations of several expressions, the newest first
abbrev pub joined : List Expression → List CondOp
joined [] = []
joined (e ∷ es) = joined es ++ postfix e

one_result : (es : List Expression) (ops : List CondOp) → depth (length es) ops ≡ Some 1 → IsPostfix (joined es ++ ops)
one_result [] [] h = cc
one_result (e ∷ []) [] h = (e, append-nil (postfix e))
one_result (e ∷ f ∷ es) [] h = absurd (let many : suc (suc (length es)) ≡ 1 = cc in omega (arith, many))
one_result es (Cmp r n ∷ ops) h =
    rw (← append_assoc (joined es) (Cmp r n ∷ []) ops) (one_result (compared r n ∷ es) ops h)
one_result [] (Not ∷ ops) h = cc
one_result (e ∷ es) (Not ∷ ops) h =
    rw (← append_assoc (joined es ++ postfix e) (Not ∷ []) ops, append_assoc (joined es) (postfix e) (Not ∷ []))
    (one_result (negated e ∷ es) ops h)
one_result [] (And ∷ ops) h = cc
one_result (e ∷ []) (And ∷ ops) h = cc
one_result (f ∷ e ∷ es) (And ∷ ops) h =
    rw (
      ← append_assoc ((joined es ++ postfix e) ++ postfix f) (And ∷ []) ops,
      append_assoc (joined es) (postfix e) (postfix f),
      append_assoc (joined es) (postfix e ++ postfix f) (And ∷ []),
    )
    (one_result (both e f ∷ es) ops h)
one_result [] (Or ∷ ops) h = cc
one_result (e ∷ []) (Or ∷ ops) h = cc
one_result (f ∷ e ∷ es) (Or ∷ ops) h =
    rw (
      ← append_assoc ((joined es ++ postfix e) ++ postfix f) (Or ∷ []) ops,
      append_assoc (joined es) (postfix e) (postfix f),
      append_assoc (joined es) (postfix e ++ postfix f) (Or ∷ []),
    )
    (one_result (either e f ∷ es) ops h)

-- a list that leaves one result is a postfix expression
pub postfix_from_depth : (ops : List CondOp) → depth 0 ops ≡ Some 1 → IsPostfix ops
postfix_from_depth ops h = one_result [] ops h

pub depth_from_postfix : (ops : List CondOp) → IsPostfix ops → depth 0 ops ≡ Some 1
depth_from_postfix ops (e, is) =
    ap (λ xs. depth 0 xs) is ∙ ap (λ xs. depth 0 xs) (sym (append-nil (postfix e))) ∙ depth_of e 0 []

-- a value is not none
some_is_not_none : (o : Option ℕ) → o ≡ Some 1 → o ≡ None → ⊥
some_is_not_none o h k =
    let P : Option ℕ → Type 0 = elim [ None ↦ ⊥ | Some n ↦ Unit {0} ] in subst P (sym h ∙ k) tt

-- what the walk over the operations tells
pub walk_lacks : (ops : List CondOp) (n i k : ℕ) (d : CondOp) → depth n (drop i ops) ≡ depth 0 ops → i < length ops
    → k ≡ arity (get_or ops i d) → n < k → ¬ (IsPostfix ops)
walk_lacks ops n i k d left within is few all =
    some_is_not_none (depth 0 ops) (depth_from_postfix ops all)
    (sym left ∙ at_drop_more (λ xs. depth n xs) ops i d within
    ∙ depth_lacks n (get_or ops i d) (drop (i + 1) ops) (omega arith))

same_count : (n : ℕ) → Some n ≡ Some 1 → n ≡ 1
same_count n h = cc

pub walk_ends : (ops : List CondOp) (n i : ℕ) → depth n (drop i ops) ≡ depth 0 ops → length ops ≤ i
    → (IsTrue (eqb n 1) → IsPostfix ops) × (IsPostfix ops → IsTrue (eqb n 1))
walk_ends ops n i left end =
    let all : depth 0 ops ≡ Some n = sym left ∙ at_drop_all (λ xs. depth n xs) ops i end in (
      λ t. let one : n ≡ 1 = grind (arith, nat_tests) in postfix_from_depth ops (all ∙ ap (λ k. Some k) one),
      λ is. eq-eqb n 1 (same_count n (sym all ∙ depth_from_postfix ops is)),
    )
