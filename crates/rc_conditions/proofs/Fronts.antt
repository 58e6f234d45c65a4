-- Several postfix expressions at the end of a list, taken from the end.
use Rattle.std.proofs.Common.{◌≡◌, ◌≤◌, ◌<◌, ◌-◌, ◌+◌, ℕ, List, [], ◌∷◌, ◌++◌, length, append_assoc}
use Rattle.std.proofs.Common.{refl, ap, sym, subst, ◌∙◌, arith, take, get_or, length-append}
use Rattle.std.proofs.lemmas.List.{same_from_push}
use Rattle.model.specs.Types.{CondOp, Cmp, And, Or, Not}
use Rattle.rc_conditions.specs.Expressions.{Expression, compared, negated, both, either, postfix, arity}
use Rattle.rc_conditions.proofs.Depths.{joined}
use Rattle.rc_conditions.proofs.Ends.{by_end}

-- behind a front stand so many expressions
pub record Lacks (front : List CondOp) (count : ℕ) (rest : List CondOp) : Type 0 where
  pub parts : List Expression
  pub number : length parts ≡ count
  pub is : rest ≡ front ++ joined parts

pub lacks_one : (front ops : List CondOp) (e : Expression) → ops ≡ front ++ postfix e → Lacks front 1 ops
lacks_one front ops e is = record { parts = e ∷ []; number = refl; is = is }

same_arity : (op other : CondOp) (k n : ℕ) → op ≡ other → k ≡ n + arity op → k ≡ n + arity other
same_arity op other k n is h = h ∙ ap (λ x. n + arity x) is

-- the last operation, by the last expression
by_last : (front before : List CondOp) (op : CondOp) (k : ℕ) (e : Expression) (es : List Expression)
    → before ++ op ∷ [] ≡ front ++ (joined es ++ postfix e) → k ≡ length es + arity op → Lacks front k before
by_last front before op k (compared r n) es is count =
    let s = same_from_push before (front ++ joined es) op (Cmp r n)
    (is ∙ sym (append_assoc front (joined es) (Cmp r n ∷ []))) in
    let right = same_arity op (Cmp r n) k (length es) s.1 count in
    record { parts = es; number = omega (arith, right); is = s.0 }
by_last front before op k (negated e) es is count =
    let s = same_from_push before (front ++ (joined es ++ postfix e)) op Not
    (is ∙ ap (λ xs. front ++ xs) (sym (append_assoc (joined es) (postfix e) (Not ∷ [])))
    ∙ sym (append_assoc front (joined es ++ postfix e) (Not ∷ []))) in
    let right = same_arity op Not k (length es) s.1 count in
    record { parts = e ∷ es; number = omega (arith, right); is = s.0 }
by_last front before op k (both e f) es is count =
    let s = same_from_push before (front ++ ((joined es ++ postfix e) ++ postfix f)) op And
    (is ∙ ap (λ xs. front ++ xs) (two (joined es) (postfix e) (postfix f) (And ∷ []))
    ∙ sym (append_assoc front ((joined es ++ postfix e) ++ postfix f) (And ∷ []))) in
    let right = same_arity op And k (length es) s.1 count in
    record { parts = f ∷ e ∷ es; number = omega (arith, right); is = s.0 }
  where
    two : (xs ys zs us : List CondOp) → xs ++ ((ys ++ zs) ++ us) ≡ ((xs ++ ys) ++ zs) ++ us
    two xs ys zs us = simp append_assoc
by_last front before op k (either e f) es is count =
    let s = same_from_push before (front ++ ((joined es ++ postfix e) ++ postfix f)) op Or
    (is ∙ ap (λ xs. front ++ xs) (two (joined es) (postfix e) (postfix f) (Or ∷ []))
    ∙ sym (append_assoc front ((joined es ++ postfix e) ++ postfix f) (Or ∷ []))) in
    let right = same_arity op Or k (length es) s.1 count in
    record { parts = f ∷ e ∷ es; number = omega (arith, right); is = s.0 }
  where
    two : (xs ys zs us : List CondOp) → xs ++ ((ys ++ zs) ++ us) ≡ ((xs ++ ys) ++ zs) ++ us
    two xs ys zs us = simp append_assoc

by_parts : (front rest before : List CondOp) (op : CondOp) (count : ℕ) (parts : List Expression)
    → rest ≡ before ++ op ∷ [] → length parts ≡ count → rest ≡ front ++ joined parts → 0 < count
    → Lacks front (count - 1 + arity op) before
by_parts front rest before op count [] end number is some = absurd (omega arith)
by_parts front rest before op count (e ∷ es) end number is some =
    by_last front before op (count - 1 + arity op) e es (sym end ∙ is) (omega arith)

-- one operation further
pub lacks_more : (front rest before : List CondOp) (op : CondOp) (count : ℕ) → rest ≡ before ++ op ∷ [] → 0 < count
    → Lacks front count rest → Lacks front (count - 1 + arity op) before
lacks_more front rest before op count end some l = by_parts front rest before op count l.parts end l.number l.is some

-- an expression has an operation
pub some_ops : (e : Expression) → 0 < length (postfix e)
some_ops (compared r n) = omega arith
some_ops (negated e) = omega (arith, length-append (postfix e) (Not ∷ []))
some_ops (both e f) = omega (arith, length-append (postfix e ++ postfix f) (And ∷ []))
some_ops (either e f) = omega (arith, length-append (postfix e ++ postfix f) (Or ∷ []))

none_by_parts : (front rest : List CondOp) (count : ℕ) (parts : List Expression) → length parts ≡ count
    → rest ≡ front ++ joined parts → length rest ≡ 0 → count ≡ 0
none_by_parts front rest count [] number is none = sym number
none_by_parts front rest count (e ∷ es) number is none =
    absurd (omega (
      arith,
      some_ops e,
      length-append front (joined es ++ postfix e),
      length-append (joined es) (postfix e),
      ap length is,
    ))

-- where no operation is left no expression is
pub none_left : (front rest : List CondOp) (count : ℕ) → Lacks front count rest → length rest ≡ 0 → count ≡ 0
none_left front rest count l none = none_by_parts front rest count l.parts l.number l.is none

-- the same in the words of the walk
pub walk_more : (front rest : List CondOp) (count k : ℕ) (d : CondOp) → 1 ≤ length rest → 0 < count
    → k ≡ arity (get_or rest (length rest - 1) d) → Lacks front count rest
    → Lacks front (count - 1 + k) (take (length rest - 1) rest)
walk_more front rest count k d some wanted is l =
    let P : ℕ → Type 0 = λ j. Lacks front (count - 1 + j) (take (length rest - 1) rest) in
    subst P (sym is)
    (lacks_more front rest (take (length rest - 1) rest) (get_or rest (length rest - 1) d) count (by_end rest d some)
    wanted l)
