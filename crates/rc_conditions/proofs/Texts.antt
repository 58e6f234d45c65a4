-- The text of an expression, by its last operation.
use Rattle.std.proofs.Common.{◌≡◌, ◌≤◌, ◌-◌, ℕ, ℤ, List, [], ◌∷◌, ◌++◌, length, take, drop, get_or, codes}
use Rattle.std.proofs.Common.{append_assoc, FitsSigned, ap, sym, subst, ◌∙◌}
use Rattle.std.specs.Int.{w32}
use Rattle.std.proofs.Math.Seq.{take-append_seam, drop-append_seam}
use Rattle.model.specs.Types.{Rel, CondOp, Cmp, And, Or, Not}
use Rattle.rc_conditions.specs.Expressions.{Expression, compared, postfix, NumbersFit}
use Rattle.rc_conditions.specs.Printing.{printed}
use Rattle.rc_conditions.proofs.Ends.{by_end, ends_compared, ends_negated, ends_both, ends_either}

-- an expression that joins two, whose operations stand one behind the other
pub record Halves (joint : List ℕ) (e : Expression) (front : List CondOp) : Type 0 where
  pub left : Expression
  pub right : Expression
  pub text : printed e ≡ codes "(" ++ printed left ++ joint ++ printed right ++ codes ")"
  pub is : front ≡ postfix left ++ postfix right
  pub fits : NumbersFit left → NumbersFit right → NumbersFit e

-- the expression that a list of operations is, by the last of them
module _ (ops : List CondOp) (d : CondOp) (e : Expression) (some : 1 ≤ length ops) (is : ops ≡ postfix e) where
  at_end : take (length ops - 1) ops ++ get_or ops (length ops - 1) d ∷ [] ≡ postfix e
  at_end = sym (by_end ops d some) ∙ is

  pub compared_text : (r : Rel) (n : ℤ) (old new : List ℕ) → get_or ops (length ops - 1) d ≡ Cmp r n
      → new ≡ old ++ printed (compared r n) → new ≡ old ++ printed e
  compared_text r n old new last text =
      text ∙ ap (λ x. old ++ printed x) (sym (ends_compared _ _ r n e last at_end))

  pub compared_fits : (r : Rel) (n : ℤ) → get_or ops (length ops - 1) d ≡ Cmp r n → FitsSigned w32 n → NumbersFit e
  compared_fits r n last fits =
      let P : Expression → Type 0 = λ x. NumbersFit x in subst P (sym (ends_compared _ _ r n e last at_end)) fits

  pub negated_text : (old s t new : List ℕ) → get_or ops (length ops - 1) d ≡ Not → s ≡ old ++ codes "NOT ("
      → ((x : Expression) → take (length ops - 1) ops ≡ postfix x → t ≡ s ++ printed x) → new ≡ t ++ codes ")"
      → new ≡ old ++ printed e
  negated_text old s t new last opening inside close =
      let found = ends_negated (take (length ops - 1) ops) (get_or ops (length ops - 1) d) e last at_end in
      close ∙ ap (λ xs. xs ++ codes ")") (inside found.0 found.2 ∙ ap (λ xs. xs ++ printed found.0) opening)
      ∙ all old (printed found.0) ∙ ap (λ x. old ++ printed x) (sym found.1)
    where
      all : (xs ys : List ℕ) → ((xs ++ codes "NOT (") ++ ys) ++ codes ")" ≡ xs ++ (codes "NOT (" ++ ys ++ codes ")")
      all xs ys = simp append_assoc

  pub negated_fits : get_or ops (length ops - 1) d ≡ Not
      → ((x : Expression) → take (length ops - 1) ops ≡ postfix x → NumbersFit x) → NumbersFit e
  negated_fits last inside =
      let found = ends_negated (take (length ops - 1) ops) (get_or ops (length ops - 1) d) e last at_end in
      let P : Expression → Type 0 = λ x. NumbersFit x in subst P (sym found.1) (inside found.0 found.2)

  pub both_halves : (joint : List ℕ) → get_or ops (length ops - 1) d ≡ And → joint ≡ codes ") AND ("
      → Halves joint e (take (length ops - 1) ops)
  both_halves joint last is_joint =
      let found = ends_both (take (length ops - 1) ops) (get_or ops (length ops - 1) d) e last at_end in
      let P : Expression → Type 0 = λ x. NumbersFit x in
      record {
        left = found.0;
        right = found.1;
        text =
            ap printed found.2
            ∙ ap (λ xs. codes "(" ++ printed found.0 ++ xs ++ printed found.1 ++ codes ")") (sym is_joint);
        is = found.3;
        fits = λ h k. subst P (sym found.2) (h, k);
      }

  pub either_halves : (joint : List ℕ) → get_or ops (length ops - 1) d ≡ Or → joint ≡ codes ") OR ("
      → Halves joint e (take (length ops - 1) ops)
  either_halves joint last is_joint =
      let found = ends_either (take (length ops - 1) ops) (get_or ops (length ops - 1) d) e last at_end in
      let P : Expression → Type 0 = λ x. NumbersFit x in
      record {
        left = found.0;
        right = found.1;
        text =
            ap printed found.2
            ∙ ap (λ xs. codes "(" ++ printed found.0 ++ xs ++ printed found.1 ++ codes ")") (sym is_joint);
        is = found.3;
        fits = λ h k. subst P (sym found.2) (h, k);
      }

-- the list is split into the operations of two expressions
abbrev Splits : List CondOp → List CondOp → List CondOp → Type 0
Splits front left right =
    (x y : Expression) → front ≡ postfix x ++ postfix y → (left ≡ postfix x) × (right ≡ postfix y)

module _ {joint : List ℕ} {e : Expression} {front : List CondOp} (h : Halves joint e front) (left right : List CondOp)
    (split : Splits front left right) where
  pub halves_text : (old s t u v new : List ℕ) → s ≡ old ++ codes "("
      → ((x : Expression) → left ≡ postfix x → t ≡ s ++ printed x) → u ≡ t ++ joint
      → ((x : Expression) → right ≡ postfix x → v ≡ u ++ printed x) → new ≡ v ++ codes ")" → new ≡ old ++ printed e
  halves_text old s t u v new opening first middle second close =
      let parts = split h.left h.right h.is in
      let to_first = first h.left parts.0 ∙ ap (λ xs. xs ++ printed h.left) opening in
      let to_joint = middle ∙ ap (λ xs. xs ++ joint) to_first in
      let to_second = second h.right parts.1 ∙ ap (λ xs. xs ++ printed h.right) to_joint in
      close ∙ ap (λ xs. xs ++ codes ")") to_second ∙ all old (printed h.left) joint (printed h.right)
      ∙ ap (λ xs. old ++ xs) (sym h.text)
    where
      all : (xs ys zs us : List ℕ) → ((((xs ++ codes "(") ++ ys) ++ zs) ++ us) ++ codes ")"
          ≡ xs ++ (codes "(" ++ ys ++ zs ++ us ++ codes ")")
      all xs ys zs us = simp append_assoc

  pub halves_fit : ((x : Expression) → left ≡ postfix x → NumbersFit x)
      → ((x : Expression) → right ≡ postfix x → NumbersFit x) → NumbersFit e
  halves_fit first second =
      let parts = split h.left h.right h.is in h.fits (first h.left parts.0) (second h.right parts.1)

-- two expressions, split where the last begins
pub split_parts : (ops left right : List CondOp) (k : ℕ) (e f : Expression) → ops ≡ postfix e ++ postfix f
    → left ≡ take k ops → right ≡ drop k ops
    → ((front : List CondOp) (x : Expression) → ops ≡ front ++ postfix x → k ≡ length front)
    → (left ≡ postfix e) × (right ≡ postfix f)
split_parts ops left right k e f is l r begins =
    let at = begins (postfix e) f is in (
      l ∙ ap (λ n. take n ops) at ∙ ap (λ xs. take (length (postfix e)) xs) is
          ∙ take-append_seam (postfix e) (postfix f),
      r ∙ ap (λ n. drop n ops) at ∙ ap (λ xs. drop (length (postfix e)) xs) is
          ∙ drop-append_seam (postfix e) (postfix f),
    )
