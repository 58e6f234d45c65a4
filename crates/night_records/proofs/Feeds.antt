-- The first line that is not skipped, among the pieces between line feeds.
use Rattle.std.proofs.Common.{◌≡◌, ◌<◌, ◌+◌, ◌++◌, ◌∷◌, ◌∙◌, [], ℕ, Bool, List, None, Option, Some, ap, arith, cond, drop, false, get_or}
use Rattle.std.proofs.Common.{length, subst, sym, true}
use Rattle.std.specs.Prelude.{codes}
use Rattle.std.specs.Str.{bytes_eq}
use Rattle.std.proofs.lemmas.List.{length-append, at_drop_all, at_drop_more}
use Rattle.night_records.specs.Composers.{definitions_from, is_skipped}

-- the line of this number is this one
abbrev IsLine : List (List ℕ) → ℕ → List ℕ → Type 0
IsLine lines n line = (n < length lines) × (line ≡ get_or lines n line)

at_line : (lines : List (List ℕ)) (n k : ℕ) (line : List ℕ) (all : Option ℕ) → n ≡ k → IsLine lines k line
    → all ≡ definitions_from n (drop n lines)
    → all
    ≡ cond (is_skipped line) (definitions_from (n + 1) (drop (n + 1) lines))
    (cond (bytes_eq line (codes "$DEFINITIONS")) (Some n) None)
at_line lines n k line all e h left =
    let here = subst (λ m. IsLine lines m line) (sym e) h in
    left ∙ at_drop_more (definitions_from n) lines n line here.0
    ∙ ap (λ l. cond (is_skipped l) (definitions_from (n + 1) (drop (n + 1) lines))
    (cond (bytes_eq l (codes "$DEFINITIONS")) (Some n) None)) (sym here.1)

-- a line that is not skipped tells all
pub at_told : (lines : List (List ℕ)) (n k : ℕ) (line : List ℕ) (all : Option ℕ) (b : Bool) → n ≡ k → IsLine lines k line
    → all ≡ definitions_from n (drop n lines) → is_skipped line ≡ false
    → bytes_eq line (codes "$DEFINITIONS") ≡ b → cond b (Some n) None ≡ all
at_told lines n k line all b e h left s t =
    sym (at_line lines n k line all e h left
    ∙ ap (λ x. cond x (definitions_from (n + 1) (drop (n + 1) lines))
    (cond (bytes_eq line (codes "$DEFINITIONS")) (Some n) None)) s
    ∙ ap (λ x. cond x (Some n) None) t)

-- a line that is skipped tells nothing
pub at_skipped : (lines : List (List ℕ)) (n k : ℕ) (line : List ℕ) (all : Option ℕ) → n ≡ k → IsLine lines k line
    → all ≡ definitions_from n (drop n lines) → is_skipped line ≡ true
    → all ≡ definitions_from (n + 1) (drop (n + 1) lines)
at_skipped lines n k line all e h left s =
    at_line lines n k line all e h left
    ∙ ap (λ x. cond x (definitions_from (n + 1) (drop (n + 1) lines))
    (cond (bytes_eq line (codes "$DEFINITIONS")) (Some n) None)) s

-- where all were skipped there is none
pub at_end : (lines : List (List ℕ)) (n k : ℕ) (all : Option ℕ) → n ≡ k → k ≡ length lines
    → all ≡ definitions_from n (drop n lines) → None ≡ all
at_end lines n k all e h left = sym (left ∙ at_drop_all (definitions_from n) lines n (omega (arith, e, h)))

pub one_more : {X : Type 0} (yielded : List X) (x : X) (n : ℕ) → n ≡ length yielded → n + 1 ≡ length (yielded ++ x ∷ [])
one_more yielded x n e = omega (arith, e, length-append yielded (x ∷ []))
