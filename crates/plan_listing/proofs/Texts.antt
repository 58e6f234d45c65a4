-- The text of a list of operations is that of the expression that it is.
use Rattle.std.proofs.Common.{◌≡◌, ℕ, List, [], ◌∷◌, ◌++◌, map, option_map, option_and_then, Option, Some, None, refl, sym, ap, ◌∙◌, subst}
use Rattle.std.proofs.Common.{append_assoc, append-nil, arith, Bool, true, false, cond, codes, length, ◌<◌, ◌≤◌, ◌≢◌, Result, IfOk}
use Rattle.std.proofs.lemmas.Bool.Decides.{nat_tests}
use Rattle.std.specs.Prelude.{nat_le}
use Rattle.lemmas.proofs.Options.{some_same}
use Rattle.model.specs.Types.{CondOp, Cmp, And, Or, Not}
use Rattle.rc_conditions.specs.Expressions.{Expression, compared, negated, both, either, postfix, IsPostfix}
use Rattle.rc_conditions.specs.Printing.{printed}
use Rattle.plan_listing.specs.Conditions.{with_op, texts_of, only, cond_text}

-- the expressions of the results so far, the newest first, with one operation more
abbrev pub with_expression : CondOp → List Expression → Option (List Expression)
with_expression (Cmp r n) es = Some (compared r n ∷ es)
with_expression Not [] = None
with_expression Not (a ∷ es) = Some (negated a ∷ es)
with_expression And [] = None
with_expression And (b ∷ []) = None
with_expression And (b ∷ a ∷ es) = Some (both a b ∷ es)
with_expression Or [] = None
with_expression Or (b ∷ []) = None
with_expression Or (b ∷ a ∷ es) = Some (either a b ∷ es)

abbrev pub expressions_of : List CondOp → List Expression → Option (List Expression)
expressions_of [] es = Some es
expressions_of (op ∷ ops) es = option_and_then (expressions_of ops) (with_expression op es)

-- texts are those of the expressions
op_texts : (op : CondOp) (es : List Expression)
    → with_op op (map printed es) ≡ option_map (map printed) (with_expression op es)
op_texts (Cmp r n) es = refl
op_texts Not [] = refl
op_texts Not (a ∷ es) = refl
op_texts And [] = refl
op_texts And (b ∷ []) = refl
op_texts And (b ∷ a ∷ es) = refl
op_texts Or [] = refl
op_texts Or (b ∷ []) = refl
op_texts Or (b ∷ a ∷ es) = refl

then_texts : (ops : List CondOp)
    → ((es : List Expression) → texts_of ops (map printed es) ≡ option_map (map printed) (expressions_of ops es))
    → (o : Option (List Expression))
    → option_and_then (texts_of ops) (option_map (map printed) o)
    ≡ option_map (map printed) (option_and_then (expressions_of ops) o)
then_texts ops so None = refl
then_texts ops so (Some es) = so es

pub all_texts : (ops : List CondOp) (es : List Expression)
    → texts_of ops (map printed es) ≡ option_map (map printed) (expressions_of ops es)
all_texts [] es = refl
all_texts (op ∷ ops) es =
    ap (option_and_then (texts_of ops)) (op_texts op es)
    ∙ then_texts ops (all_texts ops) (with_expression op es)

-- the operations of an expression leave that expression
pub one_more : (e : Expression) (rest : List CondOp) (es : List Expression)
    → expressions_of (postfix e ++ rest) es ≡ expressions_of rest (e ∷ es)
one_more (compared r n) rest es = refl
one_more (negated e) rest es =
    ap (λ l. expressions_of l es) (append_assoc (postfix e) (Not ∷ []) rest) ∙ one_more e (Not ∷ rest) es
one_more (both e f) rest es =
    ap (λ l. expressions_of l es)
    (append_assoc (postfix e ++ postfix f) (And ∷ []) rest ∙ append_assoc (postfix e) (postfix f) (And ∷ rest))
    ∙ (one_more e (postfix f ++ And ∷ rest) es ∙ one_more f (And ∷ rest) (e ∷ es))
one_more (either e f) rest es =
    ap (λ l. expressions_of l es)
    (append_assoc (postfix e ++ postfix f) (Or ∷ []) rest ∙ append_assoc (postfix e) (postfix f) (Or ∷ rest))
    ∙ (one_more e (postfix f ++ Or ∷ rest) es ∙ one_more f (Or ∷ rest) (e ∷ es))

-- so they have its text
pub text_of_expression : (e : Expression) (ops : List CondOp) → ops ≡ postfix e ++ [] → only (texts_of ops []) ≡ printed e
text_of_expression e ops is =
    ap (λ l. only (texts_of l [])) is
    ∙ (ap only (all_texts (postfix e ++ []) []) ∙ ap (λ o. only (option_map (map printed) o)) (one_more e [] []))

-- the operations of the results so far
abbrev pub spelled : List Expression → List CondOp
spelled [] = []
spelled (e ∷ es) = spelled es ++ postfix e

kept : (op : CondOp) (es fs : List Expression) → with_expression op es ≡ Some fs → spelled es ++ op ∷ [] ≡ spelled fs
kept (Cmp r n) es fs h = ap spelled (some_same (compared r n ∷ es) fs h)
kept Not [] fs h = cc
kept Not (a ∷ es) fs h =
    append_assoc (spelled es) (postfix a) (Not ∷ []) ∙ ap spelled (some_same (negated a ∷ es) fs h)
kept And [] fs h = cc
kept And (b ∷ []) fs h = cc
kept And (b ∷ a ∷ es) fs h =
    ap (λ l. l ++ And ∷ []) (append_assoc (spelled es) (postfix a) (postfix b))
    ∙ (append_assoc (spelled es) (postfix a ++ postfix b) (And ∷ []) ∙ ap spelled (some_same (both a b ∷ es) fs h))
kept Or [] fs h = cc
kept Or (b ∷ []) fs h = cc
kept Or (b ∷ a ∷ es) fs h =
    ap (λ l. l ++ Or ∷ []) (append_assoc (spelled es) (postfix a) (postfix b))
    ∙ (append_assoc (spelled es) (postfix a ++ postfix b) (Or ∷ []) ∙ ap spelled (some_same (either a b ∷ es) fs h))

-- what is left are the operations that were there
pub all_kept : (ops : List CondOp) (es fs : List Expression) → expressions_of ops es ≡ Some fs
    → spelled es ++ ops ≡ spelled fs
all_kept [] es fs h = append-nil (spelled es) ∙ ap spelled (some_same es fs h)
all_kept (op ∷ ops) es fs h = go (with_expression op es) refl (all_kept ops)
  where
    go : (o : Option (List Expression)) → with_expression op es ≡ o
        → ((gs hs : List Expression) → expressions_of ops gs ≡ Some hs → spelled gs ++ ops ≡ spelled hs)
        → spelled es ++ op ∷ ops ≡ spelled fs
    go None is more = absurd (let none : expressions_of (op ∷ ops) es ≡ None = ap (option_and_then (expressions_of ops)) is in cc)
    go (Some gs) is more =
        sym (append_assoc (spelled es) (op ∷ []) ops)
        ∙ (ap (λ l. l ++ ops) (kept op es gs is)
        ∙ more gs fs (sym (ap (option_and_then (expressions_of ops)) is) ∙ h))

-- how many expressions a list leaves
abbrev pub LeavesOne : List CondOp → Option (List Expression) → Type 0
LeavesOne ops o = (e : Expression) → ops ≡ postfix e → o ≡ Some (e ∷ [])

leaves_one : (ops : List CondOp) → LeavesOne ops (expressions_of ops [])
leaves_one ops e is = ap (λ l. expressions_of l []) (is ∙ sym (append-nil (postfix e))) ∙ one_more e [] []

-- what is told of a printed condition is its text
module _ {E : Type 0} (r : Result (List ℕ) E) where
  abbrev Gives : List ℕ → Type 0
  Gives text = IfOk r (λ t. t ≡ text)

  among : (ops : List CondOp) (o : Option (List Expression)) → expressions_of ops [] ≡ o → (ops ≡ [] → ⊥)
      → ((e : Expression) → ops ≡ postfix e → Gives (printed e))
      → ((IsPostfix ops → ⊥) → Gives [])
      → Gives (only (option_map (map printed) o))
  among ops None is some canonical other =
      other (λ p. let one : None ≡ Some (p.0 ∷ []) = sym is ∙ leaves_one ops p.0 p.1 in cc)
  among ops (Some []) is some canonical other = absurd (some (all_kept ops [] [] is))
  among ops (Some (e ∷ [])) is some canonical other = canonical e (all_kept ops [] (e ∷ []) is)
  among ops (Some (e ∷ f ∷ es)) is some canonical other =
      other (λ p. let one : Some (e ∷ f ∷ es) ≡ Some (p.0 ∷ []) = sym is ∙ leaves_one ops p.0 p.1 in cc)

  by_length : (op : CondOp) (ops : List CondOp) (b : Bool) → nat_le (length (op ∷ ops)) 64 ≡ b
      → ((e : Expression) → op ∷ ops ≡ postfix e → length (op ∷ ops) ≤ 64 → Gives (printed e))
      → (op ∷ ops ≢ [] → (IsPostfix (op ∷ ops) → ⊥) → Gives [])
      → (64 < length (op ∷ ops) → Gives [])
      → Gives (cond b (only (texts_of (op ∷ ops) [])) [])
  by_length op ops true h canonical other long =
      let low : length (op ∷ ops) ≤ 64 = grind (arith, nat_tests) in
      subst Gives (sym (ap only (all_texts (op ∷ ops) [])))
      (among (op ∷ ops) (expressions_of (op ∷ ops) []) refl (λ e. cc) (λ e is. canonical e is low) (other (λ e. cc)))
  by_length op ops false h canonical other long = long (grind (arith, nat_tests))

  pub told : (ops : List CondOp)
      → (ops ≡ [] → Gives (codes "RC = 0"))
      → ((e : Expression) → ops ≡ postfix e → length ops ≤ 64 → Gives (printed e))
      → (ops ≢ [] → (IsPostfix ops → ⊥) → Gives [])
      → (64 < length ops → Gives [])
      → Gives (cond_text ops)
  told [] default canonical other long = default refl
  told (op ∷ ops) default canonical other long =
      by_length op ops (nat_le (length (op ∷ ops)) 64) refl canonical other long
