-- The numbers in a condition that is read have 32 bits.
use Rattle.std.proofs.Common.{◌≡◌, ◌≤◌, ◌<◌, ◌+◌, ◌-◌, ◌==◌, ◌^◌, ℕ, zero, suc, ℤ, pos, Bool, true, false, List, [], ◌∷◌, Option, Some, None}
use Rattle.std.proofs.Common.{refl, subst, arith, option_and_then, drop, slice_index, if◌then◌else◌, take, cond, bytes_eq, codes, FitsSigned}
use Rattle.std.specs.Int.{w32}
use Rattle.std.specs.List.{AllByRecursion}
use Rattle.std.specs.Option.{option_map_or}
use Rattle.std.specs.Prelude.{nat_le, nat_lt, neg_ℤ}
use Rattle.std.specs.Str.{str_eq_ignore_ascii_case}
use Rattle.std.proofs.lemmas.Bool.Decides.{nat_tests}
use Rattle.lemmas.proofs.Lists.{all_left, all_right}
use Rattle.syntax.specs.Numbers.{below_zero, from_zero, number_of, signed_of}
use Rattle.model.specs.Types.{Eq}
use Rattle.rc_conditions.specs.Expressions.{NumbersFit}
use Rattle.rc_conditions.specs.Grammar.{Conjunction, Disjunction, Operand, comparison, conjunction_meaning, conjunction_tokens}
use Rattle.rc_conditions.specs.Grammar.{disjunction_meaning, disjunction_tokens, in_parentheses, joined_by_and, joined_by_or, not_operand}
use Rattle.rc_conditions.specs.Grammar.{one_conjunction, one_operand, operand_meaning, operand_tokens, text_tokens}
use Rattle.rc_conditions.specs.Tokens.{Placed, is_blank, mark_or_number, placed_tokens, token_of, tokens_behind, tokens_in, width}

-- A token's number, if it has one, has 32 bits. Tokens have no names here; the number of a comparison is its third one.

abbrev third : {T : Type 0} → List T → Option T
third [] = None
third (a ∷ []) = None
third (a ∷ b ∷ []) = None
third (a ∷ b ∷ c ∷ ts) = Some c

abbrev HasFit : {T : Type 0} → (ℤ → List T) → T → Type 0
HasFit tokens t = (z : ℤ) → third (tokens z) ≡ Some t → FitsSigned w32 z

below_fits : (n : ℕ) (z : ℤ) → below_zero n ≡ Some z → FitsSigned w32 z
below_fits n z e = go (nat_le n (2 ^ 31)) refl e
  where
    turned : (k : ℕ) → k ≤ 2 ^ 31 → FitsSigned w32 (neg_ℤ (pos k))
    turned zero h = record { sfits = omega arith }
    turned (suc k) h = record { sfits = omega (arith, h) }

    go : (b : Bool) → nat_le n (2 ^ 31) ≡ b → (if b then Some (neg_ℤ (pos n)) else None) ≡ Some z → FitsSigned w32 z
    go true is f =
        let low : n ≤ 2 ^ 31 = grind (arith, nat_tests) in
        let same : neg_ℤ (pos n) ≡ z = cc in subst (FitsSigned w32) same (turned n low)
    go false is f = absurd (cc)

from_fits : (n : ℕ) (z : ℤ) → from_zero n ≡ Some z → FitsSigned w32 z
from_fits n z e = go (nat_lt n (2 ^ 31)) refl e
  where
    go : (b : Bool) → nat_lt n (2 ^ 31) ≡ b → (if b then Some (pos n) else None) ≡ Some z → FitsSigned w32 z
    go true is f =
        let low : n < 2 ^ 31 = grind (arith, nat_tests) in
        let same : pos n ≡ z = cc in subst (FitsSigned w32) same (record { sfits = low })
    go false is f = absurd (cc)

then_fits : (f : ℕ → Option ℤ) (o : Option ℕ) (z : ℤ) → ((n : ℕ) → f n ≡ Some z → FitsSigned w32 z)
    → option_and_then f o ≡ Some z → FitsSigned w32 z
then_fits f None z h e = absurd (cc)
then_fits f (Some n) z h e = h n e

signed_fits : (w : List ℕ) (z : ℤ) → signed_of w ≡ Some z → FitsSigned w32 z
unfolding signed_of
signed_fits w z e = go (slice_index w 0 == 45) e
  where
    go : (b : Bool)
        → (if b then option_and_then below_zero (number_of 32 (drop 1 w)) else option_and_then from_zero (number_of 32 w)) ≡ Some z
        → FitsSigned w32 z
    go true f = then_fits below_zero (number_of 32 (drop 1 w)) z (λ n h. below_fits n z h) f
    go false f = then_fits from_zero (number_of 32 w) z (λ n h. from_fits n z h) f

-- each token of a text
choose : {T : Type 0} (P : T → Type 0) (b : Bool) (s t : T) → P s → P t → P (cond b s t)
choose P true s t h k = h
choose P false s t h k = k

number_token : {T : Type 0} (tokens : ℤ → List T) (f : ℤ → T) (other : T) (o : Option ℤ)
    → ((z y : ℤ) → third (tokens z) ≡ Some (f y) → y ≡ z) → ((z : ℤ) → third (tokens z) ≡ Some other → ⊥)
    → ((z : ℤ) → o ≡ Some z → FitsSigned w32 z) → HasFit tokens (option_map_or f o other)
number_token tokens f other None same none h = λ z e. absurd (none z e)
number_token tokens f other (Some y) same none h = λ z e. subst (FitsSigned w32) (same z y e) (h y refl)

mark_fits : (w : List ℕ) → HasFit (λ z. operand_tokens (comparison Eq z)) (mark_or_number w)
unfolding mark_or_number
mark_fits w =
    choose (HasFit (λ z. operand_tokens (comparison Eq z))) (bytes_eq w (codes "(")) _ _ (λ z e. absurd (cc))
    (choose (HasFit (λ z. operand_tokens (comparison Eq z))) (bytes_eq w (codes ")")) _ _ (λ z e. absurd (cc))
    (choose (HasFit (λ z. operand_tokens (comparison Eq z))) (bytes_eq w (codes "=")) _ _ (λ z e. absurd (cc))
    (choose (HasFit (λ z. operand_tokens (comparison Eq z))) (bytes_eq w (codes "!=")) _ _ (λ z e. absurd (cc))
    (choose (HasFit (λ z. operand_tokens (comparison Eq z))) (bytes_eq w (codes "<>")) _ _ (λ z e. absurd (cc))
    (choose (HasFit (λ z. operand_tokens (comparison Eq z))) (bytes_eq w (codes "<")) _ _ (λ z e. absurd (cc))
    (choose (HasFit (λ z. operand_tokens (comparison Eq z))) (bytes_eq w (codes "<=")) _ _ (λ z e. absurd (cc))
    (choose (HasFit (λ z. operand_tokens (comparison Eq z))) (bytes_eq w (codes ">")) _ _ (λ z e. absurd (cc))
    (choose (HasFit (λ z. operand_tokens (comparison Eq z))) (bytes_eq w (codes ">=")) _ _ (λ z e. absurd (cc))
    (number_token (λ z. operand_tokens (comparison Eq z)) _ _ (signed_of w) (λ z y e. cc) (λ z e. cc) (signed_fits w))))))))))

token_fits : (w : List ℕ) → HasFit (λ z. operand_tokens (comparison Eq z)) (token_of w)
unfolding token_of
token_fits w =
    choose (HasFit (λ z. operand_tokens (comparison Eq z))) (str_eq_ignore_ascii_case w (codes "RC")) _ _ (λ z e. absurd (cc))
    (choose (HasFit (λ z. operand_tokens (comparison Eq z))) (str_eq_ignore_ascii_case w (codes "NOT")) _ _ (λ z e. absurd (cc))
    (choose (HasFit (λ z. operand_tokens (comparison Eq z))) (str_eq_ignore_ascii_case w (codes "AND")) _ _ (λ z e. absurd (cc))
    (choose (HasFit (λ z. operand_tokens (comparison Eq z))) (str_eq_ignore_ascii_case w (codes "OR")) _ _ (λ z e. absurd (cc))
    (mark_fits w))))

abbrev AreFit : List Placed → Type 0
AreFit ps = AllByRecursion (HasFit (λ z. operand_tokens (comparison Eq z))) (tokens_in ps)

behind_fit : (taken place : ℕ) (bs : List ℕ) → AreFit (tokens_behind taken place bs)
behind_fit taken place [] = tt
behind_fit (suc taken) place (b ∷ bs) = behind_fit taken (place + 1) bs
behind_fit zero place (b ∷ bs) =
    go (is_blank b) (behind_fit 0 (place + 1) bs) (behind_fit (width (b ∷ bs) - 1) (place + 1) bs)
  where
    go : (t : Bool) → AreFit (tokens_behind 0 (place + 1) bs) → AreFit (tokens_behind (width (b ∷ bs) - 1) (place + 1) bs)
        → AreFit
        (if t then tokens_behind 0 (place + 1) bs else
        record { kind = token_of (take (width (b ∷ bs)) (b ∷ bs)); place = place } ∷ tokens_behind (width (b ∷ bs) - 1) (place + 1) bs)
    go true h k = h
    go false h k = (token_fits (take (width (b ∷ bs)) (b ∷ bs)), k)

text_fits : (text : List ℕ) → AllByRecursion (HasFit (λ z. operand_tokens (comparison Eq z))) (text_tokens text)
unfolding placed_tokens
text_fits text = behind_fit 0 0 text

-- and so each number of the expression
mutual
  disjunction_fits : (d : Disjunction) → AllByRecursion (HasFit (λ z. operand_tokens (comparison Eq z))) (disjunction_tokens d) → NumbersFit (disjunction_meaning d)
  disjunction_fits (one_conjunction c) h = conjunction_fits c h
  disjunction_fits (joined_by_or d c) h = (
    disjunction_fits d (all_left (HasFit (λ z. operand_tokens (comparison Eq z))) (disjunction_tokens d) _ h),
    conjunction_fits c (all_right (HasFit (λ z. operand_tokens (comparison Eq z))) (disjunction_tokens d) _ h).1,
  )

  conjunction_fits : (c : Conjunction) → AllByRecursion (HasFit (λ z. operand_tokens (comparison Eq z))) (conjunction_tokens c) → NumbersFit (conjunction_meaning c)
  conjunction_fits (one_operand o) h = operand_fits o h
  conjunction_fits (joined_by_and c o) h = (
    conjunction_fits c (all_left (HasFit (λ z. operand_tokens (comparison Eq z))) (conjunction_tokens c) _ h),
    operand_fits o (all_right (HasFit (λ z. operand_tokens (comparison Eq z))) (conjunction_tokens c) _ h).1,
  )

  operand_fits : (o : Operand) → AllByRecursion (HasFit (λ z. operand_tokens (comparison Eq z))) (operand_tokens o) → NumbersFit (operand_meaning o)
  operand_fits (comparison r z) h = h.1.1.0 z refl
  operand_fits (in_parentheses d) h = disjunction_fits d (all_left (HasFit (λ z. operand_tokens (comparison Eq z))) (disjunction_tokens d) _ h.1)
  operand_fits (not_operand o) h = operand_fits o h.1

pub read_fits : (text : List ℕ) (d : Disjunction) → text_tokens text ≡ disjunction_tokens d → NumbersFit (disjunction_meaning d)
read_fits text d e = disjunction_fits d (subst (AllByRecursion (HasFit (λ z. operand_tokens (comparison Eq z)))) e (text_fits text))
