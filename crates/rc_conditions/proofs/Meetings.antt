-- Conditions asked of a return code, as far as the operations were carried out.
use Rattle.std.proofs.Common.{◌≡◌, ◌≢◌, ◌≤◌, ◌<◌, ◌+◌, ◌&&◌, ◌||◌, ℕ, ℤ, Bool, true, false, not, leb, List, [], ◌∷◌, ◌++◌}
use Rattle.std.proofs.Common.{append_assoc, append-nil, length, drop, get_or, refl, ap, sym, ◌∙◌, arith, Some}
use Rattle.std.proofs.lemmas.List.{at_drop_more, at_drop_all}
use Rattle.std.proofs.lemmas.Bool.Decides.{nat_tests}
use Rattle.lemmas.proofs.Booleans.{and_false}
use Rattle.model.specs.Types.{CondOp, Cmp, And, Or, Not}
use Rattle.model.specs.Conditions.{compares, meets, result_of}
use Rattle.rc_conditions.specs.Expressions.{Expression, IsPostfix, compared, negated, both, either, postfix, is_met}
use Rattle.rc_conditions.proofs.Depths.{depth, postfix_from_depth}
use Rattle.rc_conditions.proofs.Fronts.{some_ops}

meets_by_result : (ops : List CondOp) (rc : ℤ) → 0 < length ops → length ops ≤ 64 → meets ops rc ≡ result_of rc [] ops
meets_by_result [] rc some few = absurd (omega arith)
meets_by_result (op ∷ ops) rc some few =
    let is : leb (length (op ∷ ops)) 64 ≡ true = grind (arith, nat_tests) in rw is refl

-- the operations, read through a slice, and the return code as it is passed on
pub record Asked (ops items : List CondOp) (rc passed : ℤ) (so_far : List Bool) (i : ℕ) : Type 0 where
  pub items_are : items ≡ ops
  pub passed_is : passed ≡ rc
  pub some : 0 < length ops
  pub few : length ops ≤ 64
  pub left : result_of passed so_far (drop i items) ≡ result_of passed [] items

by_rest : {ops items : List CondOp} {rc passed : ℤ} {so_far : List Bool} {i : ℕ} → Asked ops items rc passed so_far i
    → meets ops rc ≡ result_of passed so_far (drop i items)
by_rest {ops} {items} {rc} {passed} {so_far} {i} a =
    meets_by_result ops rc a.some a.few ∙ ap (λ xs. result_of rc [] xs) (sym a.items_are)
    ∙ ap (λ z. result_of z [] items) (sym a.passed_is) ∙ sym a.left

pub lacks_result : {ops items : List CondOp} {rc passed : ℤ} {so_far : List Bool} {i : ℕ}
    → Asked ops items rc passed so_far i → (d : CondOp) → i < length items
    → ((rest : List CondOp) → result_of passed so_far (get_or items i d ∷ rest) ≡ false) → false ≡ meets ops rc
lacks_result {ops} {items} {rc} {passed} {so_far} {i} a d within lacks =
    sym (by_rest a ∙ at_drop_more (λ xs. result_of passed so_far xs) items i d within ∙ lacks (drop (i + 1) items))

pub only_result : {ops items : List CondOp} {rc passed : ℤ} {so_far : List Bool} {i : ℕ}
    → Asked ops items rc passed so_far i → (r : Bool) → length items ≤ i → r ≡ result_of passed so_far []
    → r ≡ meets ops rc
only_result {ops} {items} {rc} {passed} {so_far} {i} a r end is =
    is ∙ sym (by_rest a ∙ at_drop_all (λ xs. result_of passed so_far xs) items i end)

-- an expression adds its result
adds_result : (e : Expression) (rc : ℤ) (so_far : List Bool) (ops : List CondOp)
    → result_of rc so_far (postfix e ++ ops) ≡ result_of rc (is_met e rc ∷ so_far) ops
adds_result (compared r n) rc [] ops = refl
adds_result (compared r n) rc (b ∷ []) ops = refl
adds_result (compared r n) rc (b ∷ a ∷ so_far) ops = refl
adds_result (negated e) rc so_far ops =
    ap (λ xs. result_of rc so_far xs) (append_assoc (postfix e) (Not ∷ []) ops)
    ∙ adds_result e rc so_far (Not ∷ ops)
adds_result (both e f) rc so_far ops =
    ap (λ xs. result_of rc so_far xs)
    (append_assoc (postfix e ++ postfix f) (And ∷ []) ops ∙ append_assoc (postfix e) (postfix f) (And ∷ ops))
    ∙ adds_result e rc so_far (postfix f ++ And ∷ ops) ∙ adds_result f rc (is_met e rc ∷ so_far) (And ∷ ops)
adds_result (either e f) rc so_far ops =
    ap (λ xs. result_of rc so_far xs)
    (append_assoc (postfix e ++ postfix f) (Or ∷ []) ops ∙ append_assoc (postfix e) (postfix f) (Or ∷ ops))
    ∙ adds_result e rc so_far (postfix f ++ Or ∷ ops) ∙ adds_result f rc (is_met e rc ∷ so_far) (Or ∷ ops)

pub met_by_expression : (e : Expression) (rc : ℤ) → length (postfix e) ≤ 64 → meets (postfix e) rc ≡ is_met e rc
met_by_expression e rc few =
    meets_by_result (postfix e) rc (some_ops e) few
    ∙ ap (λ xs. result_of rc [] xs) (sym (append-nil (postfix e))) ∙ adds_result e rc [] []

-- operations that leave no results or several, or lack one, give none
no_result : (rc : ℤ) (so_far : List Bool) (ops : List CondOp) → ¬ (depth (length so_far) ops ≡ Some 1)
    → result_of rc so_far ops ≡ false
no_result rc [] [] h = refl
no_result rc (b ∷ []) [] h = absurd (h refl)
no_result rc (b ∷ a ∷ so_far) [] h = refl
no_result rc [] (Cmp r n ∷ ops) h = no_result rc (compares r rc n ∷ []) ops h
no_result rc (b ∷ []) (Cmp r n ∷ ops) h = no_result rc (compares r rc n ∷ b ∷ []) ops h
no_result rc (b ∷ a ∷ so_far) (Cmp r n ∷ ops) h = no_result rc (compares r rc n ∷ b ∷ a ∷ so_far) ops h
no_result rc [] (Not ∷ ops) h = refl
no_result rc (b ∷ so_far) (Not ∷ ops) h = no_result rc (not b ∷ so_far) ops h
no_result rc [] (And ∷ ops) h = refl
no_result rc (b ∷ []) (And ∷ ops) h = refl
no_result rc (b ∷ a ∷ so_far) (And ∷ ops) h = no_result rc ((a && b) ∷ so_far) ops h
no_result rc [] (Or ∷ ops) h = refl
no_result rc (b ∷ []) (Or ∷ ops) h = refl
no_result rc (b ∷ a ∷ so_far) (Or ∷ ops) h = no_result rc ((a || b) ∷ so_far) ops h

pub no_expression_met : (ops : List CondOp) (rc : ℤ) → ops ≢ [] → ¬ (IsPostfix ops) → meets ops rc ≡ false
no_expression_met [] rc some none = absurd (some refl)
no_expression_met (op ∷ ops) rc some none =
    ap (λ (r : Bool). leb (length (op ∷ ops)) 64 && r)
    (no_result rc [] (op ∷ ops) (λ one. none (postfix_from_depth (op ∷ ops) one)))
    ∙ and_false (leb (length (op ∷ ops)) 64)

pub too_long_met : (ops : List CondOp) (rc : ℤ) → 64 < length ops → meets ops rc ≡ false
too_long_met [] rc long = absurd (omega arith)
too_long_met (op ∷ ops) rc long =
    let is : leb (length (op ∷ ops)) 64 ≡ false = grind (arith, nat_tests) in rw is refl
