-- Texts of numbers that are counted up.
use Rattle.std.proofs.Common.{◌≡◌, ◌+◌, ◌-◌, ◌<◌, ◌≤◌, ℕ, suc, zero, List, [], ◌∷◌, ◌++◌, flat_map, ap, sym, ◌∙◌}
use Rattle.std.proofs.Common.{append_assoc, append-nil, arith}
use Rattle.std.specs.List.{range_with_len}
use Rattle.lemmas.proofs.Numbers.{range_first, range_none}

-- one number further
pub further : (f : ℕ → List ℕ) (all out new : List ℕ) (a b : ℕ) → a < b
    → all ≡ out ++ flat_map f (range_with_len a (b - a)) → new ≡ out ++ f a
    → all ≡ new ++ flat_map f (range_with_len (a + 1) (b - (a + 1)))
further f all out new a b below is more =
    let rest = flat_map f (range_with_len (a + 1) (b - (a + 1))) in
    is ∙ ap (λ l. out ++ flat_map f l) (range_first a b below) ∙ sym (append_assoc out (f a) rest)
    ∙ ap (λ l. l ++ rest) (sym more)

-- all numbers are done
pub at_end : (f : ℕ → List ℕ) (all out : List ℕ) (a b : ℕ) → b ≤ a
    → all ≡ out ++ flat_map f (range_with_len a (b - a)) → out ≡ all
at_end f all out a b above is =
    sym (is ∙ ap (λ l. out ++ flat_map f l) (range_none a b above) ∙ append-nil out)

-- one number more at the end
pub range_more : (a n : ℕ) → range_with_len a (n + 1) ≡ range_with_len a n ++ (a + n) ∷ []
range_more a n = ap (range_with_len a) (let e : n + 1 ≡ suc n = omega arith in e) ∙ longer a n
  where
    longer : (a n : ℕ) → range_with_len a (suc n) ≡ range_with_len a n ++ (a + n) ∷ []
    longer a zero = let e : a ≡ a + 0 = omega arith in ap (λ x. x ∷ []) e
    longer a (suc n) =
        let e : a + 1 + n ≡ a + suc n = omega arith in
        ap (λ l. a ∷ l) (longer (a + 1) n ∙ ap (λ x. range_with_len (a + 1) n ++ x ∷ []) e)
