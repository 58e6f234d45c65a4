-- What is no lower than the lowest so far is passed by, whatever it is.
use Rattle.std.proofs.Common.{◌≡◌, ◌∙◌, ◌∷◌, ℕ, Bool, List, None, Option, Some, ap, arith, cond, false, refl, true}
use Rattle.std.proofs.lemmas.Bool.Decides.{nat_tests}
use Rattle.std.specs.Option.{option_map_or}
use Rattle.std.specs.Prelude.{◌&&◌, nat_lt}
use Rattle.model.specs.Words.{least, lesser}
use Rattle.dependencies.proofs.Lowest.{lower_of, lowest_with, lowest_without, numbers_of}

lower_one : (b x : ℕ) → nat_lt x b ≡ false → cond (nat_lt b x) b x ≡ b
lower_one b x h = grind (arith, nat_tests)

same_lowest : (before : Option ℕ) (x : ℕ) → option_map_or (nat_lt x) before true ≡ false
    → Some (lesser x before) ≡ before
same_lowest None x h = cc
same_lowest (Some b) x h = ap Some (lower_one b x h)

pub lowest_past : {X : Type 0} (p q : X → Bool) (r : ℕ → Bool) (number : X → ℕ) (x : X) (xs : List X)
    (all before : Option ℕ) → option_map_or (nat_lt (number x)) before true ≡ false
    → all ≡ lower_of before (least (numbers_of p q r number (x ∷ xs)))
    → all ≡ lower_of before (least (numbers_of p q r number xs))
lowest_past {X} p q r number x xs all before h e = go (p x && (q x && r (number x))) refl
  where
    go : (b : Bool) → (p x && (q x && r (number x))) ≡ b → all ≡ lower_of before (least (numbers_of p q r number xs))
    go true t =
        lowest_with p q r number x xs all before t e
        ∙ ap (λ (o : Option ℕ). lower_of o (least (numbers_of p q r number xs))) (same_lowest before (number x) h)
    go false t = lowest_without p q r number x xs all before t e
