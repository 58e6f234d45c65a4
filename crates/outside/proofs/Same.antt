-- A file that stays is one that a write or a cut may leave.
use Rattle.std.proofs.Common.{◌≡◌, inl, inr, ℕ, ◌+◌, min, List, length, take, refl, sym, ◌∙◌, ap, subst, arith, ◌++◌, drop, Some, None}
use Rattle.std.specs.declared.option.Option.{Option}
use Rattle.std.proofs.lemmas.List.{take_all, length-take}
use Rattle.std.proofs.lemmas.Bool.{cases_lt}
use Rattle.outside.specs.Files.{Torn, Cut, Told}
use Rattle.outside.proofs.Remaining.{any_front}

pub torn_same : (place n : ℕ) (file : List ℕ) → Torn place n file file
torn_same place n file = record { before = before; after = refl; no_shorter = omega arith }
  where
    before : take (min place (length file)) file ≡ take place file
    before = elim (cases_lt place (length file)) [
      | inl le ↦ (let same : min place (length file) ≡ place = omega (arith, le) in ap (λ (k : ℕ). take k file) same)
      | inr gt ↦ (let same : min place (length file) ≡ length file = omega (arith, gt) in
          ap (λ (k : ℕ). take k file) same ∙ take_all (length file) file (omega arith) ∙ sym (take_all place file (omega (arith, gt))))
    ]

pub cut_same : (n : ℕ) (file : List ℕ) → Cut n file file
cut_same n file = record { before = refl; no_longer = omega arith }

-- and so is the file itself where it is told
pub told_same : (step : List ℕ → List ℕ → Type 0) → ((file : List ℕ) → step file file) → (seen : Option (List ℕ)) → Told step seen seen
told_same step same None = tt
told_same step same (Some file) = same file

-- a write that is made is one that a stop may cut short
pub torn_written : (place : ℕ) (piece old : List ℕ) → Torn place (length piece) old (take place old ++ piece ++ drop (place + length piece) old)
torn_written place piece old =
    subst (λ (l : List ℕ). Torn place (length piece) old (take place old ++ l ++ drop (place + length l) old)) (take_all (length piece) piece (omega arith)) (any_front place (length piece) piece old)

-- and so is a cut
pub cut_made : (n : ℕ) (old : List ℕ) → Cut n old (take n old)
cut_made n old = record { before = front; no_longer = omega (arith, length-take n old) }
  where
    front : take n (take n old) ≡ take n old
    front = take_all n (take n old) (omega (arith, length-take n old))
