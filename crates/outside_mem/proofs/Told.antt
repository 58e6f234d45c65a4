-- What a clock tells, with one reading more.
use Rattle.std.proofs.Common.{◌≡◌, ◌+◌, ◌-◌, ◌^◌, ◌==◌, ℕ, Bool, true, false, List, [], ◌∷◌, ◌++◌, map, refl, ◌∙◌, ap, arith, if◌then◌else◌, Some, None}
use Rattle.std.specs.List.{range_with_len}
use Rattle.std.proofs.lemmas.List.FromFn.{map-range_with_len_more}
use Rattle.outside.specs.Calls.{AddsOrEnds}
use Rattle.outside.specs.Causes.{one_more}
use Rattle.outside_mem.specs.Clocks.{reading_at, told}

pub adds : {X : Type 0} (a b : Bool) (x : X) (old new : List X) → (a ≡ true → b ≡ true) → (a ≡ false → b ≡ false → new ≡ old ++ x ∷ [])
    → AddsOrEnds x (if a then None else Some old) (if b then None else Some new)
adds true true x old new ends more = tt
adds true false x old new ends more = absurd (cc (ends refl))
adds false true x old new ends more = tt
adds false false x old new ends more = more refl refl

pub told_more : (listed : List ℕ) (made : ℕ)
    → AddsOrEnds (reading_at listed made) (told (record { listed = listed; made = made })) (told (record { listed = listed; made = one_more made }))
told_more listed made =
    adds (made == 2 ^ 64 - 1) (one_more made == 2 ^ 64 - 1) (reading_at listed made) (map (reading_at listed) (range_with_len 0 made)) (map (reading_at listed) (range_with_len 0 (one_more made))) ends more
  where
    ends : (made == 2 ^ 64 - 1) ≡ true → (one_more made == 2 ^ 64 - 1) ≡ true
    ends = grind arith

    more : (made == 2 ^ 64 - 1) ≡ false → (one_more made == 2 ^ 64 - 1) ≡ false → map (reading_at listed) (range_with_len 0 (one_more made)) ≡ map (reading_at listed) (range_with_len 0 made) ++ reading_at listed made ∷ []
    more not_now not_then =
        let is : one_more made ≡ made + 1 = grind (arith, not_now, not_then) in
        ap (λ (n : ℕ). map (reading_at listed) (range_with_len 0 n)) is ∙ map-range_with_len_more (reading_at listed) 0 made made (omega arith)
