-- What holds of Booleans.
use Rattle.std.proofs.Common.{Bool, false, inl, inr, not, refl, true, ◌&&◌, ◌||◌, ◌≡◌, ◌⊎◌}

-- the two in the middle of four change places
pub or_middles : (a b c d : Bool) → ((a || b) || (c || d)) ≡ ((a || c) || (b || d))
or_middles true b c d = refl
or_middles false true true d = refl
or_middles false true false d = refl
or_middles false false c d = refl

-- a conjunction of three holds where each of them does
pub three_true : (a b c : Bool) → a ≡ true → b ≡ true → c ≡ true → (a && b && c) ≡ true
three_true a b c p q r = rw (p, q, r) refl

-- what was asked before may be asked again
pub and_again : (a b c : Bool) → (a && (b && (a && (b && c)))) ≡ (a && (b && c))
and_again true true c = refl
and_again true false c = refl
and_again false b c = refl

-- the first two of three change places
pub or_swap : (p q r : Bool) → (p || (q || r)) ≡ (q || (p || r))
or_swap true true r = refl
or_swap true false r = refl
or_swap false q r = refl

-- a disjunction of three is grouped from the left
pub or_regroup : (p q r : Bool) → (p || (q || r)) ≡ ((p || q) || r)
or_regroup true q r = refl
or_regroup false q r = refl

-- a disjunction of three is grouped from the right
pub or_assoc : (a b c : Bool) → ((a || b) || c) ≡ (a || (b || c))
or_assoc true b c = refl
or_assoc false b c = refl

-- a conjunction holds where both sides do
pub and_made : (a b : Bool) → a ≡ true → b ≡ true → (a && b) ≡ true
and_made true b h k = k
and_made false b h k = h

-- a disjunction holds where its left side does
pub or_made_left : (a b : Bool) → a ≡ true → (a || b) ≡ true
or_made_left true b h = refl
or_made_left false b h = cc

-- a disjunction holds where its right side does
pub or_made_right : (a b : Bool) → b ≡ true → (a || b) ≡ true
or_made_right true b h = refl
or_made_right false b h = h

-- where a conjunction holds, its left side does
pub and_left : (a b : Bool) → (a && b) ≡ true → a ≡ true
and_left true b h = refl
and_left false b h = cc

-- where a conjunction holds, its right side does
pub and_right : (a b : Bool) → (a && b) ≡ true → b ≡ true
and_right true b h = h
and_right false b h = cc

-- where a conjunction holds, both sides do
pub and_parts : (p q : Bool) → (p && q) ≡ true → (p ≡ true) × (q ≡ true)
and_parts true q h = (refl, h)
and_parts false q h = cc

-- what was asked before may be asked again
pub or_twice : (a b : Bool) → (a || b) ≡ (a || (a || b))
or_twice true b = refl
or_twice false b = refl

-- the sides of a disjunction change places
pub or_turned : (a b : Bool) → (a || b) ≡ (b || a)
or_turned true true = refl
or_turned true false = refl
or_turned false true = refl
or_turned false false = refl

-- where a disjunction fails, its left side does
pub neither_left : (a b : Bool) → (a || b) ≡ false → a ≡ false
neither_left true b h = cc
neither_left false b h = refl

-- where a disjunction fails, its right side does
pub neither_right : (a b : Bool) → (a || b) ≡ false → b ≡ false
neither_right true b h = cc
neither_right false b h = h

-- where a disjunction fails, both sides do
pub neither : (a b : Bool) → (a || b) ≡ false → (a ≡ false) × (b ≡ false)
neither true b h = cc
neither false b h = (refl, h)

-- where a disjunction holds, one of its sides does
pub or_cases : (a b : Bool) → (a || b) ≡ true → (a ≡ true) ⊎ (b ≡ true)
or_cases true b h = inl refl
or_cases false b h = inr h

-- what fails holds negated
pub not_made : (a : Bool) → a ≡ false → not a ≡ true
not_made a h = rw h refl

-- nothing both holds and fails
pub contrary_of : (b : Bool) → b ≡ true → b ≡ false → ⊥
contrary_of b x y = cc

-- a conjunction with what fails fails
pub and_false : (b : Bool) → (b && false) ≡ false
and_false true = refl
and_false false = refl

-- a conjunction with what holds is its other side
pub and_true : (b : Bool) → (b && true) ≡ b
and_true true = refl
and_true false = refl

-- a disjunction with what fails is its other side
pub or_false : (a : Bool) → (a || false) ≡ a
or_false true = refl
or_false false = refl

-- a disjunction with what holds holds
pub or_true : (a : Bool) → (a || true) ≡ true
or_true true = refl
or_true false = refl

-- what fails negated holds
pub not_fails : (b : Bool) → not b ≡ false → b ≡ true
not_fails true e = refl
not_fails false e = absurd (cc)

-- what holds negated fails
pub not_holds : (b : Bool) → not b ≡ true → b ≡ false
not_holds true h = cc
not_holds false h = refl

-- what holds is a disjunction with what holds
pub true_or : (a : Bool) → true ≡ (a || true)
true_or true = refl
true_or false = refl

-- nothing both holds and fails
pub contrary : {b : Bool} → b ≡ true → b ≡ false → ⊥
contrary x y = cc
