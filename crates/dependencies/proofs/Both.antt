-- Items that pass two tests, counted by the one or by the other.
use Rattle.std.proofs.Common.{◌≡◌, ◌∙◌, ◌∷◌, ◌+◌, ℕ, Bool, List, ap, arith, cond, false, length, nat_lt, sym, true}
use Rattle.std.proofs.lemmas.Bool.Decides.{nat_tests}
use Rattle.std.proofs.lemmas.List.Sums.{length-filter, sum_by-cons}
use Rattle.std.specs.Prelude.{count_by, filter}

-- those that pass are as many as their list is long
pub counted : {X : Type 0} (p : X → Bool) (xs : List X) → count_by p xs ≡ length (filter p xs)
counted p xs = sym (length-filter p xs)

-- whether fewer pass than there is room for, one item further
fewer : (n before after : ℕ) → after + 1 ≡ before → nat_lt (1 + n) before ≡ nat_lt n after
fewer n before after e = grind (arith, nat_tests)

too_many : (n room : ℕ) → room ≡ 0 → nat_lt (1 + n) room ≡ false
too_many n room e = grind (arith, nat_tests)

counted_more : {X : Type 0} (p : X → Bool) (x : X) (all left : List X) (b : Bool) → all ≡ x ∷ left → p x ≡ b
    → count_by p all ≡ cond b 1 0 + count_by p left
counted_more {X} p x all left b e f =
    ap (count_by p) e
    ∙ (sum_by-cons (λ (y : X). cond (p y) 1 0) x left ∙ ap (λ (t : Bool). cond t 1 0 + count_by p left) f)

-- each item takes one
pub room_taken : {X : Type 0} {x : X} (all left : List X) (before after : ℕ) (b : Bool) → all ≡ x ∷ left
    → after + 1 ≡ before → b ≡ nat_lt (length all) before → b ≡ nat_lt (length left) after
room_taken all left before after b e one h =
    let more : length all ≡ 1 + length left = omega (arith, ap length e) in
    h ∙ (ap (λ (n : ℕ). nat_lt n before) more ∙ fewer (length left) before after one)

-- and where there is no room it is one too many
pub room_full : {X : Type 0} {x : X} (all left : List X) (room : ℕ) (b : Bool) → all ≡ x ∷ left → room ≡ 0
    → b ≡ nat_lt (length all) room → b ≡ false
room_full all left room b e none h =
    let more : length all ≡ 1 + length left = omega (arith, ap length e) in
    h ∙ (ap (λ (n : ℕ). nat_lt n room) more ∙ too_many (length left) room none)

-- an item that does not pass leaves the room as it is
pub room_kept : {X : Type 0} (p : X → Bool) (x : X) (all left : List X) (room : ℕ) (b : Bool) → all ≡ x ∷ left
    → p x ≡ false → b ≡ nat_lt (count_by p all) room → b ≡ nat_lt (count_by p left) room
room_kept p x all left room b e f h =
    let more : count_by p all ≡ 0 + count_by p left = counted_more p x all left false e f in
    let same : count_by p all ≡ count_by p left = omega arith in
    h ∙ ap (λ (n : ℕ). nat_lt n room) same

-- one that passes takes one
pub room_less : {X : Type 0} (p : X → Bool) (x : X) (all left : List X) (before after : ℕ) (b : Bool)
    → all ≡ x ∷ left → p x ≡ true → after + 1 ≡ before → b ≡ nat_lt (count_by p all) before
    → b ≡ nat_lt (count_by p left) after
room_less p x all left before after b e f one h =
    h
    ∙ (ap (λ (n : ℕ). nat_lt n before) (counted_more p x all left true e f)
    ∙ fewer (count_by p left) before after one)

-- and is one too many where there is no room
pub no_room : {X : Type 0} (p : X → Bool) (x : X) (all left : List X) (room : ℕ) (b : Bool) → all ≡ x ∷ left
    → p x ≡ true → room ≡ 0 → b ≡ nat_lt (count_by p all) room → b ≡ false
no_room p x all left room b e f none h =
    h
    ∙ (ap (λ (n : ℕ). nat_lt n room) (counted_more p x all left true e f) ∙ too_many (count_by p left) room none)
