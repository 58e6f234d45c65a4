-- A moment of a plan fits its field.
use Rattle.std.proofs.Common.{◌≡◌, ◌≤◌, ◌<◌, ◌+◌, ◌*◌, ◌^◌, ◌&&◌, ◌==◌, ℕ, zero, suc, ℤ, pos, negsuc, Bool, true, false, List, [], ◌∷◌}
use Rattle.std.proofs.Common.{Option, Some, None, refl, subst, arith, if◌then◌else◌, take, drop, codes, bytes_eq}
use Rattle.std.specs.Prelude.{nat_le, nat_lt, unwrap_or, option_and_then, unsigned_abs, int_le, neg_ℤ}
use Rattle.std.proofs.lemmas.Bool.Decides.{nat_tests}
use Rattle.jiff_core.proofs.SignedLemmas.{signed_arith}
use Rattle.lemmas.proofs.Booleans.{and_parts}
use Rattle.calendars.specs.Dates.{last_day}
use Rattle.composer_parser.specs.declared.Defs.{Defs}
use Rattle.composer_parser.specs.declared.Lined.{Lined}
use Rattle.plan_builder.specs.Times.{date_in, has_moment, moment_or_first, plan_day, seconds_in, zone_of}
use Rattle.plan_times.specs.Moments.{seconds_of}
use Rattle.plan_times.specs.Zones.{east_of, minutes_of, offset_of, signed, towards, two_digits, within_a_day}

-- An offset is less than a day to the west.

abbrev IsEast : ℤ → Type 0
IsEast (pos k) = Unit {0}
IsEast (negsuc k) = k < 1439

day_minutes : (h m n : ℕ) → within_a_day h m ≡ Some n → n < 1440
day_minutes h m n e = go (nat_lt h 24 && nat_lt m 60) refl e
  where
    go : (b : Bool) → (nat_lt h 24 && nat_lt m 60) ≡ b → (if b then Some (60 * h + m) else None) ≡ Some n → n < 1440
    go true is f =
        let parts = and_parts (nat_lt h 24) (nat_lt m 60) is in
        let hours : h < 24 = below h 24 parts.0 in
        let minutes : m < 60 = below m 60 parts.1 in
        let same : 60 * h + m ≡ n = cc in
        omega (arith, hours, minutes, same)
      where
        below : (a b : ℕ) → nat_lt a b ≡ true → a < b
        below a b low = grind (arith, nat_tests)
    go false is f = absurd (cc)

four_minutes : (o p : Option ℕ) (n : ℕ) → option_and_then (λ hours. option_and_then (within_a_day hours) p) o ≡ Some n → n < 1440
four_minutes None p n e = absurd (cc)
four_minutes (Some h) None n e = absurd (cc)
four_minutes (Some h) (Some m) n e = day_minutes h m n e

minutes_low : (w : List ℕ) (n : ℕ) → minutes_of w ≡ Some n → n < 1440
unfolding minutes_of
minutes_low [] n e = absurd (cc)
minutes_low (a ∷ []) n e = absurd (cc)
minutes_low (a ∷ b ∷ []) n e = absurd (cc)
minutes_low (a ∷ b ∷ c ∷ []) n e = absurd (cc)
minutes_low (a ∷ b ∷ c ∷ d ∷ []) n e = four_minutes (two_digits a b) (two_digits c d) n e
minutes_low (a ∷ b ∷ c ∷ d ∷ x ∷ w) n e = absurd (cc)

west_low : (n : ℕ) → n < 1440 → IsEast (neg_ℤ (pos n))
west_low zero h = tt
west_low (suc n) h = omega (arith, h)

towards_low : (sign n : ℕ) (z : ℤ) → n < 1440 → towards sign n ≡ Some z → IsEast z
towards_low sign n z h e = go (sign == 43) (sign == 45) e
  where
    go : (a b : Bool) → (if a then Some (pos n) else if b then Some (neg_ℤ (pos n)) else None) ≡ Some z → IsEast z
    go true b f = let same : pos n ≡ z = cc in subst IsEast same tt
    go false true f = let same : neg_ℤ (pos n) ≡ z = cc in subst IsEast same (west_low n h)
    go false false f = absurd (cc)

signed_low : (sign : ℕ) (w : List ℕ) (z : ℤ) → signed sign w ≡ Some z → IsEast z
signed_low sign w z e = go (minutes_of w) refl e
  where
    go : (o : Option ℕ) → minutes_of w ≡ o → option_and_then (towards sign) o ≡ Some z → IsEast z
    go None is f = absurd (cc)
    go (Some n) is f = towards_low sign n z (minutes_low w n is) f

offset_low : (w : List ℕ) (z : ℤ) → offset_of w ≡ Some z → IsEast z
offset_low [] z e = let same : pos 0 ≡ z = cc in subst IsEast same tt
offset_low (sign ∷ w) z e = signed_low sign w z e

east_low : (text : List ℕ) (z : ℤ) → east_of text ≡ Some z → IsEast z
unfolding east_of
east_low text z e = go (bytes_eq (take 3 text) (codes "UTC")) e
  where
    go : (b : Bool) → (if b then offset_of (drop 3 text) else None) ≡ Some z → IsEast z
    go true f = offset_low (drop 3 text) z f
    go false f = absurd (cc)

zone_low : (d : Defs) → IsEast (zone_of d)
zone_low d = go d.zone
  where
    text : (o : Option ℤ) → ((z : ℤ) → o ≡ Some z → IsEast z) → IsEast (unwrap_or o (pos 0))
    text None h = tt
    text (Some z) h = h z refl

    go : (o : Option (Lined (List ℕ))) → IsEast (unwrap_or (option_and_then (λ (z : Lined (List ℕ)). east_of z.item) o) (pos 0))
    go None = tt
    go (Some z) = text (east_of z.item) (east_low z.item)

-- Seconds from 1970 on.

seconds_low : (date minute : ℕ) (east z : ℤ) → IsEast east → date ≤ 2932896 → minute < 1440 → seconds_of date minute east ≡ z
    → int_le (pos 0) z ≡ true → unsigned_abs z < 2 ^ 64
seconds_low date minute (pos k) (pos n) low day time is late =
    let most : n ≤ 86400 * date + 60 * minute = omega (arith, signed_arith, is) in omega (arith, most, day, time)
seconds_low date minute (negsuc k) (pos n) low day time is late =
    let sum : n ≡ 86400 * date + 60 * minute + 60 * (k + 1) = omega (arith, signed_arith, is) in omega (arith, sum, low, day, time)
seconds_low date minute east (negsuc n) low day time is late = absurd (cc)

pub moment_low : (d : Defs) (day minute : ℕ) (days : Option ℕ) → minute < 1440 → moment_or_first (plan_day d day) minute days < 2 ^ 64
moment_low d day minute days time = go (has_moment (plan_day d day) minute days) refl
  where
    go : (b : Bool) → has_moment (plan_day d day) minute days ≡ b
        → unwrap_or (if b then Some (unsigned_abs (seconds_in (plan_day d day) minute days)) else None) 0 < 2 ^ 64
    go true is =
        let date : ℕ = date_in (plan_day d day) minute days in
        let parts =
        and_parts (nat_le date last_day) (int_le (pos 0) (seconds_in (plan_day d day) minute days)) is in
        let low : date ≤ 2932896 = at_most date parts.0 in
        seconds_low date minute (zone_of d) (seconds_in (plan_day d day) minute days) (zone_low d) low time refl parts.1
      where
        at_most : (n : ℕ) → nat_le n 2932896 ≡ true → n ≤ 2932896
        at_most n h = grind (arith, nat_tests)
    go false is = omega arith
