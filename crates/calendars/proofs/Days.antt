-- Each date is a day that there is.
use Rattle.std.proofs.Common.{◌≡◌, ◌≤◌, cond, ℕ, Bool, true, false, List, leb}
use Rattle.std.proofs.Common.{Option, Some, None, option_and_then, refl, ap, sym, subst, ◌∙◌, arith, neg_ℤ, pos, ◌≤ℤ◌}
use Rattle.std.proofs.lemmas.Bool.Decides.{nat_tests}
use Rattle.lemmas.proofs.Booleans.{and_parts}
use Rattle.jiff_core.specs.declared.civil.date.Date.{Date as Civil}
use Rattle.jiff_core.specs.Date.{epoch_day}
use Rattle.jiff_core.proofs.DateLemmas.{epoch_day_range}
use Rattle.jiff_core.proofs.SignedLemmas.{signed_arith}
use Rattle.calendars.specs.Dates.{IsDay, days_before, days_in_month, day_of, is_date}
use Rattle.calendars.specs.Written.{date_of, digits_of, before_slash, behind_slash}
use Rattle.calendars.proofs.Calendar.{day_number}

-- a year of at most four digits is a year that a date may have
pub year_within : (y : ℕ) → y ≤ 9999 → (neg_ℤ (pos 9999) ≤ℤ pos y) × (pos y ≤ℤ pos 9999)
year_within y h = (omega (arith, signed_arith), omega (arith, signed_arith, h))

there : (y m d : ℕ) → 1970 ≤ y → y ≤ 9999 → 1 ≤ m → m ≤ 12 → 1 ≤ d → d ≤ days_in_month y m → IsDay (days_before y m d)
there y m d from late some last low high =
    let own : Civil = record {
      year = pos y;
      month = m;
      day = d;
      year_in = year_within y late;
      month_in = (some, last);
      day_in = (low, high);
    } in
    let range = epoch_day_range own in
    let same : epoch_day own ≡ pos (days_before y m d) = day_number y m d from low in
    let most : epoch_day own ≤ℤ pos 2932896 = range.1 in
    let here : pos (days_before y m d) ≤ℤ pos 2932896 = subst (λ z. z ≤ℤ pos 2932896) same most in
    omega (arith, signed_arith, here)

at_most : (a b : ℕ) → leb a b ≡ true → a ≤ b
at_most a b h = grind (arith, nat_tests)

day_there : (y m d n : ℕ) → day_of y m d ≡ Some n → IsDay n
unfolding day_of
day_there y m d n e = by_test (is_date y m d) refl
  where
    by_test : (b : Bool) → is_date y m d ≡ b → IsDay n
    by_test true h =
        let p1 = and_parts (leb 1970 y) _ h in
        let p2 = and_parts (leb y 9999) _ p1.1 in
        let p3 = and_parts (leb 1 m) _ p2.1 in
        let p4 = and_parts (leb m 12) _ p3.1 in
        let p5 = and_parts (leb 1 d) (leb d (days_in_month y m)) p4.1 in
        let found : Some (days_before y m d) ≡ Some n = ap (λ b. cond b (Some (days_before y m d)) None) (sym h) ∙ e in
        let same : days_before y m d ≡ n = cc in
        subst (λ (k : ℕ). IsDay k) same
        (there y m d (at_most 1970 y p1.0) (at_most y 9999 p2.0) (at_most 1 m p3.0) (at_most m 12 p4.0) (at_most 1 d p5.0)
        (at_most d (days_in_month y m) p5.1))
    by_test false h = let no : None ≡ Some n = ap (λ b. cond b (Some (days_before y m d)) None) (sym h) ∙ e in cc

-- a date that is read is a day
pub date_there : (w : List ℕ) (n : ℕ) → date_of w ≡ Some n → IsDay n
unfolding date_of
date_there w n e = by_month (digits_of 2 (before_slash w)) e
  where
    by_year : (m d : ℕ) (o : Option ℕ) → option_and_then (λ y. day_of y m d) o ≡ Some n → IsDay n
    by_year m d None k = cc
    by_year m d (Some y) k = day_there y m d n k

    by_day : (m : ℕ) (o : Option ℕ)
        → option_and_then (λ d. option_and_then (λ y. day_of y m d) (digits_of 4 (behind_slash (behind_slash w)))) o ≡ Some n → IsDay n
    by_day m None k = cc
    by_day m (Some d) k = by_year m d (digits_of 4 (behind_slash (behind_slash w))) k

    by_month : (o : Option ℕ)
        → option_and_then (λ m. option_and_then (λ d. option_and_then (λ y. day_of y m d) (digits_of 4 (behind_slash (behind_slash w))))
        (digits_of 2 (before_slash (behind_slash w)))) o ≡ Some n → IsDay n
    by_month None k = cc
    by_month (Some m) k = by_day m (digits_of 2 (before_slash (behind_slash w))) k
