-- How many free days stand before a day.
use Rattle.std.proofs.Common.{◌≡◌, ℕ, zero, suc, ◌+◌, ◌≤◌, ◌&&◌, ◌||◌, ◌==◌, Bool, true, false, not, cond, List, refl, sym, ap, arith}
use Rattle.std.proofs.lemmas.Bool.Decides.{nat_tests}
use Rattle.calendars.specs.Dates.{weekday}
use Rattle.calendars.specs.Free.{is_free}
use Rattle.calendars.specs.Sets.{has}
use Rattle.calendars.specs.declared.FreeDays.{FreeDays}
use Rattle.day_counts.specs.Counts.{IsExtra, rank}
use Rattle.day_counts.specs.Weeks.{saturdays_before, sundays_before}
use Rattle.day_counts.proofs.Sets.{Rises}
use Rattle.day_counts.proofs.Counting.{count, count-zero, complement, one_more}
use Rattle.day_counts.proofs.Ranks.{rank-zero, rank-more}
use Rattle.day_counts.proofs.Weekdays.{one_if, saturdays, sundays}

weekly_more : (on test : Bool) (m k : ℕ) → k ≡ m + one_if test → cond on k 0 ≡ cond on m 0 + one_if (on && test)
weekly_more true test m k h = h
weekly_more false test m k h = refl

three : (a b c : Bool) → (a ≡ true → b ≡ true → ⊥)
    → one_if (a || (b || c)) ≡ one_if a + (one_if b + one_if (c && not (a || b)))
three true true c apart = absurd (apart refl refl)
three true false true apart = refl
three true false false apart = refl
three false true true apart = refl
three false true false apart = refl
three false false true apart = refl
three false false false apart = refl

two_days : (sa su : Bool) (day : ℕ) → (sa && day == 5) ≡ true → (su && day == 6) ≡ true → ⊥
two_days true true day first second = grind (arith, nat_tests)
two_days false su day first second = cc
two_days true false day first second = cc

nothing : (b : Bool) (n : ℕ) → n ≡ 0 → cond b n 0 ≡ n
nothing true n none = refl
nothing false n none = sym none

-- the free Saturdays and Sundays, and the other free dates
pub frees : (free : FreeDays) (extra : List ℕ) → Rises extra → IsExtra free extra → (n : ℕ)
    → count (is_free free) n
    ≡ cond free.sa (saturdays_before n) 0 + cond free.su (sundays_before n) 0 + rank extra n
frees free extra up is zero =
    omega (arith, count-zero (is_free free), nothing free.sa (saturdays_before 0) refl, nothing free.su (sundays_before 0) refl, rank-zero extra)
frees free extra up is (suc n) =
    omega (
      arith,
      frees free extra up is n,
      one_more (is_free free) n,
      three (free.sa && weekday n == 5) (free.su && weekday n == 6) (has free.dates n) (two_days free.sa free.su (weekday n)),
      weekly_more free.sa (weekday n == 5) (saturdays_before n) (saturdays_before (suc n)) (saturdays n),
      weekly_more free.su (weekday n == 6) (sundays_before n) (sundays_before (suc n)) (sundays n),
      rank-more extra up n,
      ap one_if (is.same n),
    )

pub few : (f : ℕ → Bool) (n : ℕ) → count f n ≤ n
few f n = omega (arith, complement f n)

-- so many of them are no more than the days
pub sum_few : (free : FreeDays) (extra : List ℕ) → Rises extra → IsExtra free extra → (n a b k : ℕ)
    → a ≡ cond free.sa (saturdays_before n) 0 → b ≡ cond free.su (sundays_before n) 0 → k ≡ rank extra n → a + b + k ≤ n
sum_few free extra up is n a b k first second third =
    omega (arith, first, second, third, frees free extra up is n, few (is_free free) n)
