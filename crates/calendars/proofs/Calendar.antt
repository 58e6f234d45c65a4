-- The days of dates here are the day numbers of `jiff`.
use Rattle.std.proofs.Common.{◌≡◌, ℕ, zero, suc, ◌+◌, ◌-◌, ◌≤◌, Bool, true, false, Some, None, refl, ap, ◌∙◌, arith, ℤ, pos, ◌≤ℤ◌, to_z, w8, w16, ◌+ℤ◌, ◌-ℤ◌, unsigned_abs}
use Rattle.std.proofs.lemmas.Bool.{false≢true}
use Rattle.std.proofs.lemmas.Bool.Decides.{nat_tests}
use Rattle.std.proofs.lemmas.Int.{to_z_pos}
use Rattle.jiff.proofs.SpanFacts.{signed_arith}
use Rattle.jiff_core.specs.Calendar as jiff
use Rattle.jiff_core.specs.Calendar.{days_from_civil, day_count, weekday_number}
use Rattle.calendars.specs.Dates.{is_date, days_in_year, days_in_month, days_of_years, days_of_months, days_before, day_of, weekday}

pub absent : (y m d : ℕ) → is_date y m d ≡ false → None ≡ day_of y m d
unfolding day_of
absent y m d h = rw h refl

pub present : (y m d : ℕ) → is_date y m d ≡ true → Some (days_before y m d) ≡ day_of y m d
unfolding day_of
present y m d h = rw h refl

-- a month has at most 31 days
pub short_month : (y m d : ℕ) → is_date y m d ≡ true → d ≤ 31
short_month y m d h = let most : days_in_month y m ≤ 31 = grind arith in grind (arith, nat_tests)

pub first_day : (y m d : ℕ) → is_date y m d ≡ true → 1 ≤ d
first_day y m d h = grind (arith, nat_tests)

pub exists_there : (y m d : ℕ) → is_date y m d ≡ true → jiff.IsDate (pos y) (pos m) (pos d)
exists_there y m d h = grind (arith, nat_tests, signed_arith)

pub exists_here : (y m d : ℕ) → 1970 ≤ y → jiff.IsDate (pos y) (pos m) (pos d) → is_date y m d ≡ true
exists_here y m d from h = grind (arith, nat_tests, signed_arith)

no_years : days_of_years 0 ≡ 0
unfolding days_of_years
no_years = refl

pub year_here : (n : ℕ) → days_of_years (suc n) ≡ days_of_years n + days_in_year (1970 + n)
unfolding days_of_years
year_here n = refl

year_there : (k : ℕ) → jiff.days_of_years (suc k) ≡ jiff.days_of_years k + jiff.days_in_year (pos k -ℤ pos 10000)
unfolding jiff.days_of_years
year_there k = refl

years : (n first k : ℕ) → first ≡ 11970 → k ≡ first + n → jiff.days_of_years k ≡ jiff.days_of_years first + days_of_years n
years zero first k at e = let same : k ≡ first = omega (arith, e) in rw (same, no_years) (omega arith)
years (suc n) first k at e =
    let next : k ≡ suc (first + n) = omega (arith, e) in
    let year : pos (first + n) -ℤ pos 10000 ≡ pos (1970 + n) = omega (arith, signed_arith, at) in
    rw (next, year_there (first + n), year, year_here n, years n first (first + n) at refl) (omega arith)

pub months : (y n : ℕ) → jiff.days_of_months (pos y) n ≡ days_of_months y n
unfolding days_of_months jiff.days_of_months
months y zero = refl
months y (suc n) = let same : suc n ≡ 1 + n = omega arith in rw (months y n, same) refl

pub no_months : (y : ℕ) → days_of_months y 0 ≡ 0
unfolding days_of_months
no_months y = refl

counted : (y : ℤ) (m d : ℕ) → day_count y m d ≡ jiff.days_of_years (unsigned_abs (y +ℤ pos 10000)) + (jiff.days_of_months y (m - 1) + d - 1)
unfolding day_count
counted y m d = refl

numbered : (y : ℤ) (m d : ℕ) → days_from_civil y m d ≡ pos (day_count y m d) -ℤ pos (day_count (pos 1970) 1 1)
unfolding days_from_civil
numbered y m d = refl

first_count : day_count (pos 1970) 1 1 ≡ jiff.days_of_years 11970
first_count = rw (counted (pos 1970) 1 1, months 1970 0, no_months 1970) (omega arith)

whole_count : (y m d : ℕ) → 1970 ≤ y → 1 ≤ d → day_count (pos y) m d ≡ jiff.days_of_years 11970 + days_before y m d
unfolding days_before
whole_count y m d from some =
    let year : y + 10000 ≡ 11970 + (y - 1970) = omega arith in
    rw (counted (pos y) m d, months y (m - 1), years (y - 1970) 11970 (y + 10000) refl year) (omega arith)

apart : (z : ℤ) (first all more : ℕ) → all ≡ first + more → pos all -ℤ pos first ≡ pos more
apart z first all more e = omega (arith, signed_arith, e)

-- the number of a date from 1970 on is that of `jiff`
pub day_number : (y m d : ℕ) → 1970 ≤ y → 1 ≤ d → days_from_civil (pos y) m d ≡ pos (days_before y m d)
day_number y m d from some =
    rw (numbered (pos y) m d, first_count)
    (apart (pos 0) (jiff.days_of_years 11970) (day_count (pos y) m d) (days_before y m d) (whole_count y m d from some))

-- the parts as `jiff` takes them
passed : (y m d : ℕ) → y ≤ 9999 → m ≤ 12 → d ≤ 31 → jiff.IsDate (pos y) (pos m) (pos d) → jiff.IsDate (to_z w16 y) (to_z w8 m) (to_z w8 d)
passed y m d late far long h =
    rw (to_z_pos w16 y (omega (arith, late)), to_z_pos w8 m (omega (arith, far)), to_z_pos w8 d (omega (arith, long))) h

given : (y m d : ℕ) → y ≤ 9999 → m ≤ 12 → d ≤ 31 → jiff.IsDate (to_z w16 y) (to_z w8 m) (to_z w8 d) → jiff.IsDate (pos y) (pos m) (pos d)
given y m d late far long h =
    rw (to_z_pos w16 y (omega (arith, late)), to_z_pos w8 m (omega (arith, far)), to_z_pos w8 d (omega (arith, long))) at h

-- `jiff` has no such date, and so there is none
pub lacking : (y m d : ℕ) → y ≤ 9999 → m ≤ 12 → d ≤ 31 → (jiff.IsDate (to_z w16 y) (to_z w8 m) (to_z w8 d) → false ≡ true) → None ≡ day_of y m d
lacking y m d late far long none = go (is_date y m d) refl
  where
    go : (b : Bool) → is_date y m d ≡ b → None ≡ day_of y m d
    go true e = absurd (false≢true (none (passed y m d late far long (exists_there y m d e))))
    go false e = absent y m d e

pub distant : (y m d : ℕ) → (is_date y m d ≡ true → false ≡ true) → None ≡ day_of y m d
distant y m d none = go (is_date y m d) refl
  where
    go : (b : Bool) → is_date y m d ≡ b → None ≡ day_of y m d
    go true e = absurd (false≢true (none e))
    go false e = absent y m d e

-- the date of `jiff` with these parts has this number
pub found : (y m d n : ℕ) (dy : ℤ) (dm dd : ℕ) → 1970 ≤ y → y ≤ 9999 → m ≤ 12 → d ≤ 31
    → jiff.IsDate (to_z w16 y) (to_z w8 m) (to_z w8 d) → dy ≡ to_z w16 y → pos dm ≡ to_z w8 m → pos dd ≡ to_z w8 d
    → pos n ≡ days_from_civil dy dm dd → Some n ≡ day_of y m d
found y m d n dy dm dd from late far long there ey em ed en =
    let year : dy ≡ pos y = ey ∙ to_z_pos w16 y (omega (arith, late)) in
    let month : pos dm ≡ pos m = em ∙ to_z_pos w8 m (omega (arith, far)) in
    let day : pos dd ≡ pos d = ed ∙ to_z_pos w8 d (omega (arith, long)) in
    let em' : dm ≡ m = cc in
    let ed' : dd ≡ d = cc in
    let is = exists_here y m d from (given y m d late far long there) in
    let some = first_day y m d is in
    let same : pos n ≡ pos (days_before y m d) = en ∙ rw (year, em', ed') (day_number y m d from some) in
    let n' : n ≡ days_before y m d = cc in
    ap Some n' ∙ present y m d is

pub not_before : (y : ℕ) (dy : ℤ) (dm dd : ℕ) → 1970 ≤ y → y ≤ 9999 → dy ≡ to_z w16 y → 1 ≤ dd → pos 0 ≤ℤ days_from_civil dy dm dd
not_before y dy dm dd from late ey some =
    let year : dy ≡ pos y = ey ∙ to_z_pos w16 y (omega (arith, late)) in
    rw (year, day_number y dm dd from some) (omega (arith, signed_arith))

-- the day of the week of a day is the one that `jiff` gives its date
pub weekday_there : (n : ℕ) → weekday_number (pos n) ≡ weekday n
unfolding weekday_number
weekday_there n = refl
