-- Where days stand in months, and that each day stands in one.
use Rattle.std.proofs.Common.{◌≡◌, ◌≢◌, ℕ, zero, suc, ◌+◌, ◌-◌, ◌*◌, ◌/◌, ◌%◌, ◌<◌, ◌≤◌, Bool, true, false, ◌&&◌, ◌||◌, ◌==◌, nat_le, nat_lt}
use Rattle.std.proofs.Common.{inl, inr, List, ◌∷◌, Option, Some, None, option_and_then, refl, ap, sym, ◌∙◌, subst, arith, ℤ, pos, negsuc, neg_ℤ, unsigned_abs, to_z, of_z, SFits, w16, ◌≤ℤ◌, ◌<ℤ◌}
use Rattle.std.proofs.lemmas.Bool.Decides.{eqb_tells, nat_tests}
use Rattle.std.proofs.lemmas.Bool.{cases_order}
use Rattle.std.proofs.lemmas.Int.{by_lt_z, to_z-of_z}
use Rattle.std.proofs.lemmas.Nat.{mod_below}
use Rattle.std.specs.List.{list_any}
use Rattle.std.specs.Option.{option_map_or}
use Rattle.lemmas.proofs.Numbers.{eq_apart}
use Rattle.lemmas.proofs.Booleans.{and_false, or_false}
use Rattle.syntax.specs.Numbers.{signed_of}
use Rattle.model.specs.Words.{some_is}
use Rattle.jiff_core.specs.declared.civil.date.Date.{Date}
use Rattle.jiff_core.specs.Calendar.{day_count, days_from_civil, days_in_month as jiff_length}
use Rattle.jiff_core.specs.Date.{epoch_day}
use Rattle.jiff_core.proofs.CalendarLemmas.{day_count-epoch, days_from_civil-day_count, days_of_months_all, day_count-lt_year}
use Rattle.jiff_core.proofs.DateLemmas.{civil, days_from_civil-max}
use Rattle.jiff_core.proofs.SignedLemmas.{signed_arith}
use Rattle.calendars.specs.Dates.{is_date, days_in_year, days_in_month, days_of_years, days_of_months, days_before, day_of}
use Rattle.calendars.specs.Nth.{below}
use Rattle.calendars.proofs.Calendar.{present, absent, months, day_number, first_day, no_months}
use Rattle.run_rules.specs.Months.{all_months, year_of, month_of, length_of, begin_of, is_in_month, kth, is_kth, IsPlaceOf}
use Rattle.run_rules.specs.Days.{is_counted, counts_month, is_day_of_month, is_place, has_in_month}
use Rattle.run_rules.specs.declared.months.MonthPlace.{MonthPlace}

-- months follow each other
months_step : (y k : ℕ) → days_of_months y (k + 1) ≡ days_of_months y k + days_in_month y (1 + k)
unfolding days_of_months
months_step y k = let same : k + 1 ≡ suc k = omega arith in rw same refl

whole_year : (y : ℕ) → days_of_months y 12 ≡ days_in_year y
whole_year y = sym (months y 12) ∙ days_of_months_all (pos y)

year_step : (n : ℕ) → days_of_years (n + 1) ≡ days_of_years n + days_in_year (1970 + n)
unfolding days_of_years
year_step n = let same : n + 1 ≡ suc n = omega arith in rw same refl

first_of_month : (m : ℕ) → begin_of m ≡ days_of_years (m / 12) + days_of_months (1970 + m / 12) (m % 12)
unfolding days_before
first_of_month m =
    let y : 1970 + m / 12 - 1970 ≡ m / 12 = omega arith in
    let k : 1 + m % 12 - 1 ≡ m % 12 = omega arith in
    rw (y, k) (omega arith)

-- the numbers of the next month
in_year : (m : ℕ) → m % 12 < 11 → ((m + 1) / 12 ≡ m / 12) × ((m + 1) % 12 ≡ m % 12 + 1)
in_year m h = (omega (arith, h), omega (arith, h))

at_end : (m : ℕ) → 11 ≤ m % 12 → (m % 12 ≡ 11) × ((m + 1) / 12 ≡ m / 12 + 1) × ((m + 1) % 12 ≡ 0)
at_end m h = (omega (arith, h), omega (arith, h), omega (arith, h))

begin_step : (m : ℕ) → begin_of (m + 1) ≡ begin_of m + length_of m
begin_step m = go (nat_lt (m % 12) 11) refl
  where
    go : (b : Bool) → nat_lt (m % 12) 11 ≡ b → begin_of (m + 1) ≡ begin_of m + length_of m
    go true h =
        let less : m % 12 < 11 = grind (arith, nat_tests) in
        let n = in_year m less in
        let a : begin_of (m + 1) ≡ days_of_years ((m + 1) / 12) + days_of_months (1970 + (m + 1) / 12) ((m + 1) % 12) =
        first_of_month (m + 1) in
        let b : days_of_years ((m + 1) / 12) ≡ days_of_years (m / 12) = ap (λ (k : ℕ). days_of_years k) n.0 in
        let c : days_of_months (1970 + (m + 1) / 12) ((m + 1) % 12) ≡ days_of_months (1970 + m / 12) (m % 12 + 1) =
        λ i. days_of_months (1970 + n.0 i) (n.1 i) in
        let d : days_of_months (1970 + m / 12) (m % 12 + 1) ≡ days_of_months (1970 + m / 12) (m % 12) + length_of m =
        months_step (1970 + m / 12) (m % 12) in
        let e : begin_of m ≡ days_of_years (m / 12) + days_of_months (1970 + m / 12) (m % 12) = first_of_month m in
        omega (arith, a, b, c, d, e)
    go false h =
        let least : 11 ≤ m % 12 = grind (arith, nat_tests) in
        let n = at_end m least in
        let a : begin_of (m + 1) ≡ days_of_years ((m + 1) / 12) + days_of_months (1970 + (m + 1) / 12) ((m + 1) % 12) =
        first_of_month (m + 1) in
        let b : days_of_years ((m + 1) / 12) ≡ days_of_years (m / 12 + 1) = ap (λ (k : ℕ). days_of_years k) n.1 in
        let b2 : days_of_years (m / 12 + 1) ≡ days_of_years (m / 12) + days_in_year (1970 + m / 12) = year_step (m / 12) in
        let c : days_of_months (1970 + (m + 1) / 12) ((m + 1) % 12) ≡ days_of_months (1970 + (m + 1) / 12) 0 =
        ap (λ (k : ℕ). days_of_months (1970 + (m + 1) / 12) k) n.2 in
        let c0 : days_of_months (1970 + (m + 1) / 12) 0 ≡ 0 = no_months (1970 + (m + 1) / 12) in
        let d : days_of_months (1970 + m / 12) (m % 12 + 1) ≡ days_of_months (1970 + m / 12) (m % 12) + length_of m =
        months_step (1970 + m / 12) (m % 12) in
        let twelve : m % 12 + 1 ≡ 12 = let eleven : m % 12 ≡ 11 = n.0 in omega (arith, eleven) in
        let d2 : days_of_months (1970 + m / 12) (m % 12 + 1) ≡ days_in_year (1970 + m / 12) =
        ap (λ (k : ℕ). days_of_months (1970 + m / 12) k) twelve ∙ whole_year (1970 + m / 12) in
        let e : begin_of m ≡ days_of_years (m / 12) + days_of_months (1970 + m / 12) (m % 12) = first_of_month m in
        omega (arith, a, b, b2, c, c0, d, d2, e)

begin_far : (m n : ℕ) → begin_of m + length_of m ≤ begin_of (m + 1 + n)
begin_far m zero =
    let same : begin_of (m + 1 + 0) ≡ begin_of (m + 1) =
    ap (λ (k : ℕ). begin_of k) (let e : m + 1 + 0 ≡ m + 1 = omega arith in e) in
    let step : begin_of (m + 1) ≡ begin_of m + length_of m = begin_step m in
    omega (arith, same, step)
begin_far m (suc n) =
    let same : begin_of (m + 1 + suc n) ≡ begin_of (m + 1 + n + 1) =
    ap (λ (k : ℕ). begin_of k) (let e : m + 1 + suc n ≡ m + 1 + n + 1 = omega arith in e) in
    let step : begin_of (m + 1 + n + 1) ≡ begin_of (m + 1 + n) + length_of (m + 1 + n) = begin_step (m + 1 + n) in
    let before : begin_of m + length_of m ≤ begin_of (m + 1 + n) = begin_far m n in
    omega (arith, same, step, before)

later : (m k : ℕ) → m < k → begin_of m + length_of m ≤ begin_of k
later m k h =
    let same : m + 1 + (k - (m + 1)) ≡ k = omega (arith, h) in
    subst (λ (n : ℕ). begin_of m + length_of m ≤ begin_of n) same (begin_far m (k - (m + 1)))

-- a day between two bounds
bounds : (a b day : ℕ) → (nat_le a day && nat_lt day b) ≡ true → (a ≤ day) × (day < b)
bounds a b day h = (grind (arith, nat_tests), grind (arith, nat_tests))

between : (a b day : ℕ) → a ≤ day → day < b → (nat_le a day && nat_lt day b) ≡ true
between a b day low high = grind (arith, nat_tests)

beyond : (a b day : ℕ) → b ≤ day → (nat_le a day && nat_lt day b) ≡ false
beyond a b day high = go (nat_le a day && nat_lt day b) refl
  where
    go : (t : Bool) → (nat_le a day && nat_lt day b) ≡ t → (nat_le a day && nat_lt day b) ≡ false
    go false e = e
    go true e = absurd (let h : day < b = (bounds a b day e).1 in omega (arith, h, high))

-- no two months have one day
one_month : (m k day : ℕ) → is_in_month m day ≡ true → is_in_month k day ≡ true → m < k → ⊥
one_month m k day here there less =
    let a : (begin_of m ≤ day) × (day < begin_of m + length_of m) =
    bounds (begin_of m) (begin_of m + length_of m) day here in
    let b : (begin_of k ≤ day) × (day < begin_of k + length_of k) =
    bounds (begin_of k) (begin_of k + length_of k) day there in
    let a1 : day < begin_of m + length_of m = a.1 in
    let b0 : begin_of k ≤ day = b.0 in
    let far : begin_of m + length_of m ≤ begin_of k = later m k less in
    omega (arith, a1, b0, far)

other_month : (m k day : ℕ) → m ≢ k → is_in_month k day ≡ true → is_in_month m day ≡ false
other_month m k day apart there = go (is_in_month m day) refl
  where
    go : (t : Bool) → is_in_month m day ≡ t → is_in_month m day ≡ false
    go false e = e
    go true e =
        absurd (elim (cases_order m k) [
          | inl same ↦ apart same
          | inr o ↦ elim o [ inl less ↦ one_month m k day e there less | inr more ↦ one_month k m day there e more ]
        ])

-- the month of a place has its day
own_month : (place : MonthPlace) (day : ℕ) → IsPlaceOf place day → is_in_month place.month day ≡ true
own_month place day h =
    let begins : day + 1 ≡ begin_of place.month + place.day = h.begins in
    let first : 1 ≤ place.day = h.from_one in
    let within : place.day ≤ place.length = h.within in
    let lasts : place.length ≡ length_of place.month = h.lasts in
    let low : begin_of place.month ≤ day = omega (arith, begins, first) in
    let high : day < begin_of place.month + length_of place.month = omega (arith, begins, within, lasts) in
    between (begin_of place.month) (begin_of place.month + length_of place.month) day low high

pub any_none : (p : ℕ → Bool) (n : ℕ) → ((m : ℕ) → m < n → p m ≡ false) → list_any p (below n) ≡ false
unfolding below
any_none p zero none = refl
any_none p (suc n) none =
    let own : n < suc n = omega arith in
    ap (λ (b : Bool). b || list_any p (below n)) (none n own)
    ∙ any_none p n (λ m low. let more : m < suc n = omega (arith, low) in none m more)

any_one : (p : ℕ → Bool) (n k : ℕ) → k < n → ((m : ℕ) → m ≢ k → p m ≡ false) → list_any p (below n) ≡ p k
unfolding below
any_one p zero k low others = absurd (omega (arith, low))
any_one p (suc n) k low others =
    elim (eqb_tells n k) [
      | inl e ↦
          ap (λ (b : Bool). p n || b)
          (any_none p n (λ m less. others m (λ same. let at_ : n ≡ k = e.1 in omega (arith, less, same, at_))))
          ∙ (or_false (p n) ∙ ap p e.1)
      | inr o ↦
          let less : k < n = let apart : n ≢ k = o.1 in omega (arith, low, apart) in
          ap (λ (b : Bool). b || list_any p (below n)) (others n o.1) ∙ any_one p n k less others
    ]

-- one day of a month and its first
day_step : (y m d : ℕ) → 1 ≤ d → days_before y m d + 1 ≡ days_before y m 1 + d
unfolding days_before
day_step y m d h = omega (arith, h)

same_pos : (a b : ℕ) → pos a ≡ pos b → a ≡ b
same_pos a b h = cc

-- no month has a day past the last
last_month : begin_of 96359 + length_of 96359 ≡ 2932897
last_month =
    let last : days_before 9999 12 31 ≡ 2932896 =
    same_pos (days_before 9999 12 31) 2932896
    (sym (day_number 9999 12 31 (omega arith) (omega arith)) ∙ days_from_civil-max) in
    let step : days_before 9999 12 31 + 1 ≡ days_before 9999 12 1 + 31 = day_step 9999 12 31 (omega arith) in
    let all : days_before 9999 12 1 + 31 ≡ 2932897 = omega (arith, last, step) in all

past_all : (m day : ℕ) → m < 96360 → 2932896 < day → is_in_month m day ≡ false
past_all m day low far =
    beyond (begin_of m) (begin_of m + length_of m) day
    (elim (eqb_tells m 96359) [
      | inl e ↦
          subst (λ (k : ℕ). begin_of k + length_of k ≤ day) (sym e.1)
          (subst (λ (k : ℕ). k ≤ day) (sym last_month) (let high : 2932897 ≤ day = omega (arith, far) in high))
      | inr o ↦
          let less : m < 96359 = let apart : m ≢ 96359 = o.1 in omega (arith, low, apart) in
          let step : begin_of m + length_of m ≤ begin_of 96359 = later m 96359 less in
          let end_ : begin_of 96359 ≤ 2932897 =
          subst (λ (k : ℕ). begin_of 96359 ≤ k) last_month
          (let more : begin_of 96359 ≤ begin_of 96359 + length_of 96359 = omega arith in more) in
          omega (arith, step, end_, far)
    ])

-- the parts of a month that the calendar has
parts : (m : ℕ) → m ≤ 96359 → (1970 ≤ year_of m) × (year_of m ≤ 9999) × (1 ≤ month_of m) × (month_of m ≤ 12)
parts m h = (omega arith, omega (arith, h), omega arith, omega arith)

is_there : (y m d : ℕ) → 1970 ≤ y → y ≤ 9999 → 1 ≤ m → m ≤ 12 → 1 ≤ d → d ≤ days_in_month y m → is_date y m d ≡ true
is_there y m d a b c e f g = grind (arith, nat_tests)

same_test : (a b c d : ℕ) → (a ≡ b → c ≡ d) → (c ≡ d → a ≡ b) → (a == b) ≡ (c == d)
same_test a b c d there back =
    elim (eqb_tells a b) [
      | inl e ↦ elim (eqb_tells c d) [ inl f ↦ e.0 ∙ sym f.0 | inr g ↦ absurd (g.1 (there e.1)) ]
      | inr o ↦ elim (eqb_tells c d) [ inl f ↦ absurd (o.1 (back f.1)) | inr g ↦ o.0 ∙ sym g.0 ]
    ]

-- the days of the month, at the place of one
module _ (place : MonthPlace) (day : ℕ) (h : IsPlaceOf place day) where
  number_of : (x : ℕ) → some_is (day_of (year_of place.month) (month_of place.month) x) day ≡ (place.day == x)
  number_of x = go (is_date (year_of place.month) (month_of place.month) x) refl
    where
      begins : day + 1 ≡ begin_of place.month + place.day
      begins = h.begins

      go : (t : Bool) → is_date (year_of place.month) (month_of place.month) x ≡ t
          → some_is (day_of (year_of place.month) (month_of place.month) x) day ≡ (place.day == x)
      go true e =
          let least : 1 ≤ x = first_day (year_of place.month) (month_of place.month) x e in
          let step : days_before (year_of place.month) (month_of place.month) x + 1 ≡ begin_of place.month + x =
          day_step (year_of place.month) (month_of place.month) x least in
          let at_ : day + 1 ≡ begin_of place.month + place.day = h.begins in
          ap (λ (o : Option ℕ). some_is o day) (sym (present (year_of place.month) (month_of place.month) x e))
          ∙ same_test (days_before (year_of place.month) (month_of place.month) x) day place.day x
          (λ same. omega (arith, step, at_, same)) (λ same. omega (arith, step, at_, same))
      go false e =
          ap (λ (o : Option ℕ). some_is o day) (sym (absent (year_of place.month) (month_of place.month) x e))
          ∙ sym (eq_apart place.day x (λ same.
          let p = parts place.month h.in_range in
          let within : place.day ≤ length_of place.month = subst (λ (k : ℕ). place.day ≤ k) h.lasts h.within in
          let here : is_date (year_of place.month) (month_of place.month) place.day ≡ true =
          is_there (year_of place.month) (month_of place.month) place.day p.0 p.1 p.2 p.3 h.from_one within in
          let both : true ≡ false =
          sym here ∙ (ap (λ (k : ℕ). is_date (year_of place.month) (month_of place.month) k) same ∙ e) in
          let never : ⊥ = cc in never))

  by_sign : (o : Option ℤ) → some_is (option_and_then (kth place.month) o) day ≡ option_map_or (is_kth place) o false
  by_sign None = refl
  by_sign (Some (pos zero)) =
      number_of 0 ∙ eq_apart place.day 0 (λ same. let first : 1 ≤ place.day = h.from_one in omega (arith, first, same))
  by_sign (Some (pos (suc k))) = number_of (suc k)
  by_sign (Some (negsuc k)) =
      let first : 1 ≤ place.day = h.from_one in
      let within : place.day ≤ place.length = h.within in
      let lasts : place.length ≡ length_of place.month = h.lasts in
      number_of (length_of place.month - k)
      ∙ same_test place.day (length_of place.month - k) (place.day + suc k) (place.length + 1)
      (λ same. omega (arith, first, within, lasts, same)) (λ same. omega (arith, first, within, lasts, same))

  pub same_day : (word : List ℕ) → is_day_of_month place.month day word ≡ is_place place word
  same_day word = by_sign (signed_of word)

-- a rule of days of months, at the places of its first day and of a day
pub in_month : (n : ℕ) (words : List (List ℕ)) (from day : ℕ) (first place : MonthPlace) → IsPlaceOf first from
    → IsPlaceOf place day
    → (is_counted n first.month place.month && list_any (is_place place) words) ≡ has_in_month n words from day
in_month n words from day first place f h =
    let low : place.month < 96360 = let most : place.month ≤ 96359 = h.in_range in omega (arith, most) in
    let low_first : first.month < 96360 = let most : first.month ≤ 96359 = f.in_range in omega (arith, most) in
    let counts : counts_month n from place.month ≡ is_counted n first.month place.month =
    any_one (λ k. is_in_month k from && is_counted n k place.month) 96360 first.month low_first
    (λ k apart. ap (λ (b : Bool). b && is_counted n k place.month)
    (other_month k first.month from apart (own_month first from f)))
    ∙ ap (λ (b : Bool). b && is_counted n first.month place.month) (own_month first from f) in
    let days : list_any (is_day_of_month place.month day) words ≡ list_any (is_place place) words =
    ap (λ (p : List ℕ → Bool). list_any p words) (λ i word. same_day place day h word i) in
    let all : has_in_month n words from day ≡ (counts_month n from place.month
    && list_any (is_day_of_month place.month day) words) =
    any_one (λ m. is_in_month m day && (counts_month n from m && list_any (is_day_of_month m day) words)) 96360
    place.month low
    (λ m apart. ap (λ (b : Bool). b && (counts_month n from m && list_any (is_day_of_month m day) words))
    (other_month m place.month day apart (own_month place day h)))
    ∙ ap (λ (b : Bool). b && (counts_month n from place.month && list_any (is_day_of_month place.month day) words))
    (own_month place day h) in
    sym (all ∙ (λ i. counts i && days i))

-- past the last day no month counts, and none has the day
pub no_first : (n : ℕ) (words : List (List ℕ)) (from day : ℕ) → 2932896 < from → false ≡ has_in_month n words from day
no_first n words from day far =
    sym (any_none (λ m. is_in_month m day && (counts_month n from m && list_any (is_day_of_month m day) words)) 96360
    (λ m low.
    ap (λ (b : Bool). is_in_month m day && (b && list_any (is_day_of_month m day) words))
    (any_none (λ k. is_in_month k from && is_counted n k m) 96360
    (λ k less. ap (λ (b : Bool). b && is_counted n k m) (past_all k from less far)))
    ∙ and_false (is_in_month m day)))

pub no_month : (n : ℕ) (words : List (List ℕ)) (from day : ℕ) → 2932896 < day → false ≡ has_in_month n words from day
no_month n words from day far =
    sym (any_none (λ m. is_in_month m day && (counts_month n from m && list_any (is_day_of_month m day) words)) 96360
    (λ m low. ap (λ (b : Bool). b && (counts_month n from m && list_any (is_day_of_month m day) words))
    (past_all m day low far)))

-- the date of a day from 1970 on
pub from_1970 : (d : Date) (day : ℕ) → epoch_day d ≡ pos day → pos 1970 ≤ℤ d.year
from_1970 d day is =
    by_lt_z d.year (pos 1970)
    (λ early.
    let before : day_count d.year d.month d.day < day_count (pos 1970) 1 1 =
    day_count-lt_year d.year d.month d.day (pos 1970) 1 1 (civil d) (omega arith) early in
    absurd (omega (arith, signed_arith, before, is, days_from_civil-day_count d.year d.month d.day, day_count-epoch)))
    (λ late. late)

fits_year : (y : ℕ) → y ≤ 9999 → SFits w16 (pos y)
fits_year y h = record { sfits = omega (arith, h) }

-- so many years later, with the month of the year and the day of the month
module _ (d : Date) (day : ℕ) (is : epoch_day d ≡ pos day) (place : MonthPlace) where
  at_year : (y : ℕ) → d.year ≡ pos y → 1970 ≤ y → place.month ≡ (y - 1970) * 12 + (d.month - 1) → place.day ≡ d.day
      → place.length ≡ days_in_month y d.month → IsPlaceOf place day
  at_year y year from month day_ length_ =
      let in_ = civil d in
      let one : 1 ≤ d.month = in_.1.0 in
      let twelve : d.month ≤ 12 = in_.1.1 in
      let first : 1 ≤ d.day = in_.2.0 in
      let most : pos y ≤ℤ pos 9999 = subst (λ (z : ℤ). z ≤ℤ pos 9999) year in_.0.1 in
      let late : y ≤ 9999 = omega (arith, signed_arith, most) in
      let quotient : place.month / 12 ≡ y - 1970 = omega (arith, month, one, twelve) in
      let rest : place.month % 12 ≡ d.month - 1 = omega (arith, month, one, twelve) in
      let the_year : year_of place.month ≡ y = omega (arith, quotient, from) in
      let the_month : month_of place.month ≡ d.month = omega (arith, rest, one) in
      let within : d.day ≤ days_in_month y d.month = subst (λ (z : ℤ). d.day ≤ jiff_length z d.month) year in_.2.1 in
      let length_is : length_of place.month ≡ days_in_month y d.month = λ i. days_in_month (the_year i) (the_month i) in
      let begin_is : begin_of place.month ≡ days_before y d.month 1 = λ i. days_before (the_year i) (the_month i) 1 in
      let number : day ≡ days_before y d.month d.day =
      same_pos day (days_before y d.month d.day)
      (sym is ∙ (ap (λ (z : ℤ). days_from_civil z d.month d.day) year ∙ day_number y d.month d.day from first)) in
      let step : days_before y d.month d.day + 1 ≡ days_before y d.month 1 + d.day = day_step y d.month d.day first in
      record {
        in_range = omega (arith, month, late, one, twelve);
        begins = omega (arith, number, step, begin_is, day_);
        from_one = omega (arith, first, day_);
        within = omega (arith, within, day_, length_);
        lasts = length_ ∙ sym length_is;
      }

  -- the year as a number without a sign
  pub at_date : pos 1970 ≤ℤ d.year → place.month ≡ (unsigned_abs (to_z w16 (of_z w16 d.year)) - 1970) * 12 + (d.month - 1)
      → place.day ≡ d.day → place.length ≡ jiff_length (to_z w16 (of_z w16 d.year)) d.month → IsPlaceOf place day
  at_date from month day_ length_ = go d.year refl
    where
      go : (z : ℤ) → d.year ≡ z → IsPlaceOf place day
      go (pos y) e =
          let signed : pos 1970 ≤ℤ pos y = subst (λ (z : ℤ). pos 1970 ≤ℤ z) e from in
          let late : 1970 ≤ y = omega (arith, signed_arith, signed) in
          let most : pos y ≤ℤ pos 9999 = let in_ = civil d in subst (λ (z : ℤ). z ≤ℤ pos 9999) e in_.0.1 in
          let low : y ≤ 9999 = omega (arith, signed_arith, most) in
          let same : to_z w16 (of_z w16 d.year) ≡ pos y =
          ap (λ (z : ℤ). to_z w16 (of_z w16 z)) e ∙ to_z-of_z w16 (pos y) (fits_year y low) in
          at_year y e late (month ∙ ap (λ (z : ℤ). (unsigned_abs z - 1970) * 12 + (d.month - 1)) same) day_
          (length_ ∙ ap (λ (z : ℤ). jiff_length z d.month) same)
      go (negsuc n) e =
          let signed : pos 1970 ≤ℤ negsuc n = subst (λ (z : ℤ). pos 1970 ≤ℤ z) e from in
          absurd (omega (arith, signed_arith, signed))
