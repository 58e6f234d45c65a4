-- What a statement gives, by its shift.
use Rattle.std.proofs.Common.{◌≡◌, ℕ, ◌+◌, ◌-◌, ◌<◌, ◌≤◌, ◌&&◌, ◌||◌, Bool, true, false, not, cond, min, filter, slice_get, Option, Some, None}
use Rattle.std.proofs.Common.{refl, sym, ap, ◌∙◌, arith, eqb, eq-eqb}
use Rattle.std.specs.List.{list_any}
use Rattle.run_rules.proofs.Places.{any_none}
use Rattle.lemmas.proofs.Booleans.{and_false, and_true, or_false}
use Rattle.calendars.specs.Dates.{last_day}
use Rattle.calendars.specs.Free.{is_free, is_workday}
use Rattle.calendars.specs.Nth.{below, days_after, days_before}
use Rattle.calendars.specs.declared.FreeDays.{FreeDays}
use Rattle.composer_parser.specs.declared.Defs.{Defs}
use Rattle.composer_parser.specs.declared.OnDef.{OnDef}
use Rattle.composer_parser.specs.declared.Shift.{Shift}
use Rattle.composer_parser.specs.declared.Shift.TheVariants.{Ignore, Next, Prev}
use Rattle.model.specs.Words.{some_is}
use Rattle.run_cycles.specs.Items.{is_dated}
use Rattle.run_cycles.specs.Shifts.{all_days, shifted, gives, free_run}
use Rattle.run_cycles.proofs.Walks.{split, alike}
use Rattle.run_cycles.proofs.Nexts.{next_gives}
use Rattle.run_cycles.proofs.Prevs.{given, prev_gives, higher, lower}

module _ (d : Defs) (free : FreeDays) (on : OnDef) (day : ℕ) (within : day ≤ last_day) where
  by_shift : (s : Option Shift) → on.shift ≡ s
      → gives d free day on
      ≡ list_any (λ date. is_dated d free on date && some_is (shifted free s date) day) all_days
  by_shift s is =
      ap (λ t. list_any (λ date. is_dated d free on date && some_is (shifted free t date) day) all_days) is

  -- where a date becomes itself, or nothing
  only : (q : ℕ → Bool) → ((m : ℕ) → day < m → q m ≡ false) → ((m : ℕ) → m < day → q m ≡ false)
      → list_any q all_days ≡ q day
  only q above under =
      split q (last_day + 1) day (omega (arith, within)) above
      ∙ (ap (λ b. q day || b) (any_none q day under) ∙ or_false (q day))

  pub by_none : (b : Bool) → on.shift ≡ None → b ≡ is_dated d free on day → b ≡ gives d free day on
  by_none b is told =
      told
      ∙ sym
      (by_shift None is
      ∙ (only (λ date. is_dated d free on date && eqb date day)
      (λ m h. ap (λ c. is_dated d free on m && c) (higher m day h) ∙ and_false (is_dated d free on m))
      (λ m h. ap (λ c. is_dated d free on m && c) (lower m day h) ∙ and_false (is_dated d free on m))
      ∙ (ap (λ c. is_dated d free on day && c) (eq-eqb day day refl) ∙ and_true (is_dated d free on day))))

  -- a free day is dropped
  dropped : (m : ℕ) → eqb m day ≡ false → some_is (cond (is_free free m) None (Some m)) day ≡ false
  dropped m apart = go (is_free free m)
    where
      go : (c : Bool) → some_is (cond c None (Some m)) day ≡ false
      go true = refl
      go false = apart

  stays : some_is (cond (is_free free day) None (Some day)) day ≡ is_workday free day
  stays = go (is_free free day)
    where
      go : (c : Bool) → some_is (cond c None (Some day)) day ≡ not c
      go true = refl
      go false = eq-eqb day day refl

  and_flip : (p q : Bool) → (p && q) ≡ (q && p)
  and_flip true true = refl
  and_flip true false = refl
  and_flip false true = refl
  and_flip false false = refl

  pub by_ignore : (b : Bool) → on.shift ≡ Some Ignore → b ≡ (is_workday free day && is_dated d free on day)
      → b ≡ gives d free day on
  by_ignore b is told =
      told
      ∙ sym
      (by_shift (Some Ignore) is
      ∙ (only (λ date. is_dated d free on date && some_is (cond (is_free free date) None (Some date)) day)
      (λ m h. ap (λ c. is_dated d free on m && c) (dropped m (higher m day h)) ∙ and_false (is_dated d free on m))
      (λ m h. ap (λ c. is_dated d free on m && c) (dropped m (lower m day h)) ∙ and_false (is_dated d free on m))
      ∙ (ap (λ c. is_dated d free on day && c) stays ∙ and_flip (is_dated d free on day) (is_workday free day))))

  pub by_next : (b : Bool) → on.shift ≡ Some Next
      → b ≡ (is_workday free day && (is_dated d free on day || list_any (is_dated d free on) (free_run free (below day))))
      → b ≡ gives d free day on
  by_next b is told =
      told ∙ sym (by_shift (Some Next) is ∙ next_gives (is_free free) (is_dated d free on) last_day day within)

  -- the days before a day of the calendar are those below its number
  days_below : (m : ℕ) → m < last_day + 1 → days_before m ≡ below m
  days_below m low = let small : min m (last_day + 1) ≡ m = grind arith in ap below small

  instead_of : (m : ℕ) → m < last_day + 1
      → (is_dated d free on m && some_is (shifted free (Some Prev) m) day)
      ≡ given (is_free free) (is_dated d free on) day m
  instead_of m low =
      ap (λ days. is_dated d free on m
      && some_is (cond (is_free free m) (slice_get (filter (is_workday free) days) 0) (Some m)) day) (days_below m low)

  pub by_prev : (b : Bool) → on.shift ≡ Some Prev
      → b ≡ (is_workday free day && (is_dated d free on day || list_any (is_dated d free on) (free_run free (days_after day))))
      → b ≡ gives d free day on
  by_prev b is told =
      let sum : last_day + 1 ≡ day + 1 + (last_day - day) = omega (arith, within) in
      told
      ∙ sym
      (by_shift (Some Prev) is
      ∙ (alike (λ date. is_dated d free on date && some_is (shifted free (Some Prev) date) day)
      (given (is_free free) (is_dated d free on) day) (last_day + 1) instead_of
      ∙ (ap (λ n. list_any (given (is_free free) (is_dated d free on) day) (below n)) sum
      ∙ prev_gives (is_free free) (is_dated d free on) day (last_day - day))))
