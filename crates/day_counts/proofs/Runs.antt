-- Free days directly beside a day, by counts of workdays.
use Rattle.std.proofs.Common.{◌≡◌, ℕ, suc, ◌+◌, ◌-◌, ◌<◌, ◌≤◌, Bool, true, false, not, refl, ap, arith, inl, inr}
use Rattle.std.proofs.lemmas.Bool.{cases_lt}
use Rattle.calendars.specs.Dates.{last_day}
use Rattle.calendars.specs.Free.{is_free}
use Rattle.calendars.specs.declared.FreeDays.{FreeDays}
use Rattle.calendars.specs.declared.DayKind.TheVariants.{Workdays}
use Rattle.day_counts.specs.Counts.{count_before}
use Rattle.day_counts.specs.Runs.{IsRunBefore, IsRunBehind}
use Rattle.day_counts.proofs.Counting.{fails, passes, rises}

module _ (free : FreeDays) where
  abbrev works : ℕ → Bool
  works day = not (is_free free day)

  abbrev w : ℕ → ℕ
  w day = count_before free Workdays day

  -- where the count stays, the day is free
  flat : (day : ℕ) → w (suc day) ≤ w day → is_free free day ≡ true
  flat day same = go (is_free free day) refl
    where
      go : (b : Bool) → is_free free day ≡ b → is_free free day ≡ true
      go true is = is
      go false is = absurd (omega (arith, same, passes works day (ap not is)))

  -- and where it rises, the day is a workday
  steep : (day : ℕ) → w day < w (suc day) → is_free free day ≡ false
  steep day more = go (is_free free day) refl
    where
      go : (b : Bool) → is_free free day ≡ b → is_free free day ≡ false
      go false is = is
      go true is = absurd (omega (arith, more, fails works day (ap not is)))

  pub run_before_is : (day from : ℕ) → from ≤ day → w day ≤ w from → (0 < from → w (from - 1) < w day)
      → IsRunBefore free day from
  run_before_is day from low full first = record {
    ordered = low;
    all = λ one least high.
        let a : w from ≤ w one = rises works from one least in
        let b : w (suc one) ≤ w day = rises works (suc one) day (omega (arith, high)) in
        flat one (omega (arith, a, b, full));
    first = λ one is.
        let back : from - 1 ≡ one = omega (arith, is) in
        let further : from ≡ suc one = omega (arith, is) in
        let less : w (from - 1) < w day = first (omega (arith, is)) in
        steep one (omega (arith, less, full, ap w back, ap w further));
  }

  pub run_to_end : (day : ℕ) → day ≤ last_day → w (last_day + 1) ≤ w (day + 1) → IsRunBehind free day (last_day + 1)
  run_to_end day within full = record {
    ordered = omega (arith, within);
    within = omega arith;
    all = λ one least high.
        let a : w (day + 1) ≤ w one = rises works (day + 1) one least in
        let b : w (suc one) ≤ w (last_day + 1) = rises works (suc one) (last_day + 1) (omega (arith, high)) in
        flat one (omega (arith, a, b, full));
    last = λ less. absurd (omega (arith, less));
  }

  pub run_behind_is : (day next : ℕ) → day + 1 ≤ next → next ≤ last_day + 1 → w (day + 1) + 1 ≤ w next
      → (day + 1 < next → w (next - 1) < w (day + 1) + 1) → IsRunBehind free day (next - 1)
  run_behind_is day next least within full first =
      elim (cases_lt (day + 1) next) [
        | inl more ↦ from_less more (first more)
        | inr same ↦
            (let here : next ≡ day + 1 = omega (arith, least, same) in absurd (omega (arith, full, ap w here)))
      ]
    where
      from_less : day + 1 < next → w (next - 1) < w (day + 1) + 1 → IsRunBehind free day (next - 1)
      from_less low less = record {
        ordered = omega (arith, low);
        within = omega (arith, within);
        all = λ one from high.
            let a : w (day + 1) ≤ w one = rises works (day + 1) one from in
            let b : w (suc one) ≤ w (next - 1) = rises works (suc one) (next - 1) (omega (arith, high)) in
            flat one (omega (arith, a, b, less));
        last = λ there.
            let further : suc (next - 1) ≡ next = omega (arith, low) in
            steep (next - 1) (omega (arith, full, less, ap w further));
      }
