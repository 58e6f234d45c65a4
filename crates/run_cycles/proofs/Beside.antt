-- Dates on a day and on the free days directly beside it, as a range.
use Rattle.std.proofs.Common.{◌≡◌, ℕ, zero, suc, ◌+◌, ◌-◌, ◌<◌, ◌≤◌, ◌&&◌, ◌||◌, Bool, true, false, cond, take_while, [], ◌∷◌}
use Rattle.std.proofs.Common.{refl, sym, ap, subst, ◌∙◌, arith, inl, inr}
use Rattle.std.proofs.lemmas.Bool.{cases_lt}
use Rattle.std.proofs.lemmas.List.Sums.{take_while-cons}
use Rattle.std.specs.List.{list_any, range_with_len}
use Rattle.lemmas.proofs.Booleans.{or_turned}
use Rattle.calendars.specs.Dates.{last_day}
use Rattle.calendars.specs.Free.{is_free}
use Rattle.calendars.specs.Nth.{below, days_after}
use Rattle.calendars.specs.declared.FreeDays.{FreeDays}
use Rattle.day_counts.specs.Runs.{IsRunBefore, IsRunBehind, days_between}
use Rattle.day_counts.proofs.Ranges.{any_last}
use Rattle.run_cycles.specs.Shifts.{free_run}
use Rattle.run_cycles.proofs.Walks.{run_none, run_seen}

module _ (free dated : ℕ → Bool) where
  -- down to the first of the free days
  down : (from : ℕ) → ((one : ℕ) → one + 1 ≡ from → free one ≡ false) → (k : ℕ)
      → ((one : ℕ) → from ≤ one → one < from + k → free one ≡ true)
      → list_any dated (take_while free (below (from + k))) ≡ list_any dated (range_with_len from k)
  down from first zero all =
      let same : from + 0 ≡ from = omega arith in
      ap (λ n. list_any dated (take_while free (below n))) same ∙ at_first from first
    where
      at_first : (n : ℕ) → ((one : ℕ) → one + 1 ≡ n → free one ≡ false) → list_any dated (take_while free (below n)) ≡ false
      at_first n stops =
          elim (cases_lt 0 n) [
            | inl some ↦
                (let back : n - 1 + 1 ≡ n = omega (arith, some) in
                run_seen free dated n some
                ∙ ap (λ b. b && (dated (n - 1) || list_any dated (take_while free (below (n - 1))))) (stops (n - 1) back))
            | inr none ↦ run_none free dated n none
          ]
  down from first (suc k) all =
      let next : from + suc k ≡ suc (from + k) = omega arith in
      let some : 0 < from + suc k = omega arith in
      let back : from + suc k - 1 ≡ from + k = omega arith in
      let here : free (from + k) ≡ true = all (from + k) (omega arith) (omega arith) in
      run_seen free dated (from + suc k) some
      ∙ (ap (λ n. free n && (dated n || list_any dated (take_while free (below n)))) back
      ∙ (ap (λ b. b && (dated (from + k) || list_any dated (take_while free (below (from + k))))) here
      ∙ (ap (λ b. dated (from + k) || b) (down from first k (λ one low high. all one low (omega (arith, high))))
      ∙ (or_turned (dated (from + k)) (list_any dated (range_with_len from k)) ∙ sym (any_last dated k from)))))

  -- up to the last of them
  up : (len k from : ℕ) → k ≤ len → ((one : ℕ) → from ≤ one → one < from + k → free one ≡ true)
      → (k < len → free (from + k) ≡ false)
      → list_any dated (take_while free (range_with_len from len)) ≡ list_any dated (range_with_len from k)
  up zero zero from short all stops = refl
  up zero (suc k) from short all stops = absurd (omega (arith, short))
  up (suc len) zero from short all stops =
      let same : from + 0 ≡ from = omega arith in
      let here : free from ≡ false = sym (ap free same) ∙ stops (omega arith) in
      ap (list_any dated) (take_while-cons free from (range_with_len (from + 1) len))
      ∙ ap (λ (b : Bool). list_any dated (cond b (from ∷ take_while free (range_with_len (from + 1) len)) [])) here
  up (suc len) (suc k) from short all stops =
      let here : free from ≡ true = all from (omega arith) (omega arith) in
      let next : from + 1 + k ≡ from + suc k = omega arith in
      ap (list_any dated) (take_while-cons free from (range_with_len (from + 1) len))
      ∙ (ap (λ (b : Bool). list_any dated (cond b (from ∷ take_while free (range_with_len (from + 1) len)) [])) here
      ∙ ap (λ b. dated from || b)
      (up len k (from + 1) (omega (arith, short)) (λ one low high. all one (omega (arith, low)) (omega (arith, high)))
      (λ less. ap free next ∙ stops (omega (arith, less)))))

pub before_it : (free : FreeDays) (dated : ℕ → Bool) (day from : ℕ) → IsRunBefore free day from
    → list_any dated (days_between from (day + 1)) ≡ (dated day || list_any dated (free_run free (below day)))
before_it free dated day from run =
    let sum : from + (day - from) ≡ day = omega (arith, run.ordered) in
    let count : day + 1 - from ≡ suc (day - from) = omega (arith, run.ordered) in
    let lower : list_any dated (free_run free (below day)) ≡ list_any dated (range_with_len from (day - from)) =
    subst (λ n. list_any dated (take_while (is_free free) (below n)) ≡ list_any dated (range_with_len from (day - from))) sum
    (down (is_free free) dated from run.first (day - from)
    (λ one low high. run.all one low (omega (arith, high, sum)))) in
    ap (λ k. list_any dated (range_with_len from k)) count
    ∙ (any_last dated (day - from) from
    ∙ (ap (λ n. list_any dated (range_with_len from (day - from)) || dated n) sum
    ∙ (or_turned (list_any dated (range_with_len from (day - from))) (dated day)
    ∙ ap (λ b. dated day || b) (sym lower))))

pub behind_it : (free : FreeDays) (dated : ℕ → Bool) (day end : ℕ) → IsRunBehind free day end
    → list_any dated (days_between day end) ≡ (dated day || list_any dated (free_run free (days_after day)))
behind_it free dated day end run =
    let count : end - day ≡ suc (end - (day + 1)) = omega (arith, run.ordered) in
    let sum : day + 1 + (end - (day + 1)) ≡ end = omega (arith, run.ordered) in
    let higher : list_any dated (free_run free (days_after day)) ≡ list_any dated (range_with_len (day + 1) (end - (day + 1))) =
    up (is_free free) dated (last_day - day) (end - (day + 1)) (day + 1) (omega (arith, run.ordered, run.within))
    (λ one low high. run.all one low (omega (arith, high, sum)))
    (λ less. ap (is_free free) sum ∙ run.last (omega (arith, less, run.ordered))) in
    ap (λ k. list_any dated (range_with_len day k)) count ∙ ap (λ b. dated day || b) (sym higher)
