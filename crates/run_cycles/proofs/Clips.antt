-- What items give in a range of days, and ranges within the bounds of a run cycle.
use Rattle.std.proofs.Common.{◌≡◌, ℕ, ◌+◌, ◌-◌, ◌<◌, ◌≤◌, ◌&&◌, ◌==◌, Bool, true, false, nat_le, nat_lt, List, [], ◌∷◌}
use Rattle.std.proofs.Common.{Option, Some, None, refl, sym, ap, ◌∙◌, arith, le-leb}
use Rattle.std.proofs.lemmas.Bool.Decides.{nat_tests}
use Rattle.std.specs.Cmp.{both_ways}
use Rattle.std.specs.List.{list_any, range_with_len}
use Rattle.lemmas.proofs.Booleans.{and_made, and_parts, or_false}
use Rattle.lemmas.proofs.Numbers.{eqb_turned}
use Rattle.calendars.specs.Dates.{last_day}
use Rattle.calendars.specs.declared.FreeDays.{FreeDays}
use Rattle.composer_parser.specs.declared.CycleDef.{CycleDef}
use Rattle.composer_parser.specs.declared.Defs.{Defs}
use Rattle.composer_parser.specs.declared.OnDef.{OnDef}
use Rattle.composer_parser.specs.declared.OnItem.{OnItem}
use Rattle.day_counts.specs.Runs.{days_between}
use Rattle.day_counts.proofs.Ranges.{IsThere, any_swapped, made, some_in_range, there}
use Rattle.run_cycles.specs.Clips.{earlier_of, gives_within, last_of, later_of}
use Rattle.run_cycles.specs.Items.{first_of, gives, is_dated, is_from, is_to, is_valid}

-- one day alone
pub one_day : (q : ℕ → Bool) (day : ℕ) → list_any q (days_between day (day + 1)) ≡ q day
one_day q day = let one : day + 1 - day ≡ 1 = omega arith in ap (λ n. list_any q (range_with_len day n)) one ∙ or_false (q day)

pub any_day : (from end : ℕ) → nat_lt from end ≡ list_any (λ day. true) (days_between from end)
any_day from end =
    both_ways (nat_lt from end) (list_any (λ day. true) (days_between from end))
    (λ h. let low : from < end = grind (arith, nat_tests) in made (λ day. true) from end from (omega arith) low refl)
    (λ h.
    let one : IsThere (λ day. true) from end = there (λ day. true) from end h in
    let low : from < end = omega (arith, one.low, one.high) in
    grind (arith, nat_tests))

nowhere : (days : List ℕ) → false ≡ list_any (λ day. false) days
nowhere [] = refl
nowhere (day ∷ days) = nowhere days

pub no_day : (from end : ℕ) → false ≡ list_any (λ day. false) (days_between from end)
no_day from end = nowhere (days_between from end)

pub one_date : (date from end : ℕ)
    → (nat_le from date && nat_lt date end) ≡ list_any (λ day. day == date) (days_between from end)
one_date date from end =
    some_in_range (Some date) from end ∙ (λ i. list_any (λ day. eqb_turned date day i) (days_between from end))

-- the bounds of a run cycle, one by one
valid_by : (cycle : Option CycleDef) (day : ℕ) → is_valid cycle day ≡ (is_from (first_of cycle) day && is_to (last_of cycle) day)
valid_by None day = refl
valid_by (Some c) day = refl

from_low : (first : Option ℕ) (from day : ℕ) → day ≤ last_day → from ≤ day → is_from first day ≡ true → later_of first from ≤ day
from_low None from day within low h = low
from_low (Some d) from day within low h =
    let least : d ≤ day = grind (arith, nat_tests) in
    omega (arith, within, low, least)

low_from : (first : Option ℕ) (from day : ℕ) → day ≤ last_day → later_of first from ≤ day → (from ≤ day) × (is_from first day ≡ true)
low_from None from day within low = (low, refl)
low_from (Some d) from day within low =
    let least : d ≤ day = omega (arith, within, low) in
    let other : from ≤ day = omega (arith, low) in
    (other, le-leb d day least)

to_high : (last : Option ℕ) (end day : ℕ) → end ≤ last_day + 1 → day < end → is_to last day ≡ true → day < earlier_of last end
to_high None end day within high h = high
to_high (Some d) end day within high h =
    let most : day ≤ d = grind (arith, nat_tests) in
    omega (arith, within, high, most)

high_to : (last : Option ℕ) (end day : ℕ) → day < earlier_of last end → (day < end) × (is_to last day ≡ true)
high_to None end day high = (high, refl)
high_to (Some d) end day high =
    let most : day ≤ d = omega (arith, high) in
    let other : day < end = omega (arith, high) in
    (other, le-leb day d most)

below_end : (last : Option ℕ) (end : ℕ) → earlier_of last end ≤ end
below_end None end = omega arith
below_end (Some d) end = omega arith

-- the days of a range within the bounds of a run cycle are a range
clipped : (q : ℕ → Bool) (cycle : Option CycleDef) (from end : ℕ) → end ≤ last_day + 1
    → list_any (λ day. is_valid cycle day && q day) (days_between from end)
    ≡ list_any q (days_between (later_of (first_of cycle) from) (earlier_of (last_of cycle) end))
clipped q cycle from end within =
    both_ways (list_any (λ day. is_valid cycle day && q day) (days_between from end))
    (list_any q (days_between (later_of (first_of cycle) from) (earlier_of (last_of cycle) end))) forth back
  where
    forth : list_any (λ day. is_valid cycle day && q day) (days_between from end) ≡ true
        → list_any q (days_between (later_of (first_of cycle) from) (earlier_of (last_of cycle) end)) ≡ true
    forth h =
        let one : IsThere (λ day. is_valid cycle day && q day) from end =
        there (λ day. is_valid cycle day && q day) from end h in
        let parts = and_parts (is_valid cycle one.day) (q one.day) one.passes in
        let bounds = and_parts (is_from (first_of cycle) one.day) (is_to (last_of cycle) one.day)
        (sym (valid_by cycle one.day) ∙ parts.0) in
        made q (later_of (first_of cycle) from) (earlier_of (last_of cycle) end) one.day
        (from_low (first_of cycle) from one.day (omega (arith, within, one.high)) one.low bounds.0)
        (to_high (last_of cycle) end one.day within one.high bounds.1) parts.1

    back : list_any q (days_between (later_of (first_of cycle) from) (earlier_of (last_of cycle) end)) ≡ true
        → list_any (λ day. is_valid cycle day && q day) (days_between from end) ≡ true
    back h =
        let one : IsThere q (later_of (first_of cycle) from) (earlier_of (last_of cycle) end) =
        there q (later_of (first_of cycle) from) (earlier_of (last_of cycle) end) h in
        let high = high_to (last_of cycle) end one.day one.high in
        let low = low_from (first_of cycle) from one.day (omega (arith, within, high.0)) one.low in
        made (λ day. is_valid cycle day && q day) from end one.day low.0 high.0
        (and_made (is_valid cycle one.day) (q one.day)
        (valid_by cycle one.day ∙ and_made (is_from (first_of cycle) one.day) (is_to (last_of cycle) one.day) low.1 high.1)
        one.passes)

-- a statement gives a day of a range where one of its items does within the bounds
pub dated_in_range : (d : Defs) (free : FreeDays) (on : OnDef) (from end : ℕ) → end ≤ last_day + 1
    → list_any (gives_within d free (first_of on.cycle) (later_of (first_of on.cycle) from) (earlier_of (last_of on.cycle) end)) on.items
    ≡ list_any (is_dated d free on) (days_between from end)
dated_in_range d free on from end within =
    any_swapped (λ (item : OnItem) day. gives d free (first_of on.cycle) day item) on.items
    (days_between (later_of (first_of on.cycle) from) (earlier_of (last_of on.cycle) end))
    ∙ sym (clipped (λ day. list_any (gives d free (first_of on.cycle) day) on.items) on.cycle from end within)
