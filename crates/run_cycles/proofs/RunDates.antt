-- The days between two on which a stream runs.
use Rattle.std.proofs.Common.{◌≡◌, ℕ, ◌+◌, ◌-◌, ◌<◌, ◌≤◌, ◌&&◌, not, Bool, true, false, nat_le, min}
use Rattle.std.proofs.Common.{List, filter, Some, None, option_map, slice_get, refl, sym, ap, ◌∙◌, arith}
use Rattle.std.proofs.lemmas.Bool.Decides.{nat_tests}
use Rattle.std.specs.List.{range_with_len}
use Rattle.std.specs.Option.{option_map_or}
use Rattle.calendars.specs.Dates.{last_day}
use Rattle.calendars.specs.Sets.{has}
use Rattle.run_cycles.proofs.Ranges.{in_filter, bounds_same}
use Rattle.calendars.specs.declared.FreeDays.{FreeDays}
use Rattle.composer_parser.specs.declared.Lined.{Lined}
use Rattle.composer_parser.specs.declared.Defs.{Defs}
use Rattle.composer_parser.specs.declared.ScheduleDef.{ScheduleDef}
use Rattle.workload_defs.specs.Days.{free_of, free_of_stream}
use Rattle.run_cycles.specs.Runs.{any_gives, runs_of, runs}

pub dates_of : (d : Defs) (n from to day : ℕ) (set items list : List ℕ) (len : ℕ) → len ≡ min to last_day + 1 - from
    → list ≡ items → items ≡ filter (runs d n) (range_with_len from len) → has set day ≡ has list day
    → has set day ≡ (nat_le from day && (nat_le day to && runs d n day))
dates_of d n from to day set items list len is same all told =
    told
    ∙ (ap (λ (l : List ℕ). has l day) (same ∙ all)
    ∙ (in_filter (runs d n) len from day
    ∙ bounds_same from to last_day len day
    (option_map_or (λ (s : Lined ScheduleDef). runs_of d s.item day) (slice_get d.schedules n) false) is))

-- a stream at its place
same_free : (a b : FreeDays) → Some a ≡ Some b → a ≡ b
same_free a b h = cc

pub runs_in : (d : Defs) (n day : ℕ) (b : Bool) (free : FreeDays) (s : Lined ScheduleDef) → day ≤ last_day
    → slice_get d.schedules n ≡ Some s → Some free ≡ free_of d n
    → b ≡ (any_gives d free s.item.ons false day && not (any_gives d free s.item.ons true day))
    → b ≡ runs d n day
runs_in d n day b free s low got given told =
    let own : free ≡ free_of_stream d s.item =
    same_free free (free_of_stream d s.item)
    (given ∙ ap (option_map (λ (x : Lined ScheduleDef). free_of_stream d x.item)) got) in
    let test : nat_le day last_day ≡ true = grind (arith, nat_tests) in
    told
    ∙ (ap (λ (f : FreeDays). any_gives d f s.item.ons false day && not (any_gives d f s.item.ons true day)) own
    ∙ sym (λ i. test i
    && option_map_or (λ (x : Lined ScheduleDef). runs_of d x.item day) (got i) false))

pub runs_late : (d : Defs) (n day : ℕ) → last_day < day → false ≡ runs d n day
runs_late d n day late =
    let test : nat_le day last_day ≡ false = grind (arith, nat_tests) in
    sym (ap (λ c. c && option_map_or (λ (x : Lined ScheduleDef). runs_of d x.item day) (slice_get d.schedules n) false) test)

pub runs_none : (d : Defs) (n day : ℕ) → slice_get d.schedules n ≡ None → false ≡ runs d n day
runs_none d n day none =
    sym (ap (λ o. nat_le day last_day && option_map_or (λ (x : Lined ScheduleDef). runs_of d x.item day) o false) none
    ∙ and_false (nat_le day last_day))
  where
    and_false : (c : Bool) → (c && false) ≡ false
    and_false true = refl
    and_false false = refl
