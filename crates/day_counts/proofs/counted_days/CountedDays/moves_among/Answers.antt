use Rattle.std.proofs.Common.{◌<◌, ◌≤◌, length, nat_lt, rules, sym, ◌∙◌}
use Rattle.std.specs.List.{list_any}
use Rattle.day_counts.specs.Counts.{bound_of, is_between, place_of}
use Rattle.day_counts.proofs.Nths.{places_rise, stepped}
use Rattle.day_counts.proofs.Searching.{first_tells, none_left, ordered}
use Rattle.day_counts.proofs.counted_days.CountedDays.moves_among.Goals as goal

pub returns-in-Some : goal.returns-in-Some
returns-in-Some c =
    let free = c.args.self.now in
    let step = c.args.step.now in
    let place = place_of free step in
    let days = c.args.dates.now in
    let first = c.first_from-first.result in
    let there : first < length days = search rules in
    let up = ordered place (λ a b h. places_rise free step a b h) days c.requires.ascending in
    (λ i. nat_lt (c.place_of.ensures i) c.bound_of-in-Some.result)
    ∙ (first_tells place days c.bound_of.result c.bound_of-in-Some.result first c.first_from-first.ensures.below
    c.first_from-first.ensures.from up c.in-Some.date.now there c.in-Some.ensures.lookup.1
    ∙ ((λ i. list_any (λ date. is_between (c.bound_of.ensures i) (c.bound_of-in-Some.ensures i) (place date)) days)
    ∙ sym (λ i. list_any (λ date. stepped free step c.args.from c.args.end date c.requires.end i) days)))

pub returns-in-None : goal.returns-in-None
returns-in-None c =
    let free = c.args.self.now in
    let step = c.args.step.now in
    let place = place_of free step in
    let days = c.args.dates.now in
    let first = c.first_from-first.result in
    let over : length days ≤ first = search rules in
    none_left place days c.bound_of.result (bound_of free step c.args.end) first c.first_from-first.ensures.below
    c.first_from-first.ensures.from over
    ∙ ((λ i. list_any (λ date. is_between (c.bound_of.ensures i) (bound_of free step c.args.end) (place date)) days)
    ∙ sym (λ i. list_any (λ date. stepped free step c.args.from c.args.end date c.requires.end i) days))
