use Rattle.std.proofs.Common.{◌==◌, ◌&&◌, ◌∙◌, Bool, ap, sym, true, false}
use Rattle.std.specs.List.{list_any, slice_split}
use Rattle.run_rules.specs.Days.{is_counted, is_place}
use Rattle.run_rules.proofs.Places.{in_month}
use Rattle.run_rules.proofs.days.has_in_month.Goals as goal

pub returns-then-is_counted : goal.returns-then-is_counted
returns-then-is_counted c =
    c.names_place.ensures
    ∙ (sym (ap (λ (b : Bool). b && list_any (is_place c.in-Some-place_of.place) (slice_split (λ b. b == 44) c.args.list.now))
    (sym c.is_counted.ensures ∙ c.if-is_counted.true))
    ∙ in_month c.args.n (slice_split (λ b. b == 44) c.args.list.now) c.args.from c.args.day c.in-Some.first
    c.in-Some-place_of.place c.in-Some.ensures.place c.in-Some-place_of.ensures.place)

pub returns-else-is_counted : goal.returns-else-is_counted
returns-else-is_counted c =
    c.if-is_counted.false
    ∙ (sym (ap (λ (b : Bool). b && list_any (is_place c.in-Some-place_of.place) (slice_split (λ b. b == 44) c.args.list.now))
    (sym c.is_counted.ensures ∙ c.if-is_counted.false))
    ∙ in_month c.args.n (slice_split (λ b. b == 44) c.args.list.now) c.args.from c.args.day c.in-Some.first
    c.in-Some-place_of.place c.in-Some.ensures.place c.in-Some-place_of.ensures.place)
