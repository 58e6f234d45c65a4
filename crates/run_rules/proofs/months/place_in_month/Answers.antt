use Rattle.std.proofs.Common.{◌-◌, ◌+◌, ◌*◌, ◌∙◌, unsigned_abs, to_z, of_z, w16}
use Rattle.run_rules.proofs.Places.{at_date}
use Rattle.run_rules.proofs.months.place_in_month.Goals as goal

pub returns : goal.returns
returns c = λ day is.
    at_date c.args.date day is _ c.requires
    (λ j. (unsigned_abs (to_z w16 (of_z w16 c.args.date.year)) - 1970) * 12 + (c.from.ensures j - 1))
    c.from-2.ensures (c.from-3.ensures ∙ c.days_in_month.ensures.value)
