use Rattle.std.proofs.Common.{◌∙◌, ap, arith, ℤ, pos, to_z, of_z, w64}
use Rattle.std.proofs.lemmas.Int.{to_z-of_z}
use Rattle.run_rules.proofs.Places.{from_1970}
use Rattle.run_rules.proofs.months.place_of.Goals as goal

pub place_in_month-requires : goal.place_in_month-requires
place_in_month-requires c =
    from_1970 c.in-Ok.date c.args.day
    (c.in-Ok.ensures.value
    ∙ (ap (λ (z : ℤ). to_z w64 (of_z w64 z)) c.from.ensures
    ∙ to_z-of_z w64 (pos c.args.day) (record { sfits = omega (arith, c.ranges.day.fits) })))
