use Rattle.std.proofs.Common.{◌≤◌, arith, refl}
use Rattle.calendars.proofs.Calendar.{distant, lacking, found, not_before}
use Rattle.calendars.proofs.dates.day_of.Goals as goal

pub returns-then-not-is_near-clause-value : goal.returns-then-not-is_near-clause-value
returns-then-not-is_near-clause-value c =
    distant c.args.year c.args.month c.args.day c.if-not-is_near.ensures.far

pub returns-in-Err-clause-value : goal.returns-in-Err-clause-value
returns-in-Err-clause-value c =
    let near = c.if-not-is_near.ensures.near refl in
    lacking c.args.year c.args.month c.args.day near.1 near.2 near.3 c.in-Err.ensures.succeeds.1

pub returns-in-Ok-clause-value : goal.returns-in-Ok-clause-value
returns-in-Ok-clause-value c =
    let near = c.if-not-is_near.ensures.near refl in
    let date = c.in-Ok.date in
    let parts = c.in-Ok.ensures.value in
    found c.args.year c.args.month c.args.day c.number_of.result date.year date.month date.day near.0 near.1 near.2 near.3
    (c.in-Ok.ensures.succeeds.0 refl) parts.0 parts.1 parts.2 c.number_of.ensures.value

pub number_of-requires : goal.number_of-requires
number_of-requires c =
    let near = c.if-not-is_near.ensures.near refl in
    let date = c.in-Ok.date in
    let some : 1 ≤ date.day = omega (arith, date.day_in) in
    not_before c.args.year date.year date.month date.day near.0 near.1 c.in-Ok.ensures.value.0 some
