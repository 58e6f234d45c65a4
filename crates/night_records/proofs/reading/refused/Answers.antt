use Rattle.std.proofs.Common.{◌∙◌}
use Rattle.night_records.proofs.Told.{refused_is}
use Rattle.night_records.proofs.reading.refused.Goals as goal

pub returns-in-Some : goal.returns-in-Some
returns-in-Some c =
    refused_is c.args.text.now c.as_slice-rows.result.now c.in_ok-own.own c.in-Some.behind _ c.script_kind.result _
    c.lower.result (c.as_slice-rows.ensures ∙ c.in_ok-placed.ensures) c.in_ok-own.ensures c.in-Some.ensures
    c.script_kind.ensures c.lower.ensures
