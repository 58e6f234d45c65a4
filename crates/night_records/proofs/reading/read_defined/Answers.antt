use Rattle.std.proofs.Common.{◌∙◌, Err, ap}
use Rattle.lemmas.proofs.Results.{if_err}
use Rattle.night_records.proofs.Told.{both_ok, defined_read, defined_tells, refused_tells}
use Rattle.night_records.proofs.reading.read_defined.Goals as goal

pub returns-in-Ok-clause-read : goal.returns-in-Ok-clause-read
returns-in-Ok-clause-read c =
    both_ok _ _ _ c.defined.result
    (λ r is none.
    defined_read c.args.text.now _ c.args.place c.in-Ok.workload r c.requires.place (c.deref.ensures ∙ c.in_ok-composer.ensures)
    c.in-Ok.ensures.checked none is)
    c.defined.ensures.read c.defined.ensures.none

pub returns-in-Ok-clause-fault : goal.returns-in-Ok-clause-fault
returns-in-Ok-clause-fault c =
    if_err _ _ c.defined.result
    (λ f own.
    defined_tells c.args.text.now _ c.args.place c.in-Ok.workload f c.requires.place (c.deref.ensures ∙ c.in_ok-composer.ensures)
    c.in-Ok.ensures.checked own)
    c.defined.ensures.fault

pub returns-in-Err-Refused-clause-fault : goal.returns-in-Err-Refused-clause-fault
returns-in-Err-Refused-clause-fault c =
    refused_tells c.args.text.now _ c.args.place c.in-Err-Refused.refusal c.in_ok-refused-in-Err-Refused.field-0
    c.requires.place (c.deref.ensures ∙ c.in_ok-composer.ensures)
    (c.in-Err-Refused.ensures.refused c.in-Err-Refused.refusal (ap (λ x. Err x) c.in-Err-Refused.field-0-is))
    c.in_ok-refused-in-Err-Refused.ensures
