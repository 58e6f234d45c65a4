use Rattle.std.proofs.Common.{ap, refl, Err}
use Rattle.definition_texts.proofs.Readings.{checked_fault}
use Rattle.definition_texts.proofs.reading.from_defs.Goals as goal

pub returns-in-Ok : goal.returns-in-Ok
returns-in-Ok c = (c.in-Ok.ensures.checked, c.in-Ok.ensures.sound refl)

pub returns-in-Err : goal.returns-in-Err
returns-in-Err c =
    rw c.checked.ensures
    (checked_fault c.args.defs c.in-Err.fault (λ f e. c.in-Err.ensures.causes f (ap (λ x. Err x) e)))
