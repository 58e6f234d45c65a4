use Rattle.std.proofs.Common.{ap}
use Rattle.std.specs.Prelude.{Err}
use Rattle.night_records.proofs.Told.{plain_read, plain_tells}
use Rattle.night_records.proofs.reading.read_plain.Goals as goal

pub returns-in-Ok-clause-read : goal.returns-in-Ok-clause-read
returns-in-Ok-clause-read c = plain_read c.args.text.now c.in-Ok.script c.requires.place c.in-Ok.ensures.script

pub returns-in-Err-clause-fault : goal.returns-in-Err-clause-fault
returns-in-Err-clause-fault c =
    plain_tells c.args.text.now c.in-Err.fault c.requires.place (λ n k e. c.in-Err.ensures.at n k (ap Err e))
