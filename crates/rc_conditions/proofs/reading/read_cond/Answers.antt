use Rattle.std.proofs.Common.{Ok, Err}
use Rattle.rc_conditions.specs.declared.CondFault.TheVariants.{Bad, TooLong}
use Rattle.rc_conditions.proofs.Readings.{answers_exactly, of_bytes}
use Rattle.rc_conditions.proofs.reading.read_cond.Goals as goal

pub returns-clause-read : goal.returns-clause-read
returns-clause-read c = λ ops.
    answers_exactly c.args.text.now c.read_bytes.result (Ok ops)
    (of_bytes c.as_bytes.result.now c.args.text.now c.read_bytes.result c.as_bytes.ensures.value c.read_bytes.ensures)
    (λ e. cc)

pub returns-clause-bad : goal.returns-clause-bad
returns-clause-bad c = λ place.
    answers_exactly c.args.text.now c.read_bytes.result (Err (Bad place))
    (of_bytes c.as_bytes.result.now c.args.text.now c.read_bytes.result c.as_bytes.ensures.value c.read_bytes.ensures)
    (λ e. cc)

pub returns-clause-too_long : goal.returns-clause-too_long
returns-clause-too_long c =
    answers_exactly c.args.text.now c.read_bytes.result (Err TooLong)
    (of_bytes c.as_bytes.result.now c.args.text.now c.read_bytes.result c.as_bytes.ensures.value c.read_bytes.ensures)
    (λ e. cc)
