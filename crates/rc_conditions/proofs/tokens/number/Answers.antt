use Rattle.rc_conditions.proofs.Numbers.{no_number}
use Rattle.rc_conditions.proofs.tokens.number.Goals as goal

pub returns-in-Err : goal.returns-in-Err
returns-in-Err c = no_number c.args.word.now c.in-Err.ensures.cases.0
