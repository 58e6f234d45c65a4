use Rattle.rc_conditions.proofs.Texts.{split_parts}
use Rattle.rc_conditions.proofs.printing.two_expressions.Goals as goal

pub returns-clause-both : goal.returns-clause-both
returns-clause-both c = λ e f is.
    split_parts c.args.ops.now c.split_at.result.0.now c.split_at.result.1.now c.last_begins.result e f is
    c.split_at.ensures.front c.split_at.ensures.back c.last_begins.ensures.last
