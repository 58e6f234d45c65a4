use Rattle.std.proofs.Common.{length}
use Rattle.rc_conditions.proofs.printing.+write_expression.Given as goal

abbrev pub decreases-write_expression : goal.decreases-write_expression
decreases-write_expression l = length l.ops.now
