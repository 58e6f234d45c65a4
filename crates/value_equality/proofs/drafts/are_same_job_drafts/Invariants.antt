use Rattle.value_equality.proofs.Lists.{AreSameBelow}
use Rattle.value_equality.proofs.drafts.are_same_job_drafts.Given as goal

abbrev pub invariant-loop-i : goal.invariant-loop-i
invariant-loop-i l = AreSameBelow l.a l.b l.i
