use Rattle.std.proofs.lemmas.Bool.{false≢true}
use Rattle.rc_conditions.proofs.Depths.{walk_lacks, walk_ends}
use Rattle.rc_conditions.proofs.printing.is_postfix.Goals as goal

pub returns-then-results-joined : goal.returns-then-results-joined
returns-then-results-joined c = (
  λ t. absurd (false≢true t),
  λ is. absurd (walk_lacks c.args.ops.now c.loop-op.results c.loop-op.op-index c.arity-joined.result _
      c.loop-op.invariant.left c.loop-op-test.true c.arity-joined.ensures.value c.if-results-joined.true is),
)

pub returns : goal.returns
returns c =
    walk_ends c.args.ops.now c.loop-op.results c.loop-op.op-index c.loop-op.invariant.left c.loop-op-test.false
