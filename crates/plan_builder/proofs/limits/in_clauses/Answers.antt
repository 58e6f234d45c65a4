use Rattle.plan_builder.proofs.Lines.{clause_more}
use Rattle.plan_builder.proofs.limits.in_clauses.Goals as goal

pub loop-clause-preserved : goal.loop-clause-preserved
loop-clause-preserved c =
    clause_more c.args.plan.now c.args.clauses.now c.loop-clause.clause-index c.clause-item.result _ c.loop-clause.first
    c.in_clause-first.result c.loop-clause-test.true c.clause-item.is c.in_clause-first.ensures c.loop-clause.invariant
