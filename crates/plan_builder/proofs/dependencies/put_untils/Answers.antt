use Rattle.plan_builder.specs.Dependencies.{until_in}
use Rattle.plan_builder.proofs.Walks.{lists_more}
use Rattle.plan_builder.proofs.dependencies.put_untils.Goals as goal

pub loop-clause-preserved : goal.loop-clause-preserved
loop-clause-preserved c =
    lists_more (until_in c.args.plan.now) c.args.clauses.now c.loop-clause.clause-index c.clause-item.result _
    c.loop-clause.deps c.put_until.new.deps c.loop-clause-test.true c.clause-item.is c.in_ok-put_until.ensures
    c.loop-clause.invariant
