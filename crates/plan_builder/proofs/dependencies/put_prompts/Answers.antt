use Rattle.std.proofs.Common.{◌++◌, ◌∙◌, ap, map}
use Rattle.plan_builder.specs.Dependencies.{prompt_of, prompts_in}
use Rattle.plan_builder.proofs.Walks.{lists_more}
use Rattle.plan_builder.proofs.dependencies.put_prompts.Goals as goal

pub loop-clause-preserved : goal.loop-clause-preserved
loop-clause-preserved c =
    lists_more (prompts_in c.args.names.now) c.args.clauses.now c.loop-clause.clause-index c.clause-item.result _
    c.loop-clause.deps c.put_asks.new.deps c.loop-clause-test.true c.clause-item.is
    (c.in_ok-put_asks.ensures ∙ ap (λ l. c.loop-clause.deps ++ map (prompt_of c.args.names.now) l) c.prompts_of.ensures)
    c.loop-clause.invariant
