use Rattle.std.proofs.Common.{◌++◌, ◌∙◌, ap, filter_map}
use Rattle.plan_builder.specs.Dependencies.{follows_in, follows_of}
use Rattle.plan_builder.proofs.Walks.{lists_more}
use Rattle.plan_builder.proofs.dependencies.put_follows.Goals as goal

pub loop-clause-preserved : goal.loop-clause-preserved
loop-clause-preserved c =
    let d = c.args.w.now in
    lists_more (follows_in d c.args.n c.args.inside) c.args.clauses.now c.loop-clause.clause-index c.clause-item.result _
    c.loop-clause.deps c.put_preds.new.deps c.loop-clause-test.true c.clause-item.is
    (c.in_ok-put_preds.ensures
    ∙ ap (λ l. c.loop-clause.deps ++ filter_map (follows_of d c.args.n c.args.inside) l) c.preds_of.ensures)
    c.loop-clause.invariant
