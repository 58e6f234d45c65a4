use Rattle.plan_builder.specs.Dependencies.{follows_of}
use Rattle.lemmas.proofs.Lists.{filtered_more}
use Rattle.plan_builder.proofs.dependencies.put_preds.Goals as goal

pub loop-pred-preserved : goal.loop-pred-preserved
loop-pred-preserved c =
    filtered_more (follows_of c.args.w.now c.args.n c.args.inside) c.args.preds.now c.loop-pred.pred-index
    c.pred-item.result _ c.loop-pred.deps c.put_pred.new.deps c.loop-pred-test.true c.pred-item.is
    c.in_ok-put_pred.ensures c.loop-pred.invariant
