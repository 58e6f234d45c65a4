use Rattle.definition_faults.specs.Graphs.{followed_by}
use Rattle.lemmas.proofs.Lists.{filtered_more}
use Rattle.definition_faults.proofs.graphs.put_preds.Goals as goal

pub loop-pred-preserved : goal.loop-pred-preserved
loop-pred-preserved c =
    filtered_more (followed_by c.args.names.now c.args.n c.args.inside) c.args.preds.now c.loop-pred.pred-index
    c.pred-item.result _ c.loop-pred.places c.put_pred.new.places c.loop-pred-test.true c.pred-item.is
    c.in_ok-put_pred.ensures c.loop-pred.invariant
