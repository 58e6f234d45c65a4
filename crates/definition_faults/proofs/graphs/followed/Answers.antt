use Rattle.std.proofs.Common.{◌++◌, ◌∙◌, ap, arith, filter_map}
use Rattle.definition_faults.specs.Graphs.{followed_by}
use Rattle.definition_faults.proofs.Places.{followed_more}
use Rattle.definition_faults.proofs.graphs.followed.Goals as goal

pub loop-clause-preserved : goal.loop-clause-preserved
loop-clause-preserved c =
    followed_more c.args.names.now c.args.n c.args.inside c.args.clauses.now c.loop-clause.clause-index c.clause-item.result
    _ c.loop-clause.places c.put_preds.new.places (omega arith) c.clause-item.is
    (c.in_ok-put_preds.ensures
    ∙ ap (λ l. c.loop-clause.places ++ filter_map (followed_by c.args.names.now c.args.n c.args.inside) l) c.preds_of.ensures)
    c.loop-clause.invariant
