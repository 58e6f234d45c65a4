use Rattle.model.specs.History.{view_of}
use Rattle.conman_orders.proofs.Equal.{equal_any}
use Rattle.conman_orders.proofs.object_verdicts.has_equal.Goals as goal

pub returns : goal.returns
returns c =
    let e = equal_any (view_of c.args.o.now) c.args.object.now c.args.dep.now in
    cc (e, c.is_some.ensures, c.equal_dep.ensures)
