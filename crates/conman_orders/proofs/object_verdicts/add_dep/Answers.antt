use Rattle.std.proofs.Common.{◌∙◌}
use Rattle.model.specs.History.{view_of}
use Rattle.conman_orders.proofs.Reasons.{by_dep, by_object}
use Rattle.conman_orders.proofs.object_verdicts.add_dep.Goals as goal

pub returns-in-Some : goal.returns-in-Some
returns-in-Some c =
    by_object c.args.net.now (view_of c.args.o.now) c.args.me c.args.object.now c.args.dep.now c.in-Some.why
    (c.in-Some.ensures c.args.net.now)

pub returns-in-None : goal.returns-in-None
returns-in-None c =
    c.added_reason.ensures
    ∙ by_dep c.args.net.now (view_of c.args.o.now) c.args.me c.args.object.now c.args.dep.now
    (c.in-None.ensures c.args.net.now)
