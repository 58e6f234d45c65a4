use Rattle.std.proofs.Common.{◌++◌, ◌∙◌, ap, map}
use Rattle.std.specs.Option.{option_copied}
use Rattle.plan_builder.specs.Dependencies.{need_of, needs_in}
use Rattle.plan_builder.proofs.Walks.{lists_more}
use Rattle.plan_builder.proofs.dependencies.put_needs.Goals as goal

pub loop-clause-preserved : goal.loop-clause-preserved
loop-clause-preserved c =
    let own = option_copied c.args.ws in
    lists_more (needs_in c.args.names.now own) c.args.clauses.now c.loop-clause.clause-index c.clause-item.result _
    c.loop-clause.deps c.put_units.new.deps c.loop-clause-test.true c.clause-item.is
    (c.in_ok-put_units.ensures
    ∙ ap (λ l. c.loop-clause.deps ++ map (need_of c.args.names.now own) l) c.needs_of.ensures)
    c.loop-clause.invariant
