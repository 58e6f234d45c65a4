use Rattle.std.proofs.Common.{flat_map, refl}
use Rattle.composer_print.specs.Steps.{kind_text}
use Rattle.composer_print.proofs.Lists.{part_more, parts_all}
use Rattle.composer_print.proofs.clauses.write_those.Goals as goal

pub loop-clause-preserved : goal.loop-clause-preserved
loop-clause-preserved c =
    part_more (flat_map (kind_text c.args.kind))
    (kind_text c.args.kind) (λ y ys. refl) _ _ _ c.args.clauses.now c.loop-clause.clause-index c.clause-item.result
    c.loop-clause-test.true c.clause-item.is c.in_ok-write_if.ensures c.loop-clause.invariant

pub returns : goal.returns
returns c =
    parts_all (flat_map (kind_text c.args.kind)) refl
    _ _ c.args.clauses.now c.loop-clause.clause-index c.loop-clause-test.false c.loop-clause.invariant
