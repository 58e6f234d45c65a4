use Rattle.std.proofs.Common.{◌++◌, ◌∙◌, ◌∷◌, [], ap}
use Rattle.std.specs.Option.{option_copied}
use Rattle.plan_builder.specs.Dependencies.{need_of}
use Rattle.lemmas.proofs.Lists.{mapped_more}
use Rattle.plan_builder.proofs.dependencies.put_units.Goals as goal

pub loop-need-preserved : goal.loop-need-preserved
loop-need-preserved c =
    mapped_more (need_of c.args.names.now (option_copied c.args.ws)) c.args.needs.now c.loop-need.need-index
    c.need-item.result _ c.loop-need.deps c.push.new.self c.loop-need-test.true c.need-item.is
    (c.in_ok-push.ensures.ok ∙ ap (λ y. c.loop-need.deps ++ y ∷ []) c.need_of.ensures) c.loop-need.invariant
