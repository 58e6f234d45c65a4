use Rattle.std.proofs.Common.{◌++◌, ◌∙◌, ◌∷◌, [], ap}
use Rattle.plan_builder.specs.Dependencies.{file_of}
use Rattle.lemmas.proofs.Lists.{mapped_more}
use Rattle.plan_builder.proofs.dependencies.put_paths.Goals as goal

pub loop-path-preserved : goal.loop-path-preserved
loop-path-preserved c =
    mapped_more file_of c.args.paths.now c.loop-path.path-index c.path-item.result _ c.loop-path.deps c.push.new.self
    c.loop-path-test.true c.path-item.is
    (c.in_ok-push.ensures.ok ∙ ap (λ t. c.loop-path.deps ++ file_of t ∷ []) c.in_ok-copy.ensures) c.loop-path.invariant
