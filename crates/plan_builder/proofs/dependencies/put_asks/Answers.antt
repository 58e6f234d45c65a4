use Rattle.std.proofs.Common.{◌++◌, ◌∙◌, ◌∷◌, [], ap}
use Rattle.plan_builder.specs.Dependencies.{prompt_of}
use Rattle.lemmas.proofs.Lists.{mapped_more}
use Rattle.plan_builder.proofs.dependencies.put_asks.Goals as goal

pub loop-prompt-preserved : goal.loop-prompt-preserved
loop-prompt-preserved c =
    mapped_more (prompt_of c.args.names.now) c.args.prompts.now c.loop-prompt.prompt-index c.prompt-item.result _
    c.loop-prompt.deps c.push.new.self c.loop-prompt-test.true c.prompt-item.is
    (c.in_ok-push.ensures.ok ∙ ap (λ y. c.loop-prompt.deps ++ y ∷ []) c.in_ok-ask_of.ensures) c.loop-prompt.invariant
