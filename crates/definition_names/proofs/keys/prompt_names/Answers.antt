use Rattle.composer_parser.specs.declared.Lined.{Lined}
use Rattle.base_types.specs.declared.PromptDef.{PromptDef}
use Rattle.definition_names.specs.Keys.{seen}
use Rattle.definition_names.proofs.Steps.{keys_more}
use Rattle.definition_names.proofs.keys.prompt_names.Goals as goal

pub loop-prompt-preserved : goal.loop-prompt-preserved
loop-prompt-preserved c =
    keys_more seen (λ (x : Lined PromptDef). x.item.name) c.args.prompts.now c.loop-prompt.prompt-index c.prompt-item.result
    c.loop-prompt.names.items _ _ c.loop-prompt-test.true c.prompt-item.is c.in_ok-push.ensures.items c.loop-prompt.invariant
    (let e = c.prompt-item.is in cc)
