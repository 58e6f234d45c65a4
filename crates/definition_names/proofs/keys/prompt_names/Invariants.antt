use Rattle.std.proofs.Common.{◌≡◌, map, take}
use Rattle.composer_parser.specs.declared.Lined.{Lined}
use Rattle.base_types.specs.declared.PromptDef.{PromptDef}
use Rattle.definition_names.specs.Keys.{seen}
use Rattle.definition_names.proofs.keys.prompt_names.Given as goal

abbrev pub invariant-loop-prompt : goal.invariant-loop-prompt
invariant-loop-prompt l =
    map seen l.names.items ≡ map (λ (x : Lined PromptDef). x.item.name) (take l.prompt-index l.prompts)
