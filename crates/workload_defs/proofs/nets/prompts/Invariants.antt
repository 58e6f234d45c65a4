use Rattle.std.proofs.Common.{◌≡◌, map, take}
use Rattle.base_types.specs.declared.PromptDef.{PromptDef}
use Rattle.composer_parser.specs.declared.Lined.{Lined}
use Rattle.workload_defs.proofs.nets.prompts.Given as goal

abbrev pub invariant-loop-prompt : goal.invariant-loop-prompt
invariant-loop-prompt l =
    l.list ≡ map (λ (p : Lined PromptDef). p.item) (take l.prompt-index l.prompts)
