use Rattle.std.proofs.Common.{◌≡◌, ◌++◌, drop, flat_map, map}
use Rattle.composer_print.specs.Groups.{prompt_line}
use Rattle.composer_print.specs.Normal.{bare}
use Rattle.composer_print.proofs.groups.write_prompts.Given as goal

abbrev pub invariant-loop-prompt : goal.invariant-loop-prompt
invariant-loop-prompt l =
    l.initial.out.items ++ flat_map (λ x. prompt_line x.item) (map bare l.prompts)
    ≡ l.out.items ++ flat_map (λ x. prompt_line x.item) (map bare (drop l.prompt-index l.prompts))
