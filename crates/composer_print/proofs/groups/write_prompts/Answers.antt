use Rattle.std.proofs.Common.{List, codes, flat_map, map, refl, sym, ◌∙◌}
use Rattle.base_types.specs.declared.network.PromptDef.{PromptDef}
use Rattle.composer_parser.specs.declared.definitions.Lined.{Lined}
use Rattle.composer_print.specs.Groups.{prompt_line}
use Rattle.composer_print.specs.Normal.{bare}
use Rattle.composer_print.proofs.Lists.{group_all, part_more}
use Rattle.composer_print.proofs.groups.write_prompts.Goals as goal

pub loop-prompt-preserved : goal.loop-prompt-preserved
loop-prompt-preserved c =
    part_more (λ (ys : List (Lined PromptDef)). flat_map (λ x. prompt_line x.item) (map bare ys))
    (λ (y : Lined PromptDef). prompt_line y.item) (λ y ys. refl) _ _ _ c.args.prompts.now c.loop-prompt.prompt-index c.prompt-item.result
    c.loop-prompt-test.true c.prompt-item.is c.in_ok-write_prompt.ensures c.loop-prompt.invariant

pub returns : goal.returns
returns c =
    group_all (λ (ys : List (Lined PromptDef)). flat_map (λ x. prompt_line x.item) (map bare ys)) refl bare
    (codes "$PROMPT\n") _ _ _ c.args.prompts.now c.loop-prompt.prompt-index (sym c.is_empty.ensures ∙ c.if-is_empty.false)
    c.in_ok-write.ensures.bytes c.loop-prompt-test.false c.loop-prompt.invariant
