use Rattle.std.proofs.Common.{◌≡◌, ◌++◌, codes, drop, map}
use Rattle.composer_print.specs.Texts.{begun_after, texts_from}
use Rattle.composer_print.specs.Clauses.{prompt_text}
use Rattle.composer_print.proofs.joined.write_prompts.Given as goal

abbrev pub invariant-loop-prompt : goal.invariant-loop-prompt
invariant-loop-prompt l = record {
  text :
      l.initial.out.items ++ texts_from (codes ", ") (codes " PROMPT ") l.begun (map prompt_text l.prompts)
      ≡ l.out.items ++ texts_from (codes ", ") (codes " PROMPT ") l.stands (map prompt_text (drop l.prompt-index l.prompts));
  begun : begun_after l.begun (map prompt_text l.prompts) ≡ begun_after l.stands (map prompt_text (drop l.prompt-index l.prompts));
}
