use Rattle.std.proofs.Common.{bytes_eq}
use Rattle.network_tree.proofs.Keys.{Seen, prompt_name, text_of}
use Rattle.network_tree.proofs.ranges.repeats_prompt.Given as goal

abbrev pub invariant-loop-prompt : goal.invariant-loop-prompt
invariant-loop-prompt l = Seen text_of prompt_name bytes_eq l.seen.keys l.prompts l.prompt-index
