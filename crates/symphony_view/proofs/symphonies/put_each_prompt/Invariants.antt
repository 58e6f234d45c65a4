use Rattle.std.proofs.Common.{◌≡◌, ◌+◌, ◌++◌, drop, flat_map}
use Rattle.std.specs.List.{enumerate_from}
use Rattle.model.specs.History.{view_of}
use Rattle.symphony_view.specs.Symphonies.{prompt_bytes}
use Rattle.symphony_view.proofs.symphonies.put_each_prompt.Given as goal

abbrev pub invariant-loop-prompt : goal.invariant-loop-prompt
invariant-loop-prompt l =
    (l.number ≡ l.prompt-index)
    × (l.initial.out ++ flat_map (prompt_bytes (view_of l.o)) (enumerate_from 1 l.prompts)
    ≡ l.out ++ flat_map (prompt_bytes (view_of l.o)) (enumerate_from (l.number + 1) (drop l.prompt-index l.prompts)))
