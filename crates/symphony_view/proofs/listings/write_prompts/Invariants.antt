use Rattle.std.proofs.Common.{◌≡◌, ◌+◌, ◌++◌, drop, flat_map}
use Rattle.std.specs.List.{enumerate_from}
use Rattle.model.specs.History.{view_of}
use Rattle.symphony_view.specs.Listings.{prompt_line}
use Rattle.symphony_view.proofs.listings.write_prompts.Given as goal

abbrev pub invariant-loop-prompt : goal.invariant-loop-prompt
invariant-loop-prompt l =
    (l.number ≡ l.prompt-index)
    × (l.initial.out.items ++ flat_map (prompt_line (view_of l.o)) (enumerate_from 1 l.prompts)
    ≡ l.out.items
    ++ flat_map (prompt_line (view_of l.o)) (enumerate_from (l.number + 1) (drop l.prompt-index l.prompts)))
