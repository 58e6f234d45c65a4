use Rattle.std.proofs.Common.{◌≡◌, ◌++◌, drop, flat_map}
use Rattle.plan_listing.specs.Networks.{prompt_line}
use Rattle.plan_listing.proofs.networks.write_prompts.Given as goal

abbrev pub invariant-loop-prompt : goal.invariant-loop-prompt
invariant-loop-prompt l =
    l.initial.out.items ++ flat_map prompt_line l.prompts
    ≡ l.out.items ++ flat_map prompt_line (drop l.prompt-index l.prompts)
