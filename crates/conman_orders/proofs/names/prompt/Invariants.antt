use Rattle.std.proofs.Common.{◌≡◌, ◌+◌, drop}
use Rattle.std.specs.List.{position_from}
use Rattle.model.specs.Types.{PromptDef}
use Rattle.model.specs.Equalities.{text_eq}
use Rattle.conman_orders.specs.Names.{prompt_named}
use Rattle.conman_orders.proofs.names.prompt.Given as goal

abbrev pub invariant-loop-i : goal.invariant-loop-i
invariant-loop-i l =
    prompt_named l.network l.name
    ≡ position_from (λ (p : PromptDef). text_eq p.name l.name) (l.i + 1) (drop l.i l.prompts)
