use Rattle.std.proofs.Common.{◌≡◌, ℕ, drop, flat_map}
use Rattle.std.specs.List.{enumerate_from}
use Rattle.base_types.specs.declared.PromptDef.{PromptDef}
use Rattle.composer_parser.specs.declared.Lined.{Lined}
use Rattle.definition_faults.specs.Orders.{earliest, earlier_of, faults_at}
use Rattle.definition_faults.specs.Items.{prompt_rows}
use Rattle.definition_faults.proofs.items.in_prompts.Given as goal

abbrev pub invariant-loop-i : goal.invariant-loop-i
invariant-loop-i l =
    earliest (flat_map (λ (p : ℕ × Lined PromptDef). faults_at p.1.line (prompt_rows l.names p.0 p.1.item)) (enumerate_from 0 l.prompts))
    ≡ earlier_of l.first
    (earliest (flat_map (λ (p : ℕ × Lined PromptDef). faults_at p.1.line (prompt_rows l.names p.0 p.1.item)) (enumerate_from l.i (drop l.i l.prompts))))
