use Rattle.std.proofs.Common.{◌<◌, ◌^◌, List, length, arith, subst, ℕ}
use Rattle.definition_texts.specs.Refusals.{AreChecked}
use Rattle.node_commands.proofs.reading.read_workload.Goals as goal

pub returns-in-Ok-read_definitions-clause-plans : goal.returns-in-Ok-read_definitions-clause-plans
returns-in-Ok-read_definitions-clause-plans g c = λ day drafts are.
    let bytes = c.in-Ok.bytes.items in
    let defs = c.in-Ok-read_definitions.workload in
    let few : length bytes < 2 ^ 32 = omega (arith, c.in-Ok.ensures.short) in
    c.drafts_are_fit.ensures bytes defs day drafts few
    (subst (λ (b : List ℕ). AreChecked b defs) c.deref.ensures.value c.in-Ok-read_definitions.ensures.checked) are
