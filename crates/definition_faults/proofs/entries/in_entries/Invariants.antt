use Rattle.std.proofs.Common.{◌≡◌, ℕ, drop, flat_map}
use Rattle.std.specs.List.{enumerate_from}
use Rattle.composer_parser.specs.declared.EntryDef.{EntryDef}
use Rattle.composer_parser.specs.declared.Lined.{Lined}
use Rattle.definition_faults.specs.Orders.{earliest, earlier_of}
use Rattle.definition_faults.specs.Entries.{faults_of_entry}
use Rattle.definition_faults.proofs.entries.in_entries.Given as goal

abbrev pub invariant-loop-i : goal.invariant-loop-i
invariant-loop-i l =
    earliest (flat_map (λ (p : ℕ × Lined EntryDef). faults_of_entry l.names l.stream l.schedule p) (enumerate_from 0 l.entries))
    ≡ earlier_of l.first
    (earliest (flat_map (λ (p : ℕ × Lined EntryDef). faults_of_entry l.names l.stream l.schedule p) (enumerate_from l.i (drop l.i l.entries))))
