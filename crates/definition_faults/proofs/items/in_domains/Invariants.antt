use Rattle.std.proofs.Common.{◌≡◌, ℕ, drop, flat_map}
use Rattle.std.specs.List.{enumerate_from}
use Rattle.composer_parser.specs.declared.DomainDef.{DomainDef}
use Rattle.composer_parser.specs.declared.Lined.{Lined}
use Rattle.definition_faults.specs.Orders.{earliest, earlier_of, faults_at}
use Rattle.definition_faults.specs.Items.{domain_rows, strays}
use Rattle.definition_faults.proofs.items.in_domains.Given as goal

abbrev pub invariant-loop-i : goal.invariant-loop-i
invariant-loop-i l =
    earliest (flat_map (λ (p : ℕ × Lined DomainDef). faults_at p.1.line (domain_rows l.names p.0 (strays l.names p.0) p.1.item)) (enumerate_from 0 l.domains))
    ≡ earlier_of l.first
    (earliest (flat_map (λ (p : ℕ × Lined DomainDef). faults_at p.1.line (domain_rows l.names p.0 (strays l.names p.0) p.1.item)) (enumerate_from l.i (drop l.i l.domains))))
