use Rattle.std.proofs.Common.{◌≡◌, ℕ, min, drop, take, flat_map}
use Rattle.std.specs.List.{enumerate_from}
use Rattle.std.specs.Option.{option_copied}
use Rattle.composer_parser.specs.declared.Clause.{Clause}
use Rattle.composer_parser.specs.declared.Lined.{Lined}
use Rattle.definition_faults.specs.Orders.{earliest, earlier_of, faults_at}
use Rattle.definition_faults.specs.Clauses.{clause_rows, dependencies, passes}
use Rattle.definition_faults.proofs.clauses.in_clauses.Given as goal

abbrev pub invariant-loop-clause : goal.invariant-loop-clause
invariant-loop-clause l =
    record {
      counted : l.before ≡ min 65 (dependencies (take l.clause-index l.clauses));
      found : earliest
          (flat_map
          (λ (p : ℕ × Lined Clause).
          faults_at p.1.line
          (clause_rows l.names l.stream l.inside (option_copied l.ws) (passes l.clauses p.0) p.1.item))
          (enumerate_from 0 l.clauses))
          ≡ earlier_of l.first
          (earliest
          (flat_map
          (λ (p : ℕ × Lined Clause).
          faults_at p.1.line
          (clause_rows l.names l.stream l.inside (option_copied l.ws) (passes l.clauses p.0) p.1.item))
          (enumerate_from l.clause-index (drop l.clause-index l.clauses))));
    }
