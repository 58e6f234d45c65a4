use Rattle.std.proofs.Common.{◌≡◌, drop}
use Rattle.std.specs.List.{list_any}
use Rattle.composer_parser.specs.declared.Clause.{Clause}
use Rattle.composer_parser.specs.declared.Lined.{Lined}
use Rattle.plan_builder.specs.Clauses.{is_carry}
use Rattle.plan_builder.proofs.clauses.is_carried.Given as goal

abbrev pub invariant-loop-clause : goal.invariant-loop-clause
invariant-loop-clause l =
    list_any (λ (c : Lined Clause). is_carry c.item) l.clauses
    ≡ list_any (λ (c : Lined Clause). is_carry c.item) (drop l.clause-index l.clauses)
