use Rattle.std.proofs.Common.{◌≡◌, ◌++◌, drop, flat_map}
use Rattle.composer_print.specs.Steps.{kind_text}
use Rattle.composer_print.proofs.clauses.write_those.Given as goal

abbrev pub invariant-loop-clause : goal.invariant-loop-clause
invariant-loop-clause l =
    l.initial.out.items ++ flat_map (kind_text l.kind) l.clauses
    ≡ l.out.items ++ flat_map (kind_text l.kind) (drop l.clause-index l.clauses)
