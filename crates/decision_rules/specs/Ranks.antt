-- Which of two ready jobs comes first.
use Rattle.std.specs.Prelude.{Bool, nat_lt}
use Rattle.model.specs.Readiness.{higher}
use Rattle.decision_rules.specs.declared.ranks.Rank.{Rank}

-- a comes before b
abbrev pub comes_before : Rank → Rank → Bool
comes_before a b = higher a.stream b.stream (higher a.job b.job (nat_lt a.number b.number))
