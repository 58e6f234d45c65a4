-- The faults of the clauses of a stream or of an entry.
use Rattle.std.specs.Prelude.{ℕ, ◌+◌, Bool, true, false, ◌&&◌, ◌||◌, not, nat_lt, nat_le, List, [], ◌∷◌, take, flat_map, sum_by, Option, Some, None}
use Rattle.std.specs.List.{enumerate_from, list_any}
use Rattle.std.specs.Str.{bytes_eq}
use Rattle.composer_parser.specs.declared.Lined.{Lined}
use Rattle.composer_parser.specs.declared.Defs.{Defs}
use Rattle.composer_parser.specs.declared.Clause.{Clause}
use Rattle.composer_parser.specs.declared.Clause.TheVariants.{At, Until, Deadline, Priority, Limit, CarryForward}
use Rattle.composer_parser.specs.declared.Clause.TheVariants.{Follows, Needs, Prompt, Opens}
use Rattle.composer_parser.specs.declared.Need.{Need}
use Rattle.definition_faults.specs.Orders.{faults_at}
use Rattle.definition_faults.specs.Ranges.{is_out_of_range, dependency_count}
use Rattle.definition_faults.specs.Unknown.{has_unknown}
use Rattle.definition_faults.specs.declared.kinds.Kind.{Kind}
use Rattle.definition_faults.specs.declared.kinds.Kind.TheVariants.{UnknownName, OutOfRange, ForeignResource}
use Rattle.definition_faults.specs.declared.kinds.Fault.{Fault}

-- a NEEDS with a workstation that is not the object's
abbrev pub is_other : List ℕ → Option (List ℕ) → Bool
is_other written None = true
is_other written (Some own) = not (bytes_eq written own)

abbrev pub is_foreign_ws : Option (List ℕ) → Option (List ℕ) → Bool
is_foreign_ws None own = false
is_foreign_ws (Some written) own = is_other written own

abbrev pub is_foreign : Option (List ℕ) → Need → Bool
is_foreign own n = is_foreign_ws n.ws own

abbrev pub has_foreign : Option (List ℕ) → Clause → Bool
has_foreign own (Needs ns) = list_any (is_foreign own) ns
has_foreign own (At t days) = false
has_foreign own (Until t days u) = false
has_foreign own (Deadline t days) = false
has_foreign own (Priority n) = false
has_foreign own (Limit n) = false
has_foreign own CarryForward = false
has_foreign own (Follows ps) = false
has_foreign own (Prompt ps) = false
has_foreign own (Opens paths) = false

-- a clause, which may be the one that passes 64 dependencies
abbrev pub clause_rows : Defs → ℕ → Bool → Option (List ℕ) → Bool → Clause → List (Bool × Kind)
clause_rows d stream inside own passes c =
    (has_unknown d stream inside own c, UnknownName)
    ∷ (passes || is_out_of_range c, OutOfRange)
    ∷ (has_foreign own c, ForeignResource)
    ∷ []

-- how many dependencies these clauses give
abbrev pub dependencies : List (Lined Clause) → ℕ
dependencies cs = sum_by (λ (c : Lined Clause). dependency_count c.item) cs

-- with the clause at this place they become more than 64
abbrev pub passes : List (Lined Clause) → ℕ → Bool
passes cs i = nat_le (dependencies (take i cs)) 64 && nat_lt 64 (dependencies (take (i + 1) cs))

unfoldable pub clause_faults : Defs → ℕ → Bool → Option (List ℕ) → List (Lined Clause) → List Fault
clause_faults d stream inside own cs =
    flat_map
    (λ (p : ℕ × Lined Clause). faults_at p.1.line (clause_rows d stream inside own (passes cs p.0) p.1.item))
    (enumerate_from 0 cs)
