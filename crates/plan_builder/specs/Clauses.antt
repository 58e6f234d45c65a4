-- What the clauses of a stream or of an entry say besides its dependencies. Each of these stands at most once.
use Rattle.std.specs.Prelude.{ℕ, Bool, true, false, min, List, slice_get, unwrap_or, option_map, Option, Some, None}
use Rattle.std.specs.List.{filter_map, list_any}
use Rattle.composer_parser.specs.declared.Lined.{Lined}
use Rattle.composer_parser.specs.declared.Clause.{Clause}
use Rattle.composer_parser.specs.declared.Clause.TheVariants.{At, Until, Deadline, Priority, Limit, CarryForward}
use Rattle.composer_parser.specs.declared.Clause.TheVariants.{Follows, Needs, Prompt, Opens}

abbrev pub priority_in : Clause → Option ℕ
priority_in (Priority n) = Some n
priority_in (At t days) = None
priority_in (Until t days u) = None
priority_in (Deadline t days) = None
priority_in (Limit n) = None
priority_in CarryForward = None
priority_in (Follows ps) = None
priority_in (Needs ns) = None
priority_in (Prompt ps) = None
priority_in (Opens paths) = None

abbrev pub limit_in : Clause → Option ℕ
limit_in (Limit n) = Some n
limit_in (Priority n) = None
limit_in (At t days) = None
limit_in (Until t days u) = None
limit_in (Deadline t days) = None
limit_in CarryForward = None
limit_in (Follows ps) = None
limit_in (Needs ns) = None
limit_in (Prompt ps) = None
limit_in (Opens paths) = None

abbrev pub is_carry : Clause → Bool
is_carry CarryForward = true
is_carry (Limit n) = false
is_carry (Priority n) = false
is_carry (At t days) = false
is_carry (Until t days u) = false
is_carry (Deadline t days) = false
is_carry (Follows ps) = false
is_carry (Needs ns) = false
is_carry (Prompt ps) = false
is_carry (Opens paths) = false

abbrev pub first_number : (Clause → Option ℕ) → List (Lined Clause) → Option ℕ
first_number number_in cs = slice_get (filter_map (λ (c : Lined Clause). number_in c.item) cs) 0

-- PRIORITY, up to 101, which is 10 where it is not given
abbrev pub priority_of : List (Lined Clause) → ℕ
priority_of cs = unwrap_or (option_map (λ n. min n 101) (first_number priority_in cs)) 10

-- LIMIT, up to 1024
abbrev pub limit_of : List (Lined Clause) → Option ℕ
limit_of cs = option_map (λ n. min n 1024) (first_number limit_in cs)

-- CARRYFORWARD
abbrev pub is_carried : List (Lined Clause) → Bool
is_carried cs = list_any (λ (c : Lined Clause). is_carry c.item) cs
