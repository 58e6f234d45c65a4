-- Numbers and texts outside their ranges.
use Rattle.std.specs.Prelude.{ℕ, Bool, false, ◌||◌, ◌==◌, nat_lt, List, [], ◌∷◌, length, is_none, Option, Some, None, if◌then◌else◌}
use Rattle.std.specs.List.{list_any}
use Rattle.std.specs.Option.{option_map_or}
use Rattle.composer_parser.specs.declared.Lined.{Lined}
use Rattle.composer_parser.specs.declared.Defs.{Defs}
use Rattle.composer_parser.specs.declared.Clause.{Clause}
use Rattle.composer_parser.specs.declared.Clause.TheVariants.{At, Until, Deadline, Priority, Limit, CarryForward}
use Rattle.composer_parser.specs.declared.Clause.TheVariants.{Follows, Needs, Prompt, Opens}
use Rattle.composer_parser.specs.declared.Need.{Need}
use Rattle.plan_times.specs.Zones.{east_of}
use Rattle.definition_faults.specs.Orders.{fault}
use Rattle.definition_faults.specs.declared.kinds.Kind.TheVariants.{OutOfRange}
use Rattle.definition_faults.specs.declared.kinds.Fault.{Fault}

-- the text of TIMEZONE is an offset
abbrev pub faults_of_zone : Option (Lined (List ℕ)) → List Fault
faults_of_zone None = []
faults_of_zone (Some zone) = if is_none (east_of zone.item) then fault zone.line OutOfRange ∷ [] else []

unfoldable pub zone_faults : Defs → List Fault
zone_faults d = faults_of_zone d.zone

-- days that are added to a time are from 1 to 99
abbrev pub is_bad_offset : Option ℕ → Bool
is_bad_offset days = option_map_or (λ n. nat_lt n 1 || nat_lt 99 n) days false

-- units are up to 1024
abbrev pub needs_too_many : Need → Bool
needs_too_many n = option_map_or (λ units. nat_lt 1024 units) n.units false

-- a clause has a number outside its range, or an empty path
abbrev pub is_out_of_range : Clause → Bool
is_out_of_range (At t days) = is_bad_offset days
is_out_of_range (Until t days u) = is_bad_offset days
is_out_of_range (Deadline t days) = is_bad_offset days
is_out_of_range (Priority n) = nat_lt 101 n
is_out_of_range (Limit n) = nat_lt 1024 n
is_out_of_range CarryForward = false
is_out_of_range (Follows ps) = false
is_out_of_range (Needs ns) = list_any needs_too_many ns
is_out_of_range (Prompt ps) = false
is_out_of_range (Opens paths) = list_any (λ path. length path == 0) paths

-- how many dependencies a clause gives
abbrev pub dependency_count : Clause → ℕ
dependency_count (At t days) = 1
dependency_count (Until t days u) = 1
dependency_count (Deadline t days) = 1
dependency_count (Priority n) = 0
dependency_count (Limit n) = 0
dependency_count CarryForward = 0
dependency_count (Follows ps) = length ps
dependency_count (Needs ns) = length ns
dependency_count (Prompt ps) = length ps
dependency_count (Opens paths) = length paths
