-- The faults of definitions, and the first of them.
use Rattle.std.specs.Prelude.{◌≡◌, ◌⊎◌, ℕ, List, ◌++◌, Contains, Option, Some, None}
use Rattle.composer_parser.specs.declared.Defs.{Defs}
use Rattle.follow_circles.specs.Circles.{IsOnCircle, line_of}
use Rattle.definition_faults.specs.Orders.{fault, IsNoLater, earlier_of}
use Rattle.definition_faults.specs.Items.{cpu_faults, domain_faults, calendar_faults, prompt_faults, resource_faults, job_faults}
use Rattle.definition_faults.specs.Masters.{master_faults, manager_faults}
use Rattle.definition_faults.specs.Ranges.{zone_faults}
use Rattle.definition_faults.specs.Streams.{all_stream_faults}
use Rattle.definition_faults.specs.Conditions.{HasBad, conditions}
use Rattle.definition_faults.specs.Graphs.{graph_of}
use Rattle.definition_faults.specs.declared.kinds.Kind.{Kind}
use Rattle.definition_faults.specs.declared.kinds.Kind.TheVariants.{OutOfRange, FollowsCycle}
use Rattle.definition_faults.specs.declared.kinds.Fault.{Fault}

-- the faults that the tables tell
unfoldable pub tested_faults : Defs → List Fault
tested_faults d =
    zone_faults d
    ++ cpu_faults d
    ++ domain_faults d
    ++ manager_faults d
    ++ master_faults d
    ++ calendar_faults d
    ++ prompt_faults d
    ++ resource_faults d
    ++ job_faults d
    ++ all_stream_faults d

-- a condition at that line is none
abbrev pub IsBadCondition : Defs → Fault → Type 0
IsBadCondition d f = (f.kind ≡ OutOfRange) × HasBad (conditions d) f.line

-- a stream or an entry at that line follows itself, directly or through others
abbrev pub IsCircle : Defs → Fault → Type 0
IsCircle d f =
    (f.kind ≡ FollowsCycle) × ((v : ℕ) × IsOnCircle (graph_of d) v × (line_of (graph_of d) v ≡ f.line))

-- the definitions have the fault
abbrev pub HasFault : Defs → Fault → Type 0
HasFault d f = Contains (tested_faults d) f ⊎ (IsBadCondition d f ⊎ IsCircle d f)

-- they have none
abbrev pub IsFaultless : Defs → Type 0
IsFaultless d = (f : Fault) → HasFault d f → ⊥

-- they have the fault, and none at a lower line or at this line of an earlier kind
abbrev pub IsFirstFault : Defs → Fault → Type 0
IsFirstFault d f = HasFault d f × ((g : Fault) → HasFault d g → IsNoLater f g)

abbrev pub IsFirst : Defs → Option Fault → Type 0
IsFirst d None = IsFaultless d
IsFirst d (Some f) = IsFirstFault d f

-- the first of a fault and of one of a kind at a line, where both may be there
abbrev pub with_line : Option Fault → Option ℕ → Kind → Option Fault
with_line first None k = first
with_line first (Some line) k = earlier_of first (Some (fault line k))
