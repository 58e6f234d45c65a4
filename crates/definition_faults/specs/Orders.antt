-- Which of several faults is told: the one at the lowest line, and of several there the first in the order of the kinds.
use Rattle.std.specs.Prelude.{◌≡◌, ◌⊎◌, ℕ, ◌<◌, ◌≤◌, Bool, ◌&&◌, ◌||◌, ◌==◌, nat_lt, nat_le, List, [], ◌∷◌, option_map}
use Rattle.std.specs.Prelude.{Option, Some, None, if◌then◌else◌}
use Rattle.std.specs.Bool.{then_some}
use Rattle.std.specs.List.{filter_map}
use Rattle.definition_faults.specs.declared.kinds.Kind.{Kind}
use Rattle.definition_faults.specs.declared.kinds.Kind.TheVariants as kinds
use Rattle.definition_faults.specs.declared.kinds.Fault.{Fault}
use Rattle.definition_faults.specs.declared.faults.DefFault.{DefFault}
use Rattle.definition_faults.specs.declared.faults.DefFault.TheVariants as told_as

-- the order of the kinds
abbrev pub rank : Kind → ℕ
rank kinds.Duplicate = 0
rank kinds.UnknownName = 1
rank kinds.OutOfRange = 2
rank kinds.ForeignResource = 3
rank kinds.FollowsCycle = 4
rank kinds.Tree = 5

-- a fault of a kind at a line
abbrev pub fault : ℕ → Kind → Fault
fault line k = record { line = line; kind = k }

-- the kinds of these rows whose test holds, as faults at a line
abbrev pub faults_at : ℕ → List (Bool × Kind) → List Fault
faults_at line rows = filter_map (λ (row : Bool × Kind). then_some row.0 (fault line row.1)) rows

-- how a fault is told
abbrev pub told_kind : ℕ → Kind → DefFault
told_kind line kinds.Duplicate = told_as.Duplicate line
told_kind line kinds.UnknownName = told_as.UnknownName line
told_kind line kinds.OutOfRange = told_as.OutOfRange line
told_kind line kinds.ForeignResource = told_as.ForeignResource line
told_kind line kinds.FollowsCycle = told_as.FollowsCycle line
told_kind line kinds.Tree = told_as.Tree line

abbrev pub told : Fault → DefFault
told f = told_kind f.line f.kind

-- a is at a lower line than b, or at the same line and of no later kind
abbrev pub IsNoLater : Fault → Fault → Type 0
IsNoLater a b = (a.line < b.line) ⊎ ((a.line ≡ b.line) × (rank a.kind ≤ rank b.kind))

-- the same as a test
abbrev pub comes_first : Fault → Fault → Bool
comes_first a b = nat_lt a.line b.line || ((a.line == b.line) && nat_le (rank a.kind) (rank b.kind))

-- the first of two faults that may be there
abbrev pub earlier_of : Option Fault → Option Fault → Option Fault
earlier_of None b = b
earlier_of (Some a) None = Some a
earlier_of (Some a) (Some b) = if comes_first a b then Some a else Some b

-- the first of a list
abbrev pub earliest : List Fault → Option Fault
earliest [] = None
earliest (f ∷ fs) = earlier_of (Some f) (earliest fs)

-- a fault at a line of a kind that may be there
abbrev pub at_line : ℕ → Option Kind → Option Fault
at_line line k = option_map (fault line) k
