-- Why a line of a record cannot be taken, and what is told of it.
use Rattle.std.specs.Prelude.{ℕ}
use Rattle.base_types.specs.Limits.{limit_number}
use Rattle.model.specs.Types.{LimitName}
use Rattle.model.specs.StepFaults.{CarryFault, StepFault}
use Rattle.model.specs.World.{StepRefused}
use Rattle.record_runs.specs.declared.stops.Stop.{Stop}
use Rattle.record_runs.specs.declared.stops.Stop.TheVariants as stop

-- what was found before there was a step of the world, or why that step is refused
pub data Cause : Type 0 where
  -- `type` names what is not there
  names_nothing : Cause
  -- a time of the day has no moment
  no_moment : Cause
  -- the day has more streams, or more jobs, than a plan may have
  full_day : ℕ → Cause
  -- the step of the world is refused
  refused : StepRefused → Cause

-- a limit that a step reaches, by its own number
abbrev pub at_limit : LimitName → Stop
at_limit l = stop.Limit l (limit_number l)

-- a plan that would have too many runs or numbers passes the limit of places, one that is full passes that of plans
abbrev pub told_carry : CarryFault → Stop
told_carry CarryFault.RunsSpent = at_limit LimitName.Places
told_carry CarryFault.NumbersSpent = at_limit LimitName.Places
told_carry (CarryFault.PlanFull most) = stop.Limit LimitName.Plan most

-- what is told of a node's fault
abbrev pub told_fault : StepFault → Stop
told_fault StepFault.NotInNetwork = stop.NotInNetwork
told_fault StepFault.NotNeighbour = stop.NotNeighbour
told_fault StepFault.NotMaster = stop.NotMaster
told_fault StepFault.NoProcess = stop.NoProcess
told_fault StepFault.NoDep = stop.NoDep
told_fault StepFault.PlaceSpent = at_limit LimitName.Places
told_fault (StepFault.Carry fault) = told_carry fault
told_fault StepFault.TooLong = at_limit LimitName.Entry

-- what is told of a refused step of the world
abbrev pub told_refused : StepRefused → Stop
told_refused StepRefused.NoPacket = stop.NoPacket
told_refused (StepRefused.Limit l) = at_limit l
told_refused (StepRefused.Step fault) = told_fault fault

-- What is told of a cause: the kind of the fault, or the limit with its name and number.
unfoldable pub told : Cause → Stop
told names_nothing = stop.UnknownName
told no_moment = stop.OutOfRange
told (full_day most) = stop.Limit LimitName.Plan most
told (refused r) = told_refused r
