-- Why a step of the world is refused.
use Rattle.std.specs.Prelude.{◌∷◌, [], ℕ, Option, nat_le}
use Rattle.model.specs.Types.{LimitName}
use Rattle.model.specs.Words.{first_of_these}
use Rattle.model.specs.StepFaults as model
use Rattle.carry_forward.specs.declared.CarryFault.TheVariants as carry
use Rattle.agent_core.specs.declared.StepFault.{StepFault}
use Rattle.agent_core.specs.declared.StepFault.TheVariants as fault
use Rattle.network_world.specs.declared.refusals.StepRefused.{StepRefused}
use Rattle.network_world.specs.declared.refusals.StepRefused.TheVariants.{NoMemory, Step}

-- what is said of the definitions' fault holds of the one that an answer tells; want of memory is no such fault
abbrev pub Tells : (model.StepFault → Type 0) → StepFault → Type 0
Tells P fault.NotInNetwork = P model.StepFault.NotInNetwork
Tells P fault.NotNeighbour = P model.StepFault.NotNeighbour
Tells P fault.NotMaster = P model.StepFault.NotMaster
Tells P fault.NoProcess = P model.StepFault.NoProcess
Tells P fault.NoDep = P model.StepFault.NoDep
Tells P fault.PlaceSpent = P model.StepFault.PlaceSpent
Tells P (fault.Carry carry.RunsSpent) = P (model.StepFault.Carry model.CarryFault.RunsSpent)
Tells P (fault.Carry carry.NumbersSpent) = P (model.StepFault.Carry model.CarryFault.NumbersSpent)
Tells P (fault.Carry (carry.PlanFull most)) = P (model.StepFault.Carry (model.CarryFault.PlanFull most))
Tells P (fault.Carry carry.NoMemory) = ⊥
Tells P fault.TooLong = P model.StepFault.TooLong
Tells P fault.NoMemory = ⊥

-- the refusal that a node's fault is: its want of memory is that of the world
abbrev pub refused_by : StepFault → StepRefused
refused_by fault.NoMemory = NoMemory
refused_by f = Step f

-- the first limit that these numbers reached: of steps, of packets, of kept bytes
abbrev pub limit_at : ℕ → ℕ → ℕ → Option LimitName
limit_at taken sent kept =
    first_of_these
    ((nat_le 200000 taken, LimitName.Steps)
    ∷ (nat_le 20000000 sent, LimitName.Packets)
    ∷ (nat_le 268435456 kept, LimitName.Bytes)
    ∷ [])
