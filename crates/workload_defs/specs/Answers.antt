-- What checking answers.
use Rattle.std.specs.Prelude.{◌≡◌, ◌⊎◌, Result, Ok, Err}
use Rattle.composer_parser.specs.declared.Defs.{Defs}
use Rattle.definition_faults.specs.Faults.{IsFaultless, IsFirstFault}
use Rattle.definition_faults.specs.Orders.{told}
use Rattle.definition_faults.specs.declared.DefFault.{DefFault}
use Rattle.definition_faults.specs.declared.DefFault.TheVariants.{NoMemory}
use Rattle.definition_faults.specs.declared.Fault.{Fault}
use Rattle.workload_defs.specs.Tables.{IsWorkload}
use Rattle.workload_defs.specs.declared.workloads.Given.{Given}

-- the first fault, unless memory ran out
abbrev pub IsRefusal : Defs → DefFault → Type 0
IsRefusal d fault = (fault ≡ NoMemory) ⊎ ((f : Fault) × (fault ≡ told f) × IsFirstFault d f)

-- the definitions where they have no fault, and else the first fault
abbrev pub IsAnswer : Defs → Result Defs DefFault → Type 0
IsAnswer d (Ok w) = (w ≡ d) × IsFaultless d
IsAnswer d (Err fault) = IsRefusal d fault

-- what definitions without a fault give, and else the first fault
abbrev pub IsGiven : Defs → Result Given DefFault → Type 0
IsGiven d (Ok given) = IsWorkload d given.hosts given.days
IsGiven d (Err fault) = IsRefusal d fault
