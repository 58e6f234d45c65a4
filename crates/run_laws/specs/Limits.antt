-- Why a run ends for a limit.
use Rattle.std.specs.Prelude.{◌≡◌, ◌⊎◌}
use Rattle.base_types.specs.declared.LimitName.{LimitName}
use Rattle.base_types.specs.declared.LimitName.TheVariants.{File, Places}
use Rattle.model.specs.Types.{Input}
use Rattle.agent_core.specs.Nodes.{NodeState}
use Rattle.agent_core.specs.Steps.{IsDue}
use Rattle.agent_core.specs.declared.faults.StepFault.TheVariants.{PlaceSpent}

-- the file had no room for an entry, or an input met a place that is spent; no other limit ends a run
abbrev pub IsMet : NodeState → LimitName → Type 0
IsMet node name = (name ≡ File) ⊎ ((name ≡ Places) × (input : Input) × IsDue node input PlaceSpent)
