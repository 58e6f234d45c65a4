-- How the outcomes that the code tells stand for those of the model.
use Rattle.std.specs.Prelude.{None, Option, Some}
use Rattle.model.specs.Outcomes as model
use Rattle.owner_rows.specs.declared.launches.Outcome.{Outcome}
use Rattle.owner_rows.specs.declared.launches.Outcome.TheVariants.{EndedBad, EndedGood, Failed, Lost}

-- an outcome by its name
abbrev pub outcome_of : Outcome → model.Outcome
outcome_of EndedGood = model.Outcome.EndedGood
outcome_of EndedBad = model.Outcome.EndedBad
outcome_of Failed = model.Outcome.Failed
outcome_of Lost = model.Outcome.Lost

-- where there is one
abbrev pub told_outcome : Option Outcome → Option model.Outcome
told_outcome None = None
told_outcome (Some o) = Some (outcome_of o)
