-- How the choices that the code names stand for those of the model, whose job a choice names, and which commands have
-- their document.
use Rattle.std.specs.Prelude.{◌≡◌, ℕ, None, Some, true}
use Rattle.model.specs.Types.{Cmd, Events, Job, Submit}
use Rattle.model.specs.History.{View}
use Rattle.model.specs.Catalogue.{owner}
use Rattle.model.specs.Facts.{is_due}
use Rattle.model.specs.Choices as model
use Rattle.carry_forward.specs.Faults.{submit_fault}
use Rattle.batchman_core.specs.declared.choices.Choice.{Choice}
use Rattle.batchman_core.specs.declared.choices.Choice.TheVariants.{Answer, Clock, End, Launch, Lost, Nothing, Release}
use Rattle.batchman_core.specs.declared.choices.Choice.TheVariants.{Late, Until}

-- a choice by its name
abbrev pub choice_of : Choice → model.Choice
choice_of Clock = model.Choice.Clock
choice_of (Lost j) = model.Choice.Lost j
choice_of (Answer a) = model.Choice.Answer a
choice_of (Until o i) = model.Choice.Until o i
choice_of (Late o i) = model.Choice.Late o i
choice_of (Release s) = model.Choice.Release s
choice_of (End s) = model.Choice.End s
choice_of (Launch j) = model.Choice.Launch j
choice_of Nothing = model.Choice.Nothing

-- a job that is lost or launched is w's
abbrev pub IsOwn : View → ℕ → Choice → Type 0
IsOwn V w Clock = Unit {0}
IsOwn V w (Lost j) = owner V (Job j) ≡ Some w
IsOwn V w (Answer a) = Unit {0}
IsOwn V w (Until o i) = Unit {0}
IsOwn V w (Late o i) = Unit {0}
IsOwn V w (Release s) = Unit {0}
IsOwn V w (End s) = Unit {0}
IsOwn V w (Launch j) = owner V (Job j) ≡ Some w
IsOwn V w Nothing = Unit {0}

-- a job that is launched is due, by w's own events
abbrev pub IsDueLaunch : View → ℕ → Choice → Type 0
IsDueLaunch V w Clock = Unit {0}
IsDueLaunch V w (Lost j) = Unit {0}
IsDueLaunch V w (Answer a) = Unit {0}
IsDueLaunch V w (Until o i) = Unit {0}
IsDueLaunch V w (Late o i) = Unit {0}
IsDueLaunch V w (Release s) = Unit {0}
IsDueLaunch V w (End s) = Unit {0}
IsDueLaunch V w (Launch j) = is_due j (V (Events w)) ≡ true
IsDueLaunch V w Nothing = Unit {0}

-- a stream that is submitted has a document: there are numbers for it, and room in the plan
abbrev pub HasDocument : View → Cmd → Type 0
HasDocument V (Submit draft) = submit_fault V draft ≡ None
HasDocument V _ = Unit {0}
