-- Why there is no plan and no document, as the calls answer it.
use Rattle.std.specs.Prelude.{[], ℕ, ◌∷◌, List, Option, option_map}
use Rattle.model.specs.Types.{Net, StreamDraft}
use Rattle.model.specs.Words.{first_of_these}
use Rattle.model.specs.History.{View}
use Rattle.model.specs.Catalogue.{members}
use Rattle.model.specs.NewPlan.{are_jobs_too_many, are_numbers_spent, are_streams_too_many}
use Rattle.model.specs.StepFaults as model
use Rattle.carry_forward.specs.declared.faults.CarryFault.{CarryFault}
use Rattle.carry_forward.specs.declared.faults.CarryFault.TheVariants.{NumbersSpent, PlanFull, RunsSpent}

-- a fault by its name
abbrev pub fault_of : model.CarryFault → CarryFault
fault_of model.CarryFault.RunsSpent = RunsSpent
fault_of model.CarryFault.NumbersSpent = NumbersSpent
fault_of (model.CarryFault.PlanFull n) = PlanFull n

-- why there is no plan of these drafts: the first fault of the model's that applies
abbrev pub plan_fault : Net → View → List StreamDraft → Option CarryFault
plan_fault net V drafts = option_map fault_of (model.carry_fault net V drafts)

-- why these streams and the drafts are no plan: too many streams, or else too many jobs
abbrev pub room_fault : View → List ℕ → List StreamDraft → Option CarryFault
room_fault V earlier drafts =
    first_of_these
    ((are_streams_too_many earlier drafts, PlanFull 4096)
    ∷ (are_jobs_too_many V earlier drafts, PlanFull 16384)
    ∷ [])

-- why a submitted stream has no document: numbers are spent, or the plan is full with it
unfoldable pub submit_fault : View → StreamDraft → Option CarryFault
submit_fault V draft =
    first_of_these
    ((are_numbers_spent V (draft ∷ []), NumbersSpent)
    ∷ (are_streams_too_many (members V) (draft ∷ []), PlanFull 4096)
    ∷ (are_jobs_too_many V (members V) (draft ∷ []), PlanFull 16384)
    ∷ [])
