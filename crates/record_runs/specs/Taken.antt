-- What is owed on the way: of one line, of steps one by one.
use Rattle.std.specs.Prelude.{◌≡◌, ◌∷◌, [], ℕ, Err, IfOk, List, Ok, Option, None, Some, Result, option_map}
use Rattle.model.specs.Types.{Net, StreamDraft}
use Rattle.model.specs.StepFaults as model
use Rattle.model.specs.World.{StepRefused, World}
use Rattle.base_types.specs.declared.NoMemory.{NoMemory}
use Rattle.network_world.specs.Stations.{WorldState}
use Rattle.network_world.specs.Standing.{StandsFor}
use Rattle.network_world.specs.declared.StepRefused.{StepRefused as Answer}
use Rattle.network_world.specs.declared.StepRefused.TheVariants as answer
use Rattle.agent_core.specs.declared.StepFault.{StepFault}
use Rattle.agent_core.specs.declared.StepFault.TheVariants as fault
use Rattle.carry_forward.specs.declared.CarryFault.{CarryFault}
use Rattle.carry_forward.specs.declared.CarryFault.TheVariants as carry
use Rattle.record_script.specs.declared.ScriptStep.{ScriptStep}
use Rattle.conman_orders.specs.declared.ResolveFault.{ResolveFault}
use Rattle.conman_orders.specs.declared.ResolveFault.TheVariants as unresolved
use Rattle.record_runs.specs.Causes.{Cause, full_day, no_moment, told, told_refused}
use Rattle.record_runs.specs.Lines.{Day}
use Rattle.record_runs.specs.Runs.{done, run_lines, stopped}
use Rattle.record_runs.specs.declared.days.DayFault.{DayFault}
use Rattle.record_runs.specs.declared.days.DayFault.TheVariants as no_plan
use Rattle.record_runs.specs.declared.acts.Act.{Act}
use Rattle.record_runs.specs.declared.acts.Act.TheVariants.{Delivery, Own}
use Rattle.record_runs.specs.declared.stops.Halt.{Halt}
use Rattle.record_runs.specs.declared.stops.Halt.TheVariants as halt
use Rattle.record_runs.specs.declared.stops.Stop.{Stop}
use Rattle.record_runs.specs.declared.stops.Stop.TheVariants as stop

-- the workstations at whose nodes it happens
abbrev pub ws_in_act : Act → List ℕ
ws_in_act (Own w l) = w ∷ []
ws_in_act (Delivery a b k) = a ∷ b ∷ []

-- the refusal of the definitions that an answer tells, none for want of memory
abbrev pub meant_carry : CarryFault → Option model.CarryFault
meant_carry carry.RunsSpent = Some model.CarryFault.RunsSpent
meant_carry carry.NumbersSpent = Some model.CarryFault.NumbersSpent
meant_carry (carry.PlanFull most) = Some (model.CarryFault.PlanFull most)
meant_carry carry.NoMemory = None

abbrev pub meant_fault : StepFault → Option model.StepFault
meant_fault fault.NotInNetwork = Some model.StepFault.NotInNetwork
meant_fault fault.NotNeighbour = Some model.StepFault.NotNeighbour
meant_fault fault.NotMaster = Some model.StepFault.NotMaster
meant_fault fault.NoProcess = Some model.StepFault.NoProcess
meant_fault fault.NoDep = Some model.StepFault.NoDep
meant_fault fault.PlaceSpent = Some model.StepFault.PlaceSpent
meant_fault (fault.Carry f) = option_map model.StepFault.Carry (meant_carry f)
meant_fault fault.TooLong = Some model.StepFault.TooLong
meant_fault fault.NoMemory = None

abbrev pub meant : Answer → Option StepRefused
meant answer.NoPacket = Some StepRefused.NoPacket
meant (answer.Limit l) = Some (StepRefused.Limit l)
meant (answer.Step f) = option_map StepRefused.Step (meant_fault f)
meant answer.NoMemory = None

-- what halts where a step has this answer
abbrev pub halts_at : Option StepRefused → Halt
halts_at None = halt.NoMemory
halts_at (Some r) = halt.At (told_refused r)

-- a world that stands for some x becomes one that stands for what is made of x, over the same network
pub record Leads (old : WorldState) (made : World → Result World Cause) (new : WorldState) : Type 0 where
  pub net_ : new.net ≡ old.net
  pub leads_ : (x : World) → StandsFor old x → (y : World) × (made x ≡ Ok y) × StandsFor new y

-- nothing is made of whatever world it stands for, for a cause of which this is told
abbrev pub StopsAt : WorldState → (World → Result World Cause) → Stop → Type 0
StopsAt old made s = (x : World) → StandsFor old x → (c : Cause) × (made x ≡ Err c) × (told c ≡ s)

-- memory ran out, or that holds of what is told
abbrev pub HaltsFor : WorldState → (World → Result World Cause) → Halt → Type 0
HaltsFor old made halt.NoMemory = Unit {0}
HaltsFor old made (halt.At s) = StopsAt old made s

-- what was found is what is made of whatever world it stands for
abbrev pub IsMade : {A : Type 0} → WorldState → (World → Result A Cause) → A → Type 0
IsMade old made a = (x : World) → StandsFor old x → made x ≡ Ok a

-- nothing can be made of it, for a cause of which this is told
abbrev pub IsNotMade : {A : Type 0} → WorldState → (World → Result A Cause) → Halt → Type 0
IsNotMade old made halt.NoMemory = Unit {0}
IsNotMade old made (halt.At s) = (x : World) → StandsFor old x → (c : Cause) × (made x ≡ Err c) × (told c ≡ s)

-- the lines led from a world for which the old one stands to one for which the new one does
abbrev pub LeadsAll : WorldState → Day → Net → List (List StreamDraft) → List ScriptStep → WorldState → Type 0
LeadsAll old day net left lines new =
    (x : World) → StandsFor old x → (y : World) × (run_lines day net x left lines ≡ done y) × StandsFor new y

abbrev pub StopsIn : WorldState → Day → Net → List (List StreamDraft) → List ScriptStep → ℕ × Stop → Type 0
StopsIn old day net left lines at_ =
    (x : World) → StandsFor old x
    → (c : Cause) × (run_lines day net x left lines ≡ stopped at_.0 c) × (told c ≡ at_.1)

-- what halts where a line gives no command
abbrev pub halts_order : ResolveFault → Halt
halts_order (unresolved.UnknownName n) = halt.At stop.UnknownName
halts_order unresolved.NotACommand = halt.At stop.UnknownName
halts_order unresolved.NoMemory = halt.NoMemory

-- what halts where a day has no plan
abbrev pub halts_day : DayFault → Halt
halts_day (no_plan.TooMany most) = halt.At (told (full_day most))
halts_day no_plan.NoMoment = halt.At (told no_moment)
halts_day no_plan.NoMemory = halt.NoMemory

-- what halts in a line is told with its number, but for want of memory
abbrev pub IsStopIn : ℕ → Halt → Result (Option (ℕ × Stop)) NoMemory → Type 0
IsStopIn line halt.NoMemory result = IfOk result (λ at_. ⊥)
IsStopIn line (halt.At s) result = result ≡ Ok (Some (line, s))
