-- What never stops the run of a record whose plans name workstations of its own network.
use Rattle.std.specs.List.{AllByRecursion}
use Rattle.std.specs.Prelude.{◌≡◌, ◌≤◌, ◌^◌, ℕ, Bool, Err, IsTrue, List, Ok, Result, false, flat_map, length, true}
use Rattle.model.specs.Types.{LimitName, Net, StreamDraft}
use Rattle.model.specs.NewPlan.{jobs_in_drafts}
use Rattle.model.specs.Workstations.{ws_in_draft}
use Rattle.record_script.specs.declared.Script.{Script}
use Rattle.record_runs.specs.Causes.{Cause, told}
use Rattle.record_runs.specs.Lines.{Day, are_inside}
use Rattle.record_runs.specs.declared.stops.Stop.{Stop}
use Rattle.record_runs.specs.declared.stops.Stop.TheVariants as stop
use Rattle.record_runs.specs.declared.runs.RunEnd.{RunEnd}
use Rattle.record_runs.specs.declared.runs.RunEnd.TheVariants.{Done, Stopped}

-- a limit that no step of a replay comes to: those of inputs and files are not its own, and its entries are too few to
-- spend the places of a feed
abbrev pub is_beyond_replays : LimitName → Bool
is_beyond_replays LimitName.Input = true
is_beyond_replays LimitName.File = true
is_beyond_replays LimitName.Places = true
is_beyond_replays _ = false

-- a workstation outside the network is named, another one than the master takes a plan, or such a limit is passed
abbrev pub never_comes : Stop → Bool
never_comes stop.NotInNetwork = true
never_comes stop.NotMaster = true
never_comes (stop.Limit name number) = is_beyond_replays name
never_comes _ = false

-- the run does not stop so
abbrev pub StopsOtherwise : RunEnd → Type 0
StopsOtherwise (Done w) = Unit {0}
StopsOtherwise (Stopped line s) = never_comes s ≡ false

-- a plan that names workstations of the network alone, of at most 2 ^ 31 streams and as many jobs
pub record IsPlanFor (net : Net) (drafts : List StreamDraft) : Type 0 where
  pub inside : IsTrue (are_inside net (flat_map ws_in_draft drafts))
  pub streams : length drafts ≤ 2 ^ 31
  pub jobs_ : jobs_in_drafts drafts ≤ 2 ^ 31

-- the same of what is given for a day, or a cause that may come
abbrev pub IsDayFor : Net → Result (List StreamDraft) Cause → Type 0
IsDayFor net (Ok drafts) = IsPlanFor net drafts
IsDayFor net (Err c) = never_comes (told c) ≡ false

-- the plans of a record, and of its days, are plans for its network
pub record ArePlansFor (script : Script) (day : Day) : Type 0 where
  pub sections : AllByRecursion (IsPlanFor script.net) script.plans
  pub days : (n : ℕ) → IsDayFor script.net (day n)
