-- What an entry changes of what an index knows.
use Rattle.std.specs.Prelude.{[], ℕ, ◌++◌, ◌∷◌, ◌≡◌, ◌≢◌, List, true}
use Rattle.model.specs.Types.{AddDep, Added, AltPri, Body, Canc, Cancel, Clock, Cmd, Confirm, Cont, Declined, DelDep}
use Rattle.model.specs.Types.{Ended, Entry, Failed, Fence, Fulfilled, Kill, Late, Launched, Limit, Lost, NewPlan}
use Rattle.model.specs.Types.{Obeyed, Order, Release, Released, ReplyGlobal, ReplyOwn, Rerun, Started, Stop}
use Rattle.model.specs.Types.{StreamDoc, StreamEnded, StreamLimit, Submit, Suppr, SwitchMgr, Total, UntilPassed}
use Rattle.model.specs.History.{View, view_of}
use Rattle.model.specs.Catalogue.{StreamJob, jobs_of}
use Rattle.model.specs.Readiness.{job_priority, stream_priority}
use Rattle.ready_index.specs.Awaited.{IsAwaited, is_in_play}
use Rattle.ready_index.specs.declared.changes.Change.{Change}
use Rattle.ready_index.specs.declared.changes.Change.TheVariants.{At, Everything, Launch, Nothing}
use Rattle.ready_index.specs.declared.targets.Target.{Target}
use Rattle.ready_index.specs.declared.targets.Target.TheVariants.{EndOfJob, EndOfStream, ReleaseOf}

-- what an obeyed command changes: everything, where it may change what is in play, a priority or what a job waits for
abbrev pub change_by_command : Cmd → Change
change_by_command (AddDep o d) = Everything
change_by_command (DelDep o i) = Everything
change_by_command (Release o) = Everything
change_by_command (AltPri o n) = Everything
change_by_command (Cancel o) = Everything
change_by_command (Confirm j) = Everything
change_by_command (Rerun j) = Everything
change_by_command (Submit draft) = Everything
change_by_command (Kill j) = Nothing
change_by_command (Fence p) = Nothing
change_by_command (Limit n) = Nothing
change_by_command (StreamLimit s n) = Nothing
change_by_command (Total r n) = Nothing
change_by_command (ReplyGlobal p yes_) = Nothing
change_by_command (ReplyOwn o i yes_) = Nothing
change_by_command Cmd.Start = Nothing
change_by_command Stop = Nothing
change_by_command (SwitchMgr w) = Nothing

-- what an entry with this body changes
abbrev pub change_by : Body → Change
change_by (NewPlan run cut carried docs) = Everything
change_by (Added a k doc) = Everything
change_by (Obeyed a k c) = change_by_command c
change_by (UntilPassed o i Canc) = Everything
change_by (UntilPassed o i Suppr) = Nothing
change_by (UntilPassed o i Cont) = Nothing
change_by (Released s seen) = At (ReleaseOf s)
change_by (StreamEnded s seen) = At (EndOfStream s)
change_by (Failed j n) = At (EndOfJob j)
change_by (Ended j n rc good) = At (EndOfJob j)
change_by (Lost j n) = At (EndOfJob j)
change_by (Launched j n seen) = Launch j
change_by (Clock t) = Nothing
change_by (Started j n) = Nothing
change_by (Fulfilled o i) = Nothing
change_by (Declined a k why) = Nothing
change_by (Order c) = Nothing
change_by (Late o i) = Nothing

-- from one view to the next no job of w comes or goes, the priorities stay, no job comes into play, and each job still
-- waits for what it waited for, but for what the change is about
pub record KeepsOthers (V next : View) (w : ℕ) (change : Change) : Type 0 where
  pub jobs : jobs_of next w ≡ jobs_of V w
  pub streams : (d : StreamDoc) → stream_priority next d ≡ stream_priority V d
  pub priorities : (p : StreamJob) → job_priority next p ≡ job_priority V p
  pub play : (p : StreamJob) → is_in_play next w p ≡ true → is_in_play V w p ≡ true
  pub awaited : (p : StreamJob) (t : Target) → change ≢ At t → IsAwaited V p t → IsAwaited next p t

-- an entry that does not change everything leaves the rest as it was
abbrev pub EntriesKeepOthers : Type 0
EntriesKeepOthers =
    (kept : List Entry) (e : Entry) (w : ℕ) → change_by e.body ≢ Everything
    → KeepsOthers (view_of kept) (view_of (kept ++ e ∷ [])) w (change_by e.body)
