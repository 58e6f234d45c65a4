-- Whom an entry speaks of.
use Rattle.std.specs.Bool.{then_some}
use Rattle.std.specs.Prelude.{ℕ, ◌*◌, ◌+◌, Bool, None, Option, Some, false, option_map, true}
use Rattle.model.specs.Types.{Added, Body, Clock, Cmd, Confirm, Declined, Ended, Entry, Events, Failed, Feed, Fence}
use Rattle.model.specs.Types.{AddDep, AltPri, Cancel, DelDep, Fulfilled, Job, Late, Obj, Release, ReplyGlobal, ReplyOwn, Stream}
use Rattle.model.specs.Types.{Launched, Limit, Lost, NewPlan, Obeyed, Orders, Released, Rerun, Started, Stop}
use Rattle.model.specs.Types.{StreamEnded, StreamLimit, Total, UntilPassed}

-- the job whose launches, reruns or confirms a body changes
abbrev pub job_in : Body → Option ℕ
job_in (Launched j n seen) = Some j
job_in (Started j n) = Some j
job_in (Failed j n) = Some j
job_in (Ended j n rc good) = Some j
job_in (Lost j n) = Some j
job_in (Obeyed a k (Rerun j)) = Some j
job_in (Obeyed a k (Confirm j)) = Some j
job_in _ = None

-- the workstation in whose events it stands, and the number
abbrev pub key_at : {N : Type 0} → Option N → Feed → Option (ℕ × N)
key_at o (Events w) = option_map (λ n. (w, n)) o
key_at o (Orders a w) = None

abbrev pub key_in : {N : Type 0} → (Body → Option N) → Entry → Option (ℕ × N)
key_in subject e = key_at (subject e.body) e.feed

-- a body changes what is told of the workstation itself
abbrev pub is_of_station : Body → Bool
is_of_station (Clock t) = true
is_of_station (Obeyed a k (Fence p)) = true
is_of_station (Obeyed a k (Limit n)) = true
is_of_station (Obeyed a k Cmd.Start) = true
is_of_station (Obeyed a k Stop) = true
is_of_station (NewPlan run cut carried docs) = true
is_of_station _ = false

-- which has one row, that of 0
abbrev pub station_in : Body → Option ℕ
station_in b = then_some (is_of_station b) 0

-- the issuer whose order a body answers
abbrev pub issuer_in : Body → Option ℕ
issuer_in (Obeyed a k c) = Some a
issuer_in (Added a k doc) = Some a
issuer_in (Declined a k why) = Some a
issuer_in _ = None

-- the stream that a body releases or ends, or whose limit it sets
abbrev pub stream_in : Body → Option ℕ
stream_in (Released s seen) = Some s
stream_in (StreamEnded s seen) = Some s
stream_in (Obeyed a k (StreamLimit s n)) = Some s
stream_in _ = None

-- the object that a body cancels, tells to be late or releases from its dependencies, or whose priority or
-- dependencies it changes
abbrev pub object_in : Body → Option Obj
object_in (UntilPassed o i mark) = Some o
object_in (Late o i) = Some o
object_in (Obeyed a k (Cancel o)) = Some o
object_in (Obeyed a k (Release o)) = Some o
object_in (Obeyed a k (AltPri o p)) = Some o
object_in (Obeyed a k (AddDep o d)) = Some o
object_in _ = None

-- the number of an object in the tables
abbrev pub object_number : Obj → ℕ
object_number (Job j) = j * 2
object_number (Stream s) = s * 2 + 1

abbrev pub object_number_in : Body → Option ℕ
object_number_in b = option_map object_number (object_in b)

-- the dependency that a body deletes, or of which it tells a reply, a file or a time
abbrev pub dep_in : Body → Option (Obj × ℕ)
dep_in (UntilPassed o i mark) = Some (o, i)
dep_in (Late o i) = Some (o, i)
dep_in (Fulfilled o i) = Some (o, i)
dep_in (Obeyed a k (ReplyOwn o i yes_)) = Some (o, i)
dep_in (Obeyed a k (DelDep o i)) = Some (o, i)
dep_in _ = None

-- its numbers in the tables
abbrev pub dep_number : Obj × ℕ → ℕ × ℕ
dep_number p = (object_number p.0, p.1)

abbrev pub dep_number_in : Body → Option (ℕ × ℕ)
dep_number_in b = option_map dep_number (dep_in b)

-- the launch of which a body tells the start
abbrev pub start_in : Body → Option (ℕ × ℕ)
start_in (Started j n) = Some (j, n)
start_in _ = None

-- the resource whose total a body sets
abbrev pub resource_in : Body → Option ℕ
resource_in (Obeyed a k (Total r n)) = Some r
resource_in _ = None

-- a body is a plan
abbrev pub is_plan : Body → Bool
is_plan (NewPlan run cut carried docs) = true
is_plan _ = false

-- a workstation has one count of plans, that of 0
abbrev pub plan_in : Body → Option ℕ
plan_in b = then_some (is_plan b) 0

-- the prompt of the network to which a body has the reply
abbrev pub prompt_in : Body → Option ℕ
prompt_in (Obeyed a k (ReplyGlobal p yes_)) = Some p
prompt_in _ = None
