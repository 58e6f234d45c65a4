-- Which steps of the world a line of a record is, in the world that stands before it.
use Rattle.std.specs.List.{list_all}
use Rattle.std.specs.Prelude.{[], ℕ, ◌+◌, ◌-◌, ◌∷◌, Bool, Err, List, None, Ok, Option, Result, Some, drop, false}
use Rattle.std.specs.Prelude.{if◌then◌else◌, length, map, nat_lt, slice_get, true, unwrap_or}
use Rattle.std.specs.Result.{result_ok}
use Rattle.model.specs.Types.{Cmd, Crash, CrashDeliver, CrashTake, Deliver, Fulfil, Linked, LiveJob, Local, Net, Next}
use Rattle.model.specs.Types.{StartFailed, StreamDraft, Take, Turn, Typed, Unlinked, WorldStep}
use Rattle.model.specs.Words.{ascending, numbers_from}
use Rattle.model.specs.Network.{node_count}
use Rattle.model.specs.PresentNet.{present_net}
use Rattle.model.specs.World.{World, result_map, view_at}
use Rattle.conman_syntax.specs.declared.Line.{Line}
use Rattle.conman_orders.specs.Orders.{due_order}
use Rattle.recovery_watch.specs.Advice.{advice}
use Rattle.record_script.specs.declared.OneStep.{OneStep}
use Rattle.record_script.specs.declared.OneStep.TheVariants as one
use Rattle.record_script.specs.declared.StepForm.{StepForm}
use Rattle.record_script.specs.declared.StepForm.TheVariants as form
use Rattle.record_runs.specs.Causes.{Cause, names_nothing}
use Rattle.record_runs.specs.declared.acts.Act.{Act}
use Rattle.record_runs.specs.declared.acts.Act.TheVariants.{Delivery, Own}

-- the drafts of a day, counted from 01/01/1970 as 0, or why there are none
abbrev pub Day : Type 0
Day = ℕ → Result (List StreamDraft) Cause

-- The command that a line gives where it is typed, with the workstation that it goes to. Names are looked up in what the
-- node at w holds, and in the network as it stands for that node.
abbrev pub order_at : Net → World → ℕ → Line → Option (ℕ × Cmd)
order_at net x w line = result_ok (due_order (present_net net (view_at x w)) (view_at x w) w line)

-- it is typed at w, unless it names what is not there
abbrev pub typed : ℕ → Option (ℕ × Cmd) → Result Act Cause
typed w None = Err names_nothing
typed w (Some order) = Ok (Own w (Typed order.0 order.1))

-- the first of the plans that are left; a record that was read has one for each `next`
abbrev pub next_plan : List (List StreamDraft) → List StreamDraft
next_plan left = unwrap_or (slice_get left 0) []

-- What a step of a record is that is one step of the world: what happens at a node by itself, or a delivery. Or why it is
-- none.
unfoldable pub act : Day → Net → World → List (List StreamDraft) → OneStep → Result Act Cause
act day net x left one.Next = Ok (Own 0 (Next (next_plan left)))
act day net x left (one.NextDay d) = result_map (λ drafts. Own 0 (Next drafts)) (day d)
act day net x left (one.Turn w t) = Ok (Own w (Turn t))
act day net x left (one.Link a b) = Ok (Own a (Linked b))
act day net x left (one.Unlink a b) = Ok (Own a (Unlinked b))
act day net x left (one.Deliver a b k) = Ok (Delivery a b k)
act day net x left (one.Started w j) = Ok (Own w (Local.Started j))
act day net x left (one.Failed w j) = Ok (Own w (StartFailed j))
act day net x left (one.Ended w j rc) = Ok (Own w (Local.Ended j rc))
act day net x left (one.Typed w line) = typed w (order_at net x w line)
act day net x left (one.Fulfil w o i) = Ok (Own w (Fulfil o i))

-- it is taken whole
abbrev pub whole : Act → WorldStep
whole (Own w l) = Take w l
whole (Delivery a b k) = Deliver a b k

-- its node stops in it, with the entry of the step kept or not
abbrev pub cut_short : Bool → Act → WorldStep
cut_short kept (Own w l) = CrashTake w l kept
cut_short kept (Delivery a b k) = CrashDeliver a b k kept

-- the numbers of the packets from a to b behind the greatest that was delivered, up to that of the last that was sent
abbrev pub undelivered : World → ℕ → ℕ → List ℕ
undelivered x a b = numbers_from (1 + x.reached a b) (length (x.packets a b) - x.reached a b)

-- the jobs that live at w, in ascending order
abbrev pub live_jobs : World → ℕ → List ℕ
live_jobs x w = ascending (map (λ (l : LiveJob). l.job) (x.sessions w).live)

-- a command that a workstation types for itself, if there is one
abbrev pub advised : ℕ → Option Cmd → List WorldStep
advised w None = []
advised w (Some command) = Take w (Typed w command) ∷ []

-- one step alone
abbrev pub only : WorldStep → List WorldStep
only s = s ∷ []

-- The table: which steps of the world a line is, all of them fixed in the world that stands before it.
unfoldable pub line_steps : Day → Net → World → List (List StreamDraft) → StepForm → Result (List WorldStep) Cause
line_steps day net x left (form.One o) = result_map (λ a. only (whole a)) (act day net x left o)
line_steps day net x left (form.Flow a b) = Ok (map (λ k. Deliver a b k) (undelivered x a b))
line_steps day net x left (form.Reap w rc) = Ok (map (λ j. Take w (Local.Ended j rc)) (live_jobs x w))
line_steps day net x left (form.Crash w) = Ok (only (Crash w))
line_steps day net x left (form.CrashIn w kept o) =
    result_map (λ a. only (cut_short kept a)) (act day net x left o)
line_steps day net x left (form.Recover w) = Ok (advised w (advice (view_at x w) w))

-- it takes a plan
abbrev pub takes_plan_in : OneStep → Bool
takes_plan_in one.Next = true
takes_plan_in _ = false

-- the same of a line: kept or not, a stop in `next` takes one too
abbrev pub takes_plan : StepForm → Bool
takes_plan (form.One o) = takes_plan_in o
takes_plan (form.CrashIn w kept o) = takes_plan_in o
takes_plan _ = false

-- the plans that are left behind a line
abbrev pub left_after : List (List StreamDraft) → StepForm → List (List StreamDraft)
left_after left f = if takes_plan f then drop 1 left else left

-- it asks for the drafts of a day
abbrev pub asks_day_in : OneStep → Bool
asks_day_in (one.NextDay d) = true
asks_day_in _ = false

abbrev pub asks_day : StepForm → Bool
asks_day (form.One o) = asks_day_in o
asks_day (form.CrashIn w kept o) = asks_day_in o
asks_day _ = false

-- workstations of the network
abbrev pub are_inside : Net → List ℕ → Bool
are_inside net ws = list_all (λ w. nat_lt w (node_count net)) ws
