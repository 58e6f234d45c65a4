-- The order of a line is small, and so its answer is short.
use Rattle.std.proofs.Common.{if◌then◌else◌, ℕ, ◌≡◌, Bool, Err, IfOk, List, Ok, Option, None, Some, arith, false}
use Rattle.std.proofs.Common.{option_and_then, refl, subst, true}
use Rattle.model.specs.Types.{AddDep, AltPri, Cancel, Cmd, Confirm, DelDep, Fence, Kill, Limit, Net, Obj, Order, Release}
use Rattle.model.specs.Types.{ReplyGlobal, ReplyOwn, Rerun, Stop, StreamLimit, Submit, SwitchMgr, Total}
use Rattle.model.specs.History.{View}
use Rattle.conman_syntax.specs.Fit.{IsFitLine}
use Rattle.conman_syntax.specs.declared.lines.DepRef.{DepRef}
use Rattle.conman_syntax.specs.declared.lines.JobRef.{JobRef}
use Rattle.conman_syntax.specs.declared.lines.Line.{Line}
use Rattle.conman_syntax.specs.declared.lines.Line.TheVariants as line
use Rattle.conman_syntax.specs.declared.lines.ObjRef.{ObjRef}
use Rattle.conman_syntax.specs.declared.lines.StreamRef.{StreamRef}
use Rattle.conman_orders.specs.Equals.{first_equal}
use Rattle.conman_orders.specs.Names.{dep_named, is_domain_of, prompt_named, resource_named, workstation}
use Rattle.conman_orders.specs.Orders.{Answer, IsOrder, add_dep, del_dep, due_order, known, on_job, on_object, on_stream}
use Rattle.conman_orders.specs.Orders.{on_workstation, owned_job, owned_object, owned_stream, reply_global, submit, submitted}
use Rattle.conman_orders.specs.Orders.{switch_mgr, total}
use Rattle.conman_orders.specs.declared.orders.ResolveFault.TheVariants.{UnknownName}
use Rattle.conman_orders.proofs.Fits.{order_fits}
use Rattle.rest_laws.specs.Short.{IsSmall, has_short_answer}
use Rattle.order_laws.proofs.Told.{told_short}

abbrev Smalls : Answer → Type 0
Smalls answer = IfOk answer (λ (order : ℕ × Cmd). IsSmall order.1)

known_small : {A : Type 0} (n : ℕ) (o : Option A) (f : A → Answer) → ((a : A) → Smalls (f a)) → Smalls (known n o f)
known_small n None f h = tt
known_small n (Some a) f h = h a

object_small : (net : Net) (V : View) (me : ℕ) (r : ObjRef) (command : Obj → Cmd) → ((o : Obj) → IsSmall (command o))
    → Smalls (on_object net V me r command)
unfolding on_object
object_small net V me r command h =
    known_small 1 (owned_object net V me r) (λ (q : ℕ × Obj). Ok (q.0, command q.1)) (λ q. h q.1)

job_small : (net : Net) (V : View) (me : ℕ) (r : JobRef) (command : ℕ → Cmd) → ((j : ℕ) → IsSmall (command j))
    → Smalls (on_job net V me r command)
unfolding on_job
job_small net V me r command h =
    known_small 1 (owned_job net V me r) (λ (q : ℕ × ℕ). Ok (q.0, command q.1)) (λ q. h q.1)

stream_small : (net : Net) (V : View) (me : ℕ) (r : StreamRef) (command : ℕ → Cmd) → ((s : ℕ) → IsSmall (command s))
    → Smalls (on_stream net V me r command)
unfolding on_stream
stream_small net V me r command h =
    known_small 1 (owned_stream net V me r) (λ (q : ℕ × ℕ). Ok (q.0, command q.1)) (λ q. h q.1)

workstation_small : (net : Net) (ws : List ℕ) (command : Cmd) → IsSmall command → Smalls (on_workstation net ws command)
unfolding on_workstation
workstation_small net ws command h = known_small 1 (workstation net ws) (λ w. Ok (w, command)) (λ w. h)

add_small : (net : Net) (V : View) (me : ℕ) (r : ObjRef) (d : DepRef) → Smalls (add_dep net V me r d)
unfolding add_dep
add_small net V me r d =
    known_small 1 (owned_object net V me r)
    (λ (q : ℕ × Obj). known 2 (dep_named net V me d) (λ found. Ok (q.0, AddDep q.1 found)))
    (λ q. known_small 2 (dep_named net V me d) (λ found. Ok (q.0, AddDep q.1 found)) (λ found. tt))

del_small : (net : Net) (V : View) (me : ℕ) (r : ObjRef) (d : DepRef) → Smalls (del_dep net V me r d)
unfolding del_dep
del_small net V me r d =
    known_small 1 (owned_object net V me r)
    (λ (q : ℕ × Obj).
    known 2 (option_and_then (first_equal V q.1) (dep_named net V me d)) (λ i. Ok (q.0, DelDep q.1 i)))
    (λ q.
    known_small 2 (option_and_then (first_equal V q.1) (dep_named net V me d)) (λ i. Ok (q.0, DelDep q.1 i)) (λ i. tt))

total_small : (net : Net) (ws name : List ℕ) (n : ℕ) → Smalls (total net ws name n)
unfolding total
total_small net ws name n =
    known_small 1 (resource_named net ws name) (λ (q : ℕ × ℕ). Ok (q.0, Total q.1 n)) (λ q. tt)

reply_small : (net : Net) (name : List ℕ) (yes_ : Bool) → Smalls (reply_global net name yes_)
unfolding reply_global
reply_small net name yes_ = known_small 1 (prompt_named net name) (λ p. Ok (0, ReplyGlobal p yes_)) (λ p. tt)

switch_small : (net : Net) (domain ws : List ℕ) → Smalls (switch_mgr net domain ws)
unfolding switch_mgr
switch_small net domain ws =
    known_small 2 (workstation net ws)
    (λ w. if is_domain_of net w domain then Ok (0, SwitchMgr w) else Err (UnknownName 1))
    (λ w. go w (is_domain_of net w domain))
  where
    go : (w : ℕ) (b : Bool) → Smalls (if b then Ok (0, SwitchMgr w) else Err (UnknownName 1))
    go w true = tt
    go w false = tt

-- a submitted stream has one job, and no dependencies
submit_small : (net : Net) (ws text : List ℕ) (alias : Option (List ℕ)) (priority : Option ℕ)
    → Smalls (submit net ws text alias priority)
unfolding submit submitted
submit_small net ws text alias priority =
    known_small 1 (workstation net ws) (λ w. Ok (0, Submit (submitted w text alias priority)))
    (λ w. (omega arith, refl, (refl, tt)))

order_small : (net : Net) (V : View) (me : ℕ) (typed : Line) → Smalls (due_order net V me typed)
unfolding due_order
order_small net V me (line.AddDep r d) = add_small net V me r d
order_small net V me (line.DelDep r d) = del_small net V me r d
order_small net V me (line.Release r) = object_small net V me r Release (λ o. tt)
order_small net V me (line.AltPri r p) = object_small net V me r (λ o. AltPri o p) (λ o. tt)
order_small net V me (line.Cancel r) = object_small net V me r Cancel (λ o. tt)
order_small net V me (line.Confirm r) = job_small net V me r Confirm (λ j. tt)
order_small net V me (line.Kill r) = job_small net V me r Kill (λ j. tt)
order_small net V me (line.Rerun r) = job_small net V me r Rerun (λ j. tt)
order_small net V me (line.Fence ws p) = workstation_small net ws (Fence p) tt
order_small net V me (line.CpuLimit ws n) = workstation_small net ws (Limit n) tt
order_small net V me (line.StreamLimit r n) = stream_small net V me r (λ s. StreamLimit s n) (λ s. tt)
order_small net V me (line.Resource ws name n) = total_small net ws name n
order_small net V me (line.ReplyGlobal name yes_) = reply_small net name yes_
order_small net V me (line.ReplyOwn r i yes_) = object_small net V me r (λ o. ReplyOwn o i yes_) (λ o. tt)
order_small net V me (line.Start ws) = workstation_small net ws Cmd.Start tt
order_small net V me (line.Stop ws) = workstation_small net ws Stop tt
order_small net V me (line.Submit ws text alias priority) = submit_small net ws text alias priority
order_small net V me (line.SwitchMgr domain ws) = switch_small net domain ws
order_small net V me (line.ShowJobs pattern) = tt
order_small net V me (line.ShowSchedules pattern) = tt
order_small net V me (line.ShowCpus pattern) = tt
order_small net V me (line.ShowPrompts pattern) = tt
order_small net V me (line.ShowResources pattern) = tt
order_small net V me (line.Link ws) = tt
order_small net V me (line.Unlink ws) = tt
order_small net V me line.Shutdown = tt
order_small net V me (line.JNextPlan day) = tt

pub line_short : (net : Net) (V : View) (me most : ℕ) (typed : Line) (to : ℕ) (c : Cmd) → IsFitLine most typed
    → IsOrder net V me typed to c → has_short_answer (Order c) ≡ true
line_short net V me most typed to c fit is =
    told_short c
    (subst (λ (r : Answer). IfOk r (λ (order : ℕ × Cmd). Rattle.model.specs.Fit.IsFitCmd order.1)) is
    (order_fits net V me typed most fit))
    (subst Smalls is (order_small net V me typed))
