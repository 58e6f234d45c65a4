-- The command of a line that was read is one that an entry may have.
use Rattle.std.proofs.Common.{[], if◌then◌else◌, ℕ, ◌+◌, ◌∷◌, ◌≡◌, ◌≤◌, Bool, Err, IfOk, IfSome, List, None, Ok}
use Rattle.std.proofs.Common.{Option, Result, Some, arith, codes, false, length, option_and_then, option_map, refl}
use Rattle.std.proofs.Common.{subst, sym, true, unwrap_or}
use Rattle.std.proofs.lemmas.List.Elements.{All-cons, All-nil}
use Rattle.base_types.specs.declared.Recovery.TheVariants as recovery
use Rattle.conman_syntax.specs.Fit.{IsFitDep as IsShortDep, IsFitLine, IsFitName, IsFitText as IsShort}
use Rattle.conman_syntax.specs.declared.lines.DepRef.{DepRef}
use Rattle.conman_syntax.specs.declared.lines.DepRef.TheVariants as typed
use Rattle.conman_syntax.specs.declared.lines.JobRef.{JobRef}
use Rattle.conman_syntax.specs.declared.lines.Line.{Line}
use Rattle.conman_syntax.specs.declared.lines.Line.TheVariants as line
use Rattle.conman_syntax.specs.declared.lines.ObjRef.{ObjRef}
use Rattle.conman_syntax.specs.declared.lines.StreamRef.{StreamRef}
use Rattle.model.specs.Types.{AddDep, AltPri, Cancel, Cmd, Command, Confirm, DelDep, Dep, Fence, FollowsJob, FollowsStream, Global, Kill, Limit, Needs}
use Rattle.model.specs.Types.{Net, Obj, Own, Prompt, Release, ReplyGlobal, ReplyOwn, Rerun, Stop, Stream, StreamLimit}
use Rattle.model.specs.Types.{Submit, SwitchMgr, Total}
use Rattle.model.specs.Fit.{IsFitCmd, IsFitDep, IsFitDraft, IsFitDraftDep, IsFitJobDraft, IsFitText}
use Rattle.model.specs.History.{View}
use Rattle.conman_orders.specs.Equals.{first_equal}
use Rattle.conman_orders.specs.Names.{dep_named, is_domain_of, job_named, prompt_named, resource_named, stream_named}
use Rattle.conman_orders.specs.Names.{workstation}
use Rattle.conman_orders.specs.Orders.{Answer, HadMemory, IsFitOrder, add_dep, del_dep, due_order, known, on_job}
use Rattle.conman_orders.specs.Orders.{on_object, on_stream, on_workstation, owned_job, owned_object, owned_stream}
use Rattle.conman_orders.specs.Orders.{reply_global, submit, submitted, switch_mgr, total}
use Rattle.conman_orders.specs.declared.orders.ResolveFault.{ResolveFault}
use Rattle.conman_orders.specs.declared.orders.ResolveFault.TheVariants.{UnknownName}

abbrev Fits : Answer → Type 0
Fits answer = IfOk answer IsFitOrder

known_fits : {A : Type 0} (n : ℕ) (o : Option A) (f : A → Answer) → ((a : A) → Fits (f a)) → Fits (known n o f)
known_fits n None f h = tt
known_fits n (Some a) f h = h a

found_fits : {A : Type 0} (P : A → Type 0) (n : ℕ) (o : Option A) (f : A → Answer) → IfSome o P
    → ((a : A) → P a → Fits (f a)) → Fits (known n o f)
found_fits P n None f p h = tt
found_fits P n (Some a) f p h = h a p

-- dependencies
mapped : {A : Type 0} (o : Option A) (f : A → Dep) → ((a : A) → IsFitDep (f a)) → IfSome (option_map f o) IsFitDep
mapped None f h = tt
mapped (Some a) f h = h a

dep_fits : (net : Net) (V : View) (me : ℕ) (d : DepRef) → IsShortDep d → IfSome (dep_named net V me d) IsFitDep
unfolding dep_named
dep_fits net V me (typed.FollowsJob r) h = mapped (job_named net V me r) FollowsJob (λ j. tt)
dep_fits net V me (typed.FollowsStream r) h = mapped (stream_named net V me r) FollowsStream (λ s. tt)
dep_fits net V me (typed.Needs n ws name) h =
    mapped (resource_named net ws name) (λ (q : ℕ × ℕ). Needs q.1 n) (λ q. tt)
dep_fits net V me (typed.PromptName name) h = mapped (prompt_named net name) (λ p. Prompt (Global p)) (λ p. tt)
dep_fits net V me (typed.PromptText text) h = h
dep_fits net V me (typed.At t) h = tt
dep_fits net V me (typed.Until t mark) h = tt

add_dep_fits : (net : Net) (V : View) (me : ℕ) (r : ObjRef) (d : DepRef) → IsShortDep d
    → Fits (add_dep net V me r d)
unfolding add_dep
add_dep_fits net V me r d h =
    known_fits 1 (owned_object net V me r)
    (λ (q : ℕ × Obj). known 2 (dep_named net V me d) (λ found. Ok (q.0, AddDep q.1 found)))
    (λ q.
    found_fits IsFitDep 2 (dep_named net V me d) (λ found. Ok (q.0, AddDep q.1 found)) (dep_fits net V me d h)
    (λ found k. k))

del_dep_fits : (net : Net) (V : View) (me : ℕ) (r : ObjRef) (d : DepRef) → Fits (del_dep net V me r d)
unfolding del_dep
del_dep_fits net V me r d =
    known_fits 1 (owned_object net V me r)
    (λ (q : ℕ × Obj).
    known 2 (option_and_then (first_equal V q.1) (dep_named net V me d)) (λ i. Ok (q.0, DelDep q.1 i)))
    (λ q.
    known_fits 2 (option_and_then (first_equal V q.1) (dep_named net V me d)) (λ i. Ok (q.0, DelDep q.1 i)) (λ i. tt))

-- commands that bring no text
object_fits : (net : Net) (V : View) (me : ℕ) (r : ObjRef) (command : Obj → Cmd) → ((o : Obj) → IsFitCmd (command o))
    → Fits (on_object net V me r command)
unfolding on_object
object_fits net V me r command h =
    known_fits 1 (owned_object net V me r) (λ (q : ℕ × Obj). Ok (q.0, command q.1)) (λ q. h q.1)

job_fits : (net : Net) (V : View) (me : ℕ) (r : JobRef) (command : ℕ → Cmd) → ((j : ℕ) → IsFitCmd (command j))
    → Fits (on_job net V me r command)
unfolding on_job
job_fits net V me r command h =
    known_fits 1 (owned_job net V me r) (λ (q : ℕ × ℕ). Ok (q.0, command q.1)) (λ q. h q.1)

stream_fits : (net : Net) (V : View) (me : ℕ) (r : StreamRef) (command : ℕ → Cmd) → ((s : ℕ) → IsFitCmd (command s))
    → Fits (on_stream net V me r command)
unfolding on_stream
stream_fits net V me r command h =
    known_fits 1 (owned_stream net V me r) (λ (q : ℕ × ℕ). Ok (q.0, command q.1)) (λ q. h q.1)

workstation_fits : (net : Net) (ws : List ℕ) (command : Cmd) → IsFitCmd command
    → Fits (on_workstation net ws command)
unfolding on_workstation
workstation_fits net ws command h = known_fits 1 (workstation net ws) (λ w. Ok (w, command)) (λ w. h)

total_fits : (net : Net) (ws name : List ℕ) (n : ℕ) → Fits (total net ws name n)
unfolding total
total_fits net ws name n =
    known_fits 1 (resource_named net ws name) (λ (q : ℕ × ℕ). Ok (q.0, Total q.1 n)) (λ q. tt)

reply_fits : (net : Net) (name : List ℕ) (yes_ : Bool) → Fits (reply_global net name yes_)
unfolding reply_global
reply_fits net name yes_ = known_fits 1 (prompt_named net name) (λ p. Ok (0, ReplyGlobal p yes_)) (λ p. tt)

switch_fits : (net : Net) (domain ws : List ℕ) → Fits (switch_mgr net domain ws)
unfolding switch_mgr
switch_fits net domain ws =
    known_fits 2 (workstation net ws)
    (λ w. if is_domain_of net w domain then Ok (0, SwitchMgr w) else Err (UnknownName 1))
    (λ w. go w (is_domain_of net w domain))
  where
    go : (w : ℕ) (b : Bool) → Fits (if b then Ok (0, SwitchMgr w) else Err (UnknownName 1))
    go w true = tt
    go w false = tt

-- a submitted stream
called_fits : (alias : Option (List ℕ)) → IfSome alias IsFitName → IsFitText (unwrap_or alias (codes "ADHOC"))
called_fits None h = omega arith
called_fits (Some name) h = omega (arith, h)

draft_fits : (w : ℕ) (text : List ℕ) (alias : Option (List ℕ)) (priority : Option ℕ) → IsShort text
    → IfSome alias IsFitName → IsFitDraft (submitted w text alias priority)
unfolding submitted
draft_fits w text alias priority t a =
    record {
      name_ = called_fits alias a;
      deps_ = (omega arith, All-nil IsFitDraftDep);
      jobs_ = (
        omega arith,
        All-cons IsFitJobDraft
            (record {
              ws = w;
              name = unwrap_or alias (codes "ADHOC");
              priority = unwrap_or priority 10;
              work = Command text;
              logon = [];
              cond = [];
              recovery = recovery.Stop;
              deps = [];
            })
            []
            (record {
              name_ = called_fits alias a;
              work_ = t;
              logon_ = omega arith;
              cond_ = omega arith;
              deps_ = (omega arith, All-nil IsFitDraftDep);
            })
            (All-nil IsFitJobDraft),
      );
    }

submit_fits : (net : Net) (ws text : List ℕ) (alias : Option (List ℕ)) (priority : Option ℕ) → IsShort text
    → IfSome alias IsFitName → Fits (submit net ws text alias priority)
unfolding submit
submit_fits net ws text alias priority t a =
    known_fits 1 (workstation net ws) (λ w. Ok (0, Submit (submitted w text alias priority)))
    (λ w. draft_fits w text alias priority t a)

pub order_fits : (net : Net) (V : View) (me : ℕ) (typed_line : Line) (most : ℕ) → IsFitLine most typed_line
    → Fits (due_order net V me typed_line)
unfolding due_order
order_fits net V me (line.AddDep r d) most h = add_dep_fits net V me r d h.1
order_fits net V me (line.DelDep r d) most h = del_dep_fits net V me r d
order_fits net V me (line.Release r) most h = object_fits net V me r Release (λ o. tt)
order_fits net V me (line.AltPri r p) most h = object_fits net V me r (λ o. AltPri o p) (λ o. tt)
order_fits net V me (line.Cancel r) most h = object_fits net V me r Cancel (λ o. tt)
order_fits net V me (line.Confirm r) most h = job_fits net V me r Confirm (λ j. tt)
order_fits net V me (line.Kill r) most h = job_fits net V me r Kill (λ j. tt)
order_fits net V me (line.Rerun r) most h = job_fits net V me r Rerun (λ j. tt)
order_fits net V me (line.Fence ws p) most h = workstation_fits net ws (Fence p) tt
order_fits net V me (line.CpuLimit ws n) most h = workstation_fits net ws (Limit n) tt
order_fits net V me (line.StreamLimit r n) most h = stream_fits net V me r (λ s. StreamLimit s n) (λ s. tt)
order_fits net V me (line.Resource ws name n) most h = total_fits net ws name n
order_fits net V me (line.ReplyGlobal name yes_) most h = reply_fits net name yes_
order_fits net V me (line.ReplyOwn r i yes_) most h = object_fits net V me r (λ o. ReplyOwn o i yes_) (λ o. tt)
order_fits net V me (line.Start ws) most h = workstation_fits net ws Cmd.Start tt
order_fits net V me (line.Stop ws) most h = workstation_fits net ws Stop tt
order_fits net V me (line.Submit ws text alias priority) most h =
    submit_fits net ws text alias priority h.1.0 h.1.1
order_fits net V me (line.SwitchMgr domain ws) most h = switch_fits net domain ws
order_fits net V me (line.ShowJobs pattern) most h = tt
order_fits net V me (line.ShowSchedules pattern) most h = tt
order_fits net V me (line.ShowCpus pattern) most h = tt
order_fits net V me (line.ShowPrompts pattern) most h = tt
order_fits net V me (line.ShowResources pattern) most h = tt
order_fits net V me (line.Link ws) most h = tt
order_fits net V me (line.Unlink ws) most h = tt
order_fits net V me line.Shutdown most h = tt
order_fits net V me (line.JNextPlan day) most h = tt

-- so an answer is fit that is the due one where memory did not run out
pub answer_fits : (net : Net) (V : View) (me : ℕ) (typed_line : Line) (most : ℕ) (r : Answer)
    → (HadMemory r → r ≡ due_order net V me typed_line) → IsFitLine most typed_line → Fits r
answer_fits net V me typed_line most (Ok q) h k =
    let e : Ok q ≡ due_order net V me typed_line = h (λ m. cc) in
    subst Fits (sym e) (order_fits net V me typed_line most k)
answer_fits net V me typed_line most (Err f) h k = tt
