-- The table of commands: which command a line gives, and which workstation it goes to. One row a line.
use Rattle.std.specs.Prelude.{[], ℕ, ◌≡◌, ◌≢◌, ◌∷◌, Bool, Err, List, None, Ok, Option, Result, Some, codes}
use Rattle.std.specs.Prelude.{false, if◌then◌else◌, option_and_then, unwrap_or}
use Rattle.conman_syntax.specs.declared.lines.DepRef.{DepRef}
use Rattle.conman_syntax.specs.declared.lines.JobRef.{JobRef}
use Rattle.conman_syntax.specs.declared.lines.Line.{Line}
use Rattle.conman_syntax.specs.declared.lines.Line.TheVariants as line
use Rattle.conman_syntax.specs.declared.lines.ObjRef.{ObjRef}
use Rattle.conman_syntax.specs.declared.lines.StreamRef.{StreamRef}
use Rattle.base_types.specs.declared.Recovery.TheVariants as recovery
use Rattle.model.specs.Types.{AddDep, AltPri, Cancel, Cmd, Command, Confirm, DelDep, Fence, Job, Kill, Limit, Net}
use Rattle.model.specs.Types.{Obj, Release, ReplyGlobal, ReplyOwn, Rerun, Stop, Stream, StreamDraft, StreamLimit}
use Rattle.model.specs.Types.{Submit, SwitchMgr, Total}
use Rattle.model.specs.Fit.{IsFitCmd}
use Rattle.model.specs.History.{View}
use Rattle.conman_orders.specs.Equals.{first_equal}
use Rattle.conman_orders.specs.Names.{dep_named, is_domain_of, job_named, object_named, prompt_named, resource_named}
use Rattle.conman_orders.specs.Names.{stream_named, with_owner, workstation}
use Rattle.conman_orders.specs.declared.orders.ResolveFault.{ResolveFault}
use Rattle.conman_orders.specs.declared.orders.ResolveFault.TheVariants.{NoMemory, NotACommand, UnknownName}

-- a command with the workstation that it goes to, or the fault
abbrev pub Answer : Type 0
Answer = Result (ℕ × Cmd) ResolveFault

-- where argument n stands for nothing, that is the answer
abbrev pub known : {A : Type 0} → ℕ → Option A → (A → Answer) → Answer
known n None then_ = Err (UnknownName n)
known n (Some a) then_ = then_ a

-- STREAM, JOB, and either of them, each with its owner
abbrev pub owned_stream : Net → View → ℕ → StreamRef → Option (ℕ × ℕ)
owned_stream net V me r = with_owner V Stream (stream_named net V me r)

abbrev pub owned_job : Net → View → ℕ → JobRef → Option (ℕ × ℕ)
owned_job net V me r = with_owner V Job (job_named net V me r)

abbrev pub owned_object : Net → View → ℕ → ObjRef → Option (ℕ × Obj)
owned_object net V me r = with_owner V (λ o. o) (object_named net V me r)

-- a command on an object goes to the object's owner
unfoldable pub on_object : Net → View → ℕ → ObjRef → (Obj → Cmd) → Answer
on_object net V me r command =
    known 1 (owned_object net V me r) (λ (q : ℕ × Obj). Ok (q.0, command q.1))

unfoldable pub on_job : Net → View → ℕ → JobRef → (ℕ → Cmd) → Answer
on_job net V me r command = known 1 (owned_job net V me r) (λ (q : ℕ × ℕ). Ok (q.0, command q.1))

unfoldable pub on_stream : Net → View → ℕ → StreamRef → (ℕ → Cmd) → Answer
on_stream net V me r command = known 1 (owned_stream net V me r) (λ (q : ℕ × ℕ). Ok (q.0, command q.1))

unfoldable pub add_dep : Net → View → ℕ → ObjRef → DepRef → Answer
add_dep net V me r dep =
    known 1 (owned_object net V me r) (λ (q : ℕ × Obj).
    known 2 (dep_named net V me dep) (λ d. Ok (q.0, AddDep q.1 d)))

-- the first dependency of the object that is equal and not waived
unfoldable pub del_dep : Net → View → ℕ → ObjRef → DepRef → Answer
del_dep net V me r dep =
    known 1 (owned_object net V me r) (λ (q : ℕ × Obj).
    known 2 (option_and_then (first_equal V q.1) (dep_named net V me dep)) (λ i. Ok (q.0, DelDep q.1 i)))

-- a command goes to the workstation that argument 1 names
unfoldable pub on_workstation : Net → List ℕ → Cmd → Answer
on_workstation net ws command = known 1 (workstation net ws) (λ w. Ok (w, command))

-- a total goes to the resource's workstation
unfoldable pub total : Net → List ℕ → List ℕ → ℕ → Answer
total net ws name n = known 1 (resource_named net ws name) (λ (q : ℕ × ℕ). Ok (q.0, Total q.1 n))

-- a reply to a prompt of the network goes to the master
unfoldable pub reply_global : Net → List ℕ → Bool → Answer
reply_global net name yes_ = known 1 (prompt_named net name) (λ p. Ok (0, ReplyGlobal p yes_))

-- a stream of one job of its name, on one workstation
unfoldable pub submitted : ℕ → List ℕ → Option (List ℕ) → Option ℕ → StreamDraft
submitted w text alias priority =
    record {
      ws = w;
      name = unwrap_or alias (codes "ADHOC");
      priority = 10;
      limit = None;
      carry = false;
      deps = [];
      jobs =
          record {
            ws = w;
            name = unwrap_or alias (codes "ADHOC");
            priority = unwrap_or priority 10;
            work = Command text;
            logon = [];
            cond = [];
            recovery = recovery.Stop;
            deps = [];
          }
          ∷ [];
    }

-- a submitted stream goes to the master
unfoldable pub submit : Net → List ℕ → List ℕ → Option (List ℕ) → Option ℕ → Answer
submit net ws text alias priority =
    known 1 (workstation net ws) (λ w. Ok (0, Submit (submitted w text alias priority)))

-- the workstation is argument 2 and is looked up first; argument 1 is the name of its domain, and the command goes to
-- the master
unfoldable pub switch_mgr : Net → List ℕ → List ℕ → Answer
switch_mgr net domain ws =
    known 2 (workstation net ws) (λ w. if is_domain_of net w domain then Ok (0, SwitchMgr w) else Err (UnknownName 1))

-- Which answer is due for a line, at the workstation me, which holds this view.
unfoldable pub due_order : Net → View → ℕ → Line → Answer
due_order net V me (line.AddDep object dep) = add_dep net V me object dep
due_order net V me (line.DelDep object dep) = del_dep net V me object dep
due_order net V me (line.Release object) = on_object net V me object Release
due_order net V me (line.AltPri object p) = on_object net V me object (λ o. AltPri o p)
due_order net V me (line.Cancel object) = on_object net V me object Cancel
due_order net V me (line.Confirm job) = on_job net V me job Confirm
due_order net V me (line.Kill job) = on_job net V me job Kill
due_order net V me (line.Rerun job) = on_job net V me job Rerun
due_order net V me (line.Fence ws p) = on_workstation net ws (Fence p)
due_order net V me (line.CpuLimit ws n) = on_workstation net ws (Limit n)
due_order net V me (line.StreamLimit stream n) = on_stream net V me stream (λ s. StreamLimit s n)
due_order net V me (line.Resource ws name n) = total net ws name n
due_order net V me (line.ReplyGlobal name yes_) = reply_global net name yes_
due_order net V me (line.ReplyOwn object i yes_) = on_object net V me object (λ o. ReplyOwn o i yes_)
due_order net V me (line.Start ws) = on_workstation net ws Cmd.Start
due_order net V me (line.Stop ws) = on_workstation net ws Stop
due_order net V me (line.Submit ws text alias priority) = submit net ws text alias priority
due_order net V me (line.SwitchMgr domain ws) = switch_mgr net domain ws
due_order net V me (line.ShowJobs pattern) = Err NotACommand
due_order net V me (line.ShowSchedules pattern) = Err NotACommand
due_order net V me (line.ShowCpus pattern) = Err NotACommand
due_order net V me (line.ShowPrompts pattern) = Err NotACommand
due_order net V me (line.ShowResources pattern) = Err NotACommand
due_order net V me (line.Link ws) = Err NotACommand
due_order net V me (line.Unlink ws) = Err NotACommand
due_order net V me line.Shutdown = Err NotACommand
due_order net V me (line.JNextPlan day) = Err NotACommand

-- memory did not run out
abbrev pub HadMemory : Answer → Type 0
HadMemory result = result ≢ Err NoMemory

-- the answer is the one that is due, unless memory ran out
abbrev pub Gives : Answer → Answer → Type 0
Gives result due = HadMemory result → result ≡ due

-- the line is this command, which goes to that workstation
abbrev pub IsOrder : Net → View → ℕ → Line → ℕ → Cmd → Type 0
IsOrder net V me typed to c = due_order net V me typed ≡ Ok (to, c)

-- Argument n names what is not there. The arguments are looked up in their order, but of `switchmgr` the workstation,
-- argument 2, before the domain, which is known by that workstation alone.
abbrev pub HasUnknownName : Net → View → ℕ → Line → ℕ → Type 0
HasUnknownName net V me typed n = due_order net V me typed ≡ Err (UnknownName n)

-- the line gives no command: it shows, or is for the node itself
abbrev pub GivesNoCommand : Net → View → ℕ → Line → Type 0
GivesNoCommand net V me typed = due_order net V me typed ≡ Err NotACommand

-- the command is one that an entry may have
abbrev pub IsFitOrder : ℕ × Cmd → Type 0
IsFitOrder order = IsFitCmd order.1
