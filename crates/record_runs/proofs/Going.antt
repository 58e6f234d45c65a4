-- A command that is typed or advised goes to a workstation of the network, and names such ones alone.
use Rattle.std.proofs.Common.{◌≡◌, ◌<◌, ℕ, Bool, List, [], ◌∷◌, Option, None, Some, arith, cond, false, if◌then◌else◌, length, refl, true}
use Rattle.std.proofs.lemmas.Bool.{lt-ltb}
use Rattle.std.specs.List.{position_from}
use Rattle.std.specs.Prelude.{◌+◌, Err, IfOk, IfSome, Ok, filter, option_and_then, option_map}
use Rattle.lemmas.proofs.Options.{some_followed, some_mapped}
use Rattle.base_types.specs.declared.Recovery.{Recovery}
use Rattle.base_types.specs.declared.Recovery.TheVariants as recovery
use Rattle.model.specs.Types.{AddDep, AltPri, Cancel, Cmd, Confirm, DelDep, Fence, Job, Kill, Limit, Net, Node, Obj}
use Rattle.model.specs.Types.{Release, ReplyGlobal, ReplyOwn, Rerun, Stop, Stream, StreamLimit, Submit, SwitchMgr, Total}
use Rattle.model.specs.Words.{least}
use Rattle.model.specs.Equalities.{text_eq}
use Rattle.model.specs.Network.{node_count}
use Rattle.model.specs.History.{View}
use Rattle.model.specs.Catalogue.{StreamJob, job, owner}
use Rattle.model.specs.OwnMembers.{own_job_numbers}
use Rattle.model.specs.Workstations.{ws_in_cmd}
use Rattle.model_laws.proofs.Inside.{AreIn, IsIn, ViewIsIn}
use Rattle.conman_syntax.specs.declared.lines.DepRef.{DepRef}
use Rattle.conman_syntax.specs.declared.lines.JobRef.{JobRef}
use Rattle.conman_syntax.specs.declared.lines.Line.{Line}
use Rattle.conman_syntax.specs.declared.lines.Line.TheVariants as line
use Rattle.conman_syntax.specs.declared.lines.ObjRef.{ObjRef}
use Rattle.conman_syntax.specs.declared.lines.StreamRef.{StreamRef}
use Rattle.conman_orders.specs.Equals.{first_equal}
use Rattle.conman_orders.specs.Names.{dep_named, is_domain_of, job_named, object_named, prompt_named, resource_named}
use Rattle.conman_orders.specs.Names.{resource_on, stream_named, with_owner, workstation}
use Rattle.conman_orders.specs.Orders.{Answer, add_dep, del_dep, due_order, known, on_job, on_object, on_stream}
use Rattle.conman_orders.specs.Orders.{on_workstation, owned_job, owned_object, owned_stream, reply_global, submit, submitted}
use Rattle.conman_orders.specs.Orders.{switch_mgr, total}
use Rattle.conman_orders.specs.declared.orders.ResolveFault.TheVariants.{UnknownName}
use Rattle.recovery_watch.specs.Advice.{advice, advised_at, advised_by, is_waiting, needs_advice}
use Rattle.recovery_watch.specs.Advice as advices
use Rattle.record_runs.proofs.Owners.{owner_in}

-- where an order goes, and what it names
abbrev pub GoesIn : Net → ℕ × Cmd → Type 0
GoesIn net order = AreIn net (order.0 ∷ ws_in_cmd order.1)

pub place_low : {A : Type 0} (p : A → Bool) (from : ℕ) (xs : List A) → IfSome (position_from p from xs) (λ i. i < from + length xs)
place_low p from [] = tt
place_low {A} p from (x ∷ xs) = go (p x) (place_low p (from + 1) xs)
  where
    later : (o : Option ℕ) → IfSome o (λ i. i < from + 1 + length xs) → IfSome o (λ i. i < from + length (x ∷ xs))
    later None h = tt
    later (Some i) h = omega (arith, h)

    go : (b : Bool) → IfSome (position_from p (from + 1) xs) (λ i. i < from + 1 + length xs)
        → IfSome (cond b (Some from) (position_from p (from + 1) xs)) (λ i. i < from + length (x ∷ xs))
    go true h = omega arith
    go false h = later (position_from p (from + 1) xs) h

module _ (net : Net) (u : Net) (same : node_count u ≡ node_count net) (first : IsIn net 0) where
  abbrev Goes : Answer → Type 0
  Goes r = IfOk r (GoesIn net)

  known_goes : {A : Type 0} (P : A → Type 0) (n : ℕ) (o : Option A) (then_ : A → Answer) → IfSome o P
      → ((a : A) → P a → Goes (then_ a)) → Goes (known n o then_)
  known_goes P n None then_ h each = tt
  known_goes P n (Some a) then_ h each = each a h

  anything : {A : Type 0} (o : Option A) → IfSome o (λ a. Unit {0})
  anything None = tt
  anything (Some a) = tt

  workstation_in : (ws : List ℕ) → IfSome (workstation u ws) (IsIn net)
  unfolding workstation
  workstation_in ws =
      go (position_from (λ (n : Node). text_eq n.name ws) 0 u.nodes)
      (place_low (λ (n : Node). text_eq n.name ws) 0 u.nodes)
    where
      go : (o : Option ℕ) → IfSome o (λ i. i < 0 + length u.nodes) → IfSome o (IsIn net)
      go None h = tt
      go (Some i) h = lt-ltb i (node_count net) (omega (arith, h, same))

  resource_in : (ws name : List ℕ) → IfSome (resource_named u ws name) (λ q. IsIn net q.0)
  unfolding resource_named
  resource_in ws name =
      some_followed (IsIn net) (λ q. IsIn net q.0) (workstation u ws)
      (λ w. option_map (λ r. (w, r)) (resource_on u w name)) (workstation_in ws)
      (λ w h. some_mapped (λ r. Unit {0}) (λ q. IsIn net q.0) (resource_on u w name) (λ r. (w, r))
      (anything (resource_on u w name)) (λ r k. h))

  module _ (V : View) (inside : ViewIsIn net V) where
    owned : {A : Type 0} (object : A → Obj) (found : Option A) → IfSome (with_owner V object found) (λ q. IsIn net q.0)
    owned object None = tt
    owned object (Some a) =
        some_mapped (IsIn net) (λ q. IsIn net q.0) (owner V (object a)) (λ w. (w, a)) (owner_in net V inside (object a))
        (λ w h. h)

    object_goes : (me : ℕ) (r : ObjRef) (command : Obj → Cmd) → ((o : Obj) → AreIn net (ws_in_cmd (command o)))
        → Goes (on_object u V me r command)
    unfolding on_object
    object_goes me r command none =
        known_goes (λ q. IsIn net q.0) 1 (owned_object u V me r) (λ (q : ℕ × Obj). Ok (q.0, command q.1))
        (owned (λ o. o) (object_named u V me r)) (λ q h. (h, none q.1))

    job_goes : (me : ℕ) (r : JobRef) (command : ℕ → Cmd) → ((j : ℕ) → AreIn net (ws_in_cmd (command j)))
        → Goes (on_job u V me r command)
    unfolding on_job
    job_goes me r command none =
        known_goes (λ q. IsIn net q.0) 1 (owned_job u V me r) (λ (q : ℕ × ℕ). Ok (q.0, command q.1))
        (owned Job (job_named u V me r)) (λ q h. (h, none q.1))

    stream_goes : (me : ℕ) (r : StreamRef) (command : ℕ → Cmd) → ((s : ℕ) → AreIn net (ws_in_cmd (command s)))
        → Goes (on_stream u V me r command)
    unfolding on_stream
    stream_goes me r command none =
        known_goes (λ q. IsIn net q.0) 1 (owned_stream u V me r) (λ (q : ℕ × ℕ). Ok (q.0, command q.1))
        (owned Stream (stream_named u V me r)) (λ q h. (h, none q.1))

    add_goes : (me : ℕ) (r : ObjRef) (dep : DepRef) → Goes (add_dep u V me r dep)
    unfolding add_dep
    add_goes me r dep =
        known_goes (λ q. IsIn net q.0) 1 (owned_object u V me r)
        (λ (q : ℕ × Obj). known 2 (dep_named u V me dep) (λ d. Ok (q.0, AddDep q.1 d)))
        (owned (λ o. o) (object_named u V me r))
        (λ q h. known_goes (λ d. Unit {0}) 2 (dep_named u V me dep) (λ d. Ok (q.0, AddDep q.1 d))
        (anything (dep_named u V me dep)) (λ d k. (h, tt)))

    del_goes : (me : ℕ) (r : ObjRef) (dep : DepRef) → Goes (del_dep u V me r dep)
    unfolding del_dep
    del_goes me r dep =
        known_goes (λ q. IsIn net q.0) 1 (owned_object u V me r)
        (λ (q : ℕ × Obj). known 2 (option_and_then (first_equal V q.1) (dep_named u V me dep)) (λ i. Ok (q.0, DelDep q.1 i)))
        (owned (λ o. o) (object_named u V me r))
        (λ q h. known_goes (λ d. Unit {0}) 2 (option_and_then (first_equal V q.1) (dep_named u V me dep))
        (λ i. Ok (q.0, DelDep q.1 i)) (anything (option_and_then (first_equal V q.1) (dep_named u V me dep)))
        (λ d k. (h, tt)))

    workstation_goes : (ws : List ℕ) (command : Cmd) → AreIn net (ws_in_cmd command) → Goes (on_workstation u ws command)
    unfolding on_workstation
    workstation_goes ws command none =
        known_goes (IsIn net) 1 (workstation u ws) (λ w. Ok (w, command)) (workstation_in ws) (λ w h. (h, none))

    total_goes : (ws name : List ℕ) (n : ℕ) → Goes (total u ws name n)
    unfolding total
    total_goes ws name n =
        known_goes (λ q. IsIn net q.0) 1 (resource_named u ws name) (λ (q : ℕ × ℕ). Ok (q.0, Total q.1 n))
        (resource_in ws name) (λ q h. (h, tt))

    reply_goes : (name : List ℕ) (yes_ : Bool) → Goes (reply_global u name yes_)
    unfolding reply_global
    reply_goes name yes_ =
        known_goes (λ p. Unit {0}) 1 (prompt_named u name) (λ p. Ok (0, ReplyGlobal p yes_))
        (anything (prompt_named u name)) (λ p h. (first, tt))

    submit_goes : (ws text : List ℕ) (alias : Option (List ℕ)) (priority : Option ℕ) → Goes (submit u ws text alias priority)
    unfolding submit submitted
    submit_goes ws text alias priority =
        known_goes (IsIn net) 1 (workstation u ws) (λ w. Ok (0, Submit (submitted w text alias priority)))
        (workstation_in ws) (λ w h. (first, (h, (h, tt))))

    switch_goes : (domain ws : List ℕ) → Goes (switch_mgr u domain ws)
    unfolding switch_mgr
    switch_goes domain ws =
        known_goes (IsIn net) 2 (workstation u ws)
        (λ w. if is_domain_of u w domain then Ok (0, SwitchMgr w) else Err (UnknownName 1)) (workstation_in ws)
        (λ w h. go (is_domain_of u w domain) w h)
      where
        go : (b : Bool) (w : ℕ) → IsIn net w → Goes (if b then Ok (0, SwitchMgr w) else Err (UnknownName 1))
        go true w h = (first, (h, tt))
        go false w h = tt

    -- a line that is typed
    pub order_goes : (me : ℕ) (typed : Line) → Goes (due_order u V me typed)
    unfolding due_order
    order_goes me (line.AddDep object dep) = add_goes me object dep
    order_goes me (line.DelDep object dep) = del_goes me object dep
    order_goes me (line.Release object) = object_goes me object Release (λ o. tt)
    order_goes me (line.AltPri object p) = object_goes me object (λ o. AltPri o p) (λ o. tt)
    order_goes me (line.Cancel object) = object_goes me object Cancel (λ o. tt)
    order_goes me (line.Confirm j) = job_goes me j Confirm (λ o. tt)
    order_goes me (line.Kill j) = job_goes me j Kill (λ o. tt)
    order_goes me (line.Rerun j) = job_goes me j Rerun (λ o. tt)
    order_goes me (line.Fence ws p) = workstation_goes ws (Fence p) tt
    order_goes me (line.CpuLimit ws n) = workstation_goes ws (Limit n) tt
    order_goes me (line.StreamLimit s n) = stream_goes me s (λ k. StreamLimit k n) (λ o. tt)
    order_goes me (line.Resource ws name n) = total_goes ws name n
    order_goes me (line.ReplyGlobal name yes_) = reply_goes name yes_
    order_goes me (line.ReplyOwn object i yes_) = object_goes me object (λ o. ReplyOwn o i yes_) (λ o. tt)
    order_goes me (line.Start ws) = workstation_goes ws Cmd.Start tt
    order_goes me (line.Stop ws) = workstation_goes ws Stop tt
    order_goes me (line.Submit ws text alias priority) = submit_goes ws text alias priority
    order_goes me (line.SwitchMgr domain ws) = switch_goes domain ws
    order_goes me (line.ShowJobs pattern) = tt
    order_goes me (line.ShowSchedules pattern) = tt
    order_goes me (line.ShowCpus pattern) = tt
    order_goes me (line.ShowPrompts pattern) = tt
    order_goes me (line.ShowResources pattern) = tt
    order_goes me (line.Link ws) = tt
    order_goes me (line.Unlink ws) = tt
    order_goes me line.Shutdown = tt
    order_goes me (line.JNextPlan day) = tt

-- advice names nobody
abbrev NamesNobody : Cmd → Type 0
NamesNobody c = ws_in_cmd c ≡ []

by_nobody : (r : Recovery) (j : ℕ) → IfSome (advised_by r j) NamesNobody
by_nobody recovery.Stop j = tt
by_nobody recovery.Continue j = refl
by_nobody recovery.Rerun j = refl

job_nobody : (V : View) (j : ℕ) → IfSome (advised_at V j) NamesNobody
job_nobody V j = go (job V j)
  where
    go : (o : Option StreamJob) → IfSome (option_and_then (λ (p : StreamJob). advices.advised p.doc) o) NamesNobody
    go None = tt
    go (Some p) = by_nobody p.doc.recovery p.doc.no

found_nobody : (V : View) (o : Option ℕ) → IfSome (option_and_then (advised_at V) o) NamesNobody
found_nobody V None = tt
found_nobody V (Some j) = job_nobody V j

pub advice_nobody : (V : View) (w : ℕ) → IfSome (advice V w) NamesNobody
unfolding advice
advice_nobody V w = go (is_waiting V w)
  where
    go : (b : Bool) → IfSome (if b then None else
        option_and_then (advised_at V) (least (filter (needs_advice V w) (own_job_numbers V w)))) NamesNobody
    go true = tt
    go false = found_nobody V (least (filter (needs_advice V w) (own_job_numbers V w)))
