-- Inputs that keep an entry of the node's own, and give nothing out.
use Rattle.std.proofs.Common.{◌≡◌, ◌∙◌, [], ℕ, Bool, Err, List, None, Ok, Option, Result, Some, ap, false, refl, subst, sym}
use Rattle.std.proofs.Common.{true}
use Rattle.std.proofs.lemmas.Bool.{lt-ltb}
use Rattle.std.specs.Prelude.{◌&&◌, ◌<◌, ℤ, map, nat_lt, not}
use Rattle.model.specs.Types as types
use Rattle.model.specs.Types.{Body, Cmd, Entry, Events, Input, LiveJob, Local, Obj, Order, Orders, Out, StreamDraft}
use Rattle.model.specs.Network.{node_count}
use Rattle.model.specs.Sessions.{Session, live_launch, mark_started, next_session, without_job}
use Rattle.model.specs.NewEntry.{ends_well, event_of, makes, next_entry, own_entry}
use Rattle.model.specs.Step.{outs_of}
use Rattle.model.specs.StepFaults as model
use Rattle.model.specs.StepFaults.{lacks_dep, lacks_process}
use Rattle.mailman_core.specs.Mails.{acked_by, is_up}
use Rattle.agent_core.specs.Nodes.{NodeState, present_in, session_in, view_in}
use Rattle.agent_core.specs.Steps.{IsKeeping, IsKept, IsOwnEntry, IsStep, IsTaken, Keeps}
use Rattle.agent_core.specs.Steps.{made_by, step_at}
use Rattle.agent_core.specs.declared.faults.Step.{Step}
use Rattle.agent_core.specs.declared.faults.StepFault.{StepFault}
use Rattle.agent_core.specs.declared.faults.StepFault.TheVariants.{Carry, NoDep, NoMemory, NoProcess, NotInNetwork}
use Rattle.agent_core.specs.declared.faults.StepFault.TheVariants.{NotMaster, NotNeighbour, PlaceSpent, TooLong}
use Rattle.agent_core.proofs.Causes.{inside, not_running, not_waiting, own_kept, step_taken}

abbrev pub start : ℕ → Input
start j = types.Input.Local (types.Local.Started j)

abbrev pub fail : ℕ → Input
fail j = types.Input.Local (types.StartFailed j)

abbrev pub end : ℕ → ℤ → Input
end j rc = types.Input.Local (types.Local.Ended j rc)

-- the session with other live launches
abbrev pub with_live : NodeState → List LiveJob → Session
with_live n live = record { acked = acked_by n.mail; links = is_up n.mail; live = live }

-- it gives nothing out
abbrev pub GivesNothing : Input → Type 0
GivesNothing i = (n : NodeState) (m : Option Entry) → outs_of (present_in n) n.me (view_in n) (session_in n) i m ≡ []

-- the entry was kept as the input wants it
pub keeping_taken : (old new : NodeState) (i : Input) (e : Entry) (live : List LiveJob) (r : Result Step StepFault)
    → GivesNothing i → next_session (view_in old) (session_in old) i (Some e) ≡ with_live old live → Keeps old i e
    → IsKeeping old e live r new → IsStep old i r new
keeping_taken old new i e live (Ok s) none same keeps h =
    subst (λ (t : Step). IsTaken old i t new) (sym h.0)
    (step_taken old new i (Some e) [] keeps.passed keeps.made
    (record {
      kept_ = h.1.0;
      net_ = h.1.1.0;
      me_ = h.1.1.1.0;
      session_ =
          same ∙ λ k. record {
            acked = acked_by (sym h.1.1.1.1.0 k);
            links = is_up (sym h.1.1.1.1.0 k);
            live = sym h.1.1.1.1.1 k;
          };
      outs_ = none new (Some e);
    }))
keeping_taken old new i e live (Err NoMemory) none same keeps h = (tt, h)
keeping_taken old new i e live (Err NotInNetwork) none same keeps h = absurd h
keeping_taken old new i e live (Err NotNeighbour) none same keeps h = absurd h
keeping_taken old new i e live (Err NotMaster) none same keeps h = absurd h
keeping_taken old new i e live (Err NoProcess) none same keeps h = absurd h
keeping_taken old new i e live (Err NoDep) none same keeps h = absurd h
keeping_taken old new i e live (Err PlaceSpent) none same keeps h = absurd h
keeping_taken old new i e live (Err (Carry f)) none same keeps h = absurd h
keeping_taken old new i e live (Err TooLong) none same keeps h = absurd h

pub in_range : (n : NodeState) → n.me < node_count (present_in n) → nat_lt n.me (node_count (present_in n)) ≡ true
in_range n h = lt-ltb n.me (node_count (present_in n)) h

-- no launch of the job lives
pub start_lacks : (n : NodeState) (j : ℕ) → n.me < node_count (present_in n)
    → live_launch n.live j ≡ None → step_at n (start j) ≡ Err model.StepFault.NoProcess
start_lacks n j e h = not_running n (start j) (rw (in_range n e) refl) refl refl (rw h refl)

pub start_told : (n : NodeState) (j : ℕ) (l : LiveJob) → n.me < node_count (present_in n)
    → live_launch n.live j ≡ Some l → l.started ≡ true → step_at n (start j) ≡ Err model.StepFault.NoProcess
start_told n j l e h s = not_running n (start j) (rw (in_range n e) refl) refl refl (rw (h, s) refl)

pub fail_lacks : (n : NodeState) (j : ℕ) → n.me < node_count (present_in n)
    → live_launch n.live j ≡ None → step_at n (fail j) ≡ Err model.StepFault.NoProcess
fail_lacks n j e h = not_running n (fail j) (rw (in_range n e) refl) refl refl (rw h refl)

pub fail_told : (n : NodeState) (j : ℕ) (l : LiveJob) → n.me < node_count (present_in n)
    → live_launch n.live j ≡ Some l → l.started ≡ true → step_at n (fail j) ≡ Err model.StepFault.NoProcess
fail_told n j l e h s = not_running n (fail j) (rw (in_range n e) refl) refl refl (rw (h, s) refl)

pub end_lacks : (n : NodeState) (j : ℕ) (rc : ℤ) → n.me < node_count (present_in n)
    → live_launch n.live j ≡ None → step_at n (end j rc) ≡ Err model.StepFault.NoProcess
end_lacks n j rc e h = not_running n (end j rc) (rw (in_range n e) refl) refl refl (rw h refl)

start_makes : (n : NodeState) (j : ℕ) (l : LiveJob) → live_launch n.live j ≡ Some l
    → made_by n (start j) ≡ Some (next_entry (view_in n) (Events n.me) (types.Started j l.number))
unfolding makes own_entry event_of
start_makes n j l h = rw h refl

fail_makes : (n : NodeState) (j : ℕ) (l : LiveJob) → live_launch n.live j ≡ Some l
    → made_by n (fail j) ≡ Some (next_entry (view_in n) (Events n.me) (types.Failed j l.number))
unfolding makes own_entry event_of
fail_makes n j l h = rw h refl

end_makes : (n : NodeState) (j : ℕ) (rc : ℤ) (l : LiveJob) → live_launch n.live j ≡ Some l
    → made_by n (end j rc)
    ≡ Some (next_entry (view_in n) (Events n.me) (types.Ended j l.number rc (ends_well (view_in n) j rc)))
unfolding makes own_entry event_of
end_makes n j rc l h = rw h refl

pub start_kept : (n : NodeState) (j : ℕ) (l : LiveJob) (r : Result Entry StepFault)
    → n.me < node_count (present_in n) → live_launch n.live j ≡ Some l → l.started ≡ false
    → IsOwnEntry (view_in n) (Events n.me) (types.Started j l.number) r → IsKept n (start j) r
start_kept n j l r e h s own =
    own_kept n (start j) (Events n.me) (types.Started j l.number) r
    (record { inside_ = rw (in_range n e) refl; other = refl; master = refl; runs = rw (h, s) refl; waits = refl }) refl
    (start_makes n j l h) own

pub fail_kept : (n : NodeState) (j : ℕ) (l : LiveJob) (r : Result Entry StepFault)
    → n.me < node_count (present_in n) → live_launch n.live j ≡ Some l → l.started ≡ false
    → IsOwnEntry (view_in n) (Events n.me) (types.Failed j l.number) r → IsKept n (fail j) r
fail_kept n j l r e h s own =
    own_kept n (fail j) (Events n.me) (types.Failed j l.number) r
    (record { inside_ = rw (in_range n e) refl; other = refl; master = refl; runs = rw (h, s) refl; waits = refl }) refl
    (fail_makes n j l h) own

pub end_kept : (n : NodeState) (j : ℕ) (rc : ℤ) (good : Bool) (l : LiveJob) (r : Result Entry StepFault)
    → n.me < node_count (present_in n) → live_launch n.live j ≡ Some l
    → good ≡ ends_well (view_in n) j rc
    → IsOwnEntry (view_in n) (Events n.me) (types.Ended j l.number rc good) r → IsKept n (end j rc) r
end_kept n j rc good l r e h g own =
    own_kept n (end j rc) (Events n.me) (types.Ended j l.number rc good) r
    (record { inside_ = rw (in_range n e) refl; other = refl; master = refl; runs = rw h refl; waits = refl }) refl
    (end_makes n j rc l h
    ∙ ap (λ (b : Bool). Some (next_entry (view_in n) (Events n.me) (types.Ended j l.number rc b))) (sym g)) own

pub start_quiet : (j : ℕ) → GivesNothing (start j)
unfolding outs_of
start_quiet j n m = refl

pub fail_quiet : (j : ℕ) → GivesNothing (fail j)
unfolding outs_of
fail_quiet j n m = refl

pub end_quiet : (j : ℕ) (rc : ℤ) → GivesNothing (end j rc)
unfolding outs_of
end_quiet j rc n m = refl

pub start_session : (n : NodeState) (j : ℕ) (m : Option Entry)
    → next_session (view_in n) (session_in n) (start j) m ≡ with_live n (map (mark_started j) n.live)
unfolding next_session
start_session n j m = refl

pub fail_session : (n : NodeState) (j : ℕ) (m : Option Entry)
    → next_session (view_in n) (session_in n) (fail j) m ≡ with_live n (without_job j n.live)
unfolding next_session
fail_session n j m = refl

pub end_session : (n : NodeState) (j : ℕ) (rc : ℤ) (m : Option Entry)
    → next_session (view_in n) (session_in n) (end j rc) m ≡ with_live n (without_job j n.live)
unfolding next_session
end_session n j rc m = refl

-- a step that keeps such an entry
pub start_step : (old new : NodeState) (j : ℕ) (e : Entry) (live : List LiveJob) (r : Result Step StepFault)
    → live ≡ map (mark_started j) old.live → Keeps old (start j) e → IsKeeping old e live r new
    → IsStep old (start j) r new
start_step old new j e live r is =
    keeping_taken old new (start j) e live r (start_quiet j)
    (start_session old j (Some e) ∙ ap (with_live old) (sym is))

pub fail_step : (old new : NodeState) (j : ℕ) (e : Entry) (live : List LiveJob) (r : Result Step StepFault)
    → live ≡ without_job j old.live → Keeps old (fail j) e → IsKeeping old e live r new → IsStep old (fail j) r new
fail_step old new j e live r is =
    keeping_taken old new (fail j) e live r (fail_quiet j)
    (fail_session old j (Some e) ∙ ap (with_live old) (sym is))

pub end_step : (old new : NodeState) (j : ℕ) (rc : ℤ) (e : Entry) (live : List LiveJob) (r : Result Step StepFault)
    → live ≡ without_job j old.live → Keeps old (end j rc) e → IsKeeping old e live r new
    → IsStep old (end j rc) r new
end_step old new j rc e live r is =
    keeping_taken old new (end j rc) e live r (end_quiet j rc)
    (end_session old j rc (Some e) ∙ ap (with_live old) (sym is))

-- commands that are typed
abbrev pub order : ℕ → Cmd → Input
order to c = types.Input.Local (types.Typed to c)

order_makes : (n : NodeState) (to : ℕ) (c : Cmd)
    → made_by n (order to c) ≡ Some (next_entry (view_in n) (Orders n.me to) (Order c))
unfolding makes own_entry
order_makes n to c = refl

pub order_kept : (n : NodeState) (to : ℕ) (c d : Cmd) (r : Result Entry StepFault) → inside n (order to c) ≡ true
    → d ≡ c → IsOwnEntry (view_in n) (Orders n.me to) (Order d) r → IsKept n (order to c) r
order_kept n to c d r e same own =
    own_kept n (order to c) (Orders n.me to) (Order d) r
    (record { inside_ = e; other = refl; master = refl; runs = refl; waits = refl }) refl
    (order_makes n to c
    ∙ ap (λ (x : Cmd). Some (next_entry (view_in n) (Orders n.me to) (Order x))) (sym same)) own

order_quiet : (to : ℕ) (c : Cmd) → GivesNothing (order to c)
unfolding outs_of
order_quiet to c n m = refl

order_session : (n : NodeState) (to : ℕ) (c : Cmd) (m : Option Entry)
    → next_session (view_in n) (session_in n) (order to c) m ≡ with_live n n.live
unfolding next_session
order_session n to c m = refl

pub order_step : (old new : NodeState) (to : ℕ) (c : Cmd) (e : Entry) (r : Result Step StepFault)
    → Keeps old (order to c) e → IsKeeping old e old.live r new → IsStep old (order to c) r new
order_step old new to c e r =
    keeping_taken old new (order to c) e old.live r (order_quiet to c) (order_session old to c (Some e))

-- files that are there
abbrev pub file : Obj → ℕ → Input
file o i = types.Input.Local (types.Fulfil o i)

file_makes : (n : NodeState) (o : Obj) (i : ℕ)
    → made_by n (file o i) ≡ Some (next_entry (view_in n) (Events n.me) (types.Fulfilled o i))
unfolding makes own_entry event_of
file_makes n o i = refl

pub file_lacks : (n : NodeState) (o : Obj) (i : ℕ) → n.me < node_count (present_in n)
    → lacks_dep n.me (view_in n) (file o i) ≡ true → step_at n (file o i) ≡ Err model.StepFault.NoDep
file_lacks n o i e h = not_waiting n (file o i) (rw (in_range n e) refl) refl refl refl h

pub file_kept : (n : NodeState) (o : Obj) (i : ℕ) (r : Result Entry StepFault) → n.me < node_count (present_in n)
    → lacks_dep n.me (view_in n) (file o i) ≡ false
    → IsOwnEntry (view_in n) (Events n.me) (types.Fulfilled o i) r → IsKept n (file o i) r
file_kept n o i r e h own =
    own_kept n (file o i) (Events n.me) (types.Fulfilled o i) r
    (record { inside_ = rw (in_range n e) refl; other = refl; master = refl; runs = refl; waits = h }) refl
    (file_makes n o i) own

file_quiet : (o : Obj) (i : ℕ) → GivesNothing (file o i)
unfolding outs_of
file_quiet o i n m = refl

file_session : (n : NodeState) (o : Obj) (i : ℕ) (m : Option Entry)
    → next_session (view_in n) (session_in n) (file o i) m ≡ with_live n n.live
unfolding next_session
file_session n o i m = refl

pub file_step : (old new : NodeState) (o : Obj) (i : ℕ) (e : Entry) (r : Result Step StepFault)
    → Keeps old (file o i) e → IsKeeping old e old.live r new → IsStep old (file o i) r new
file_step old new o i e r =
    keeping_taken old new (file o i) e old.live r (file_quiet o i) (file_session old o i (Some e))

-- what a file is waited for by
pub not_own : (a b c : Bool) → a ≡ false → true ≡ not (a && (b && not c))
not_own a b c h = rw h refl

pub not_outside : (a b c : Bool) → a ≡ true → b ≡ false → true ≡ not (a && (b && not c))
not_outside a b c h k = rw (h, k) refl

pub seen_already : (a b c : Bool) → a ≡ true → b ≡ true → c ≡ not (a && (b && not c))
seen_already a b c h k = rw (h, k) (twice c)
  where
    twice : (d : Bool) → d ≡ not (not d)
    twice true = refl
    twice false = refl
