-- A line as the steps that it is.
use Rattle.std.proofs.Common.{◌≡◌, ◌∙◌, ◌∷◌, ◌+◌, ◌-◌, ◌<◌, ◌≤◌, [], ℕ, ℤ, Bool, List, ap, arith, drop, get_or, length}
use Rattle.std.proofs.Common.{map, refl, sym, subst, true, suc}
use Rattle.std.proofs.lemmas.Bool.{lt-ltb}
use Rattle.std.proofs.lemmas.List.{drop_all}
use Rattle.std.specs.Result.{IsErrAnd}
use Rattle.std.specs.Prelude.{Err, IfErr, IsTrue, None, Ok, OnOk, Option, Result, Some}
use Rattle.lemmas.proofs.Lists.{drop_here}
use Rattle.model.specs.Types.{Crash, Deliver, LiveJob, Local, Net, StreamDraft, Take, Typed, WorldStep, Cmd}
use Rattle.model.specs.Words.{ascending, insert_once, numbers_from}
use Rattle.model.specs.Network.{node_count}
use Rattle.model.specs.World.{World, result_map, view_at}
use Rattle.batchman_core.specs.Gathered.{with_all}
use Rattle.batchman_core.proofs.Gatherings.{with_one_more}
use Rattle.agent_core.specs.Nodes.{NodeState}
use Rattle.network_world.specs.Stations.{WorldState}
use Rattle.network_world.specs.Standing.{NodeStandsFor, StandsFor}
use Rattle.recovery_watch.specs.Advice.{advice}
use Rattle.record_script.specs.declared.OneStep.{OneStep}
use Rattle.record_script.specs.declared.StepForm.{StepForm}
use Rattle.record_script.specs.declared.StepForm.TheVariants as form
use Rattle.record_runs.specs.Causes.{Cause, told}
use Rattle.record_runs.specs.Lines.{Day, act, advised, are_inside, cut_short, line_steps, live_jobs, only, undelivered, whole}
use Rattle.record_runs.specs.Runs.{and_then, take_line, take_steps}
use Rattle.record_runs.specs.Taken.{HaltsFor, IsMade, IsNotMade, Leads}
use Rattle.record_runs.specs.declared.acts.Act.{Act}
use Rattle.record_runs.specs.declared.stops.Halt.{Halt}
use Rattle.record_runs.specs.declared.stops.Halt.TheVariants as halt

module _ (day : Day) (old : WorldState) (left : List (List StreamDraft)) (f : StepForm) (steps : World → List WorldStep)
    (table : (x : World) → StandsFor old x → line_steps day old.net x left f ≡ Ok (steps x)) where
  -- a line that is these steps leads where they lead
  pub line_leads : (new : WorldState) → Leads old (λ x. take_steps old.net x (steps x)) new
      → Leads old (take_line day old.net left f) new
  unfolding take_line
  line_leads new h =
      record {
        net_ = h.net_;
        leads_ = λ x s.
            let t = h.leads_ x s in (
              t.0,
              ap (λ (r : Result (List WorldStep) Cause). and_then r (take_steps old.net x)) (table x s) ∙ t.1,
              t.2,
            );
      }

  -- and stops where they stop
  pub line_halts : (t : Halt) → HaltsFor old (λ x. take_steps old.net x (steps x)) t
      → HaltsFor old (take_line day old.net left f) t
  unfolding take_line
  line_halts halt.NoMemory h = tt
  line_halts (halt.At s) h = λ x b.
      let u = h x b in (
        u.0,
        ap (λ (r : Result (List WorldStep) Cause). and_then r (take_steps old.net x)) (table x b) ∙ u.1,
        u.2,
      )

-- the steps of each form
pub one_is : (day : Day) (net : Net) (x : World) (left : List (List StreamDraft)) (o : OneStep) (a : Act)
    → act day net x left o ≡ Ok a → line_steps day net x left (form.One o) ≡ Ok (only (whole a))
unfolding line_steps
one_is day net x left o a h = ap (result_map (λ (b : Act). only (whole b))) h

pub stop_is : (day : Day) (net : Net) (x : World) (left : List (List StreamDraft)) (w : ℕ) (kept : Bool) (o : OneStep)
    (a : Act) → act day net x left o ≡ Ok a
    → line_steps day net x left (form.CrashIn w kept o) ≡ Ok (only (cut_short kept a))
unfolding line_steps
stop_is day net x left w kept o a h = ap (result_map (λ (b : Act). only (cut_short kept b))) h

pub flow_is : (day : Day) (net : Net) (x : World) (left : List (List StreamDraft)) (a b : ℕ)
    → line_steps day net x left (form.Flow a b) ≡ Ok (map (λ k. Deliver a b k) (undelivered x a b))
unfolding line_steps
flow_is day net x left a b = refl

pub reap_is : (day : Day) (net : Net) (x : World) (left : List (List StreamDraft)) (w : ℕ) (rc : _)
    → line_steps day net x left (form.Reap w rc) ≡ Ok (map (λ j. Take w (Local.Ended j rc)) (live_jobs x w))
unfolding line_steps
reap_is day net x left w rc = refl

pub crash_is : (day : Day) (net : Net) (x : World) (left : List (List StreamDraft)) (w : ℕ)
    → line_steps day net x left (form.Crash w) ≡ Ok (only (Crash w))
unfolding line_steps
crash_is day net x left w = refl

pub recover_is : (day : Day) (net : Net) (x : World) (left : List (List StreamDraft)) (w : ℕ)
    → line_steps day net x left (form.Recover w) ≡ Ok (advised w (advice (view_at x w) w))
unfolding line_steps
recover_is day net x left w = refl

-- a step of a record that is taken whole
pub one_leads : (day : Day) (old new : WorldState) (left : List (List StreamDraft)) (o : OneStep) (a : Act) (st : WorldStep)
    → IsMade old (λ x. act day old.net x left o) a → st ≡ whole a
    → Leads old (λ x. take_steps old.net x (only st)) new → Leads old (take_line day old.net left (form.One o)) new
one_leads day old new left o a st made is h =
    line_leads day old left (form.One o) (λ x. only st)
    (λ x s. one_is day old.net x left o a (made x s) ∙ ap (λ (t : WorldStep). Ok (only t)) (sym is)) new h

pub one_halts : (day : Day) (old : WorldState) (left : List (List StreamDraft)) (o : OneStep) (a : Act) (st : WorldStep)
    (t : Halt) → IsMade old (λ x. act day old.net x left o) a → st ≡ whole a
    → HaltsFor old (λ x. take_steps old.net x (only st)) t → HaltsFor old (take_line day old.net left (form.One o)) t
one_halts day old left o a st t made is h =
    line_halts day old left (form.One o) (λ x. only st)
    (λ x s. one_is day old.net x left o a (made x s) ∙ ap (λ (t : WorldStep). Ok (only t)) (sym is)) t h

-- one in which its node stops
pub stop_leads : (day : Day) (old new : WorldState) (left : List (List StreamDraft)) (w : ℕ) (kept : Bool) (o : OneStep)
    (a : Act) (st : WorldStep) → IsMade old (λ x. act day old.net x left o) a → st ≡ cut_short kept a
    → Leads old (λ x. take_steps old.net x (only st)) new
    → Leads old (take_line day old.net left (form.CrashIn w kept o)) new
stop_leads day old new left w kept o a st made is h =
    line_leads day old left (form.CrashIn w kept o) (λ x. only st)
    (λ x s. stop_is day old.net x left w kept o a (made x s) ∙ ap (λ (t : WorldStep). Ok (only t)) (sym is)) new h

pub stop_halts : (day : Day) (old : WorldState) (left : List (List StreamDraft)) (w : ℕ) (kept : Bool) (o : OneStep)
    (a : Act) (st : WorldStep) (t : Halt) → IsMade old (λ x. act day old.net x left o) a → st ≡ cut_short kept a
    → HaltsFor old (λ x. take_steps old.net x (only st)) t
    → HaltsFor old (take_line day old.net left (form.CrashIn w kept o)) t
stop_halts day old left w kept o a st t made is h =
    line_halts day old left (form.CrashIn w kept o) (λ x. only st)
    (λ x s. stop_is day old.net x left w kept o a (made x s) ∙ ap (λ (t : WorldStep). Ok (only t)) (sym is)) t h

-- one that is none
pub no_act : (day : Day) (old : WorldState) (left : List (List StreamDraft)) (o : OneStep) (t : Halt)
    → IsNotMade old (λ x. act day old.net x left o) t → HaltsFor old (take_line day old.net left (form.One o)) t
unfolding line_steps take_line
no_act day old left o halt.NoMemory h = tt
no_act day old left o (halt.At s) h = λ x b.
    let u = h x b in (
      u.0,
      ap (λ (r : Result Act Cause). and_then (result_map (λ (a : Act). only (whole a)) r) (take_steps old.net x)) u.1,
      u.2,
    )

pub no_stop : (day : Day) (old : WorldState) (left : List (List StreamDraft)) (w : ℕ) (kept : Bool) (o : OneStep) (t : Halt)
    → IsNotMade old (λ x. act day old.net x left o) t
    → HaltsFor old (take_line day old.net left (form.CrashIn w kept o)) t
unfolding line_steps take_line
no_stop day old left w kept o halt.NoMemory h = tt
no_stop day old left w kept o (halt.At s) h = λ x b.
    let u = h x b in (
      u.0,
      ap (λ (r : Result Act Cause). and_then (result_map (λ (a : Act). only (cut_short kept a)) r) (take_steps old.net x)) u.1,
      u.2,
    )

-- the packets that are not delivered yet, from one on
abbrev pub flowing : ℕ → ℕ → ℕ → ℕ → List WorldStep
flowing a b sent k = map (λ n. Deliver a b n) (numbers_from (1 + k) (sent - k))

pub flow_begins : (x : World) (a b sent reached : ℕ) → sent ≡ length (x.packets a b) → reached ≡ x.reached a b
    → map (λ k. Deliver a b k) (undelivered x a b) ≡ flowing a b sent reached
flow_begins x a b sent reached is at_ =
    λ i. map (λ k. Deliver a b k) (numbers_from (1 + sym at_ i) (sym is i - sym at_ i))

pub flow_next : (a b sent k : ℕ) → k < sent → flowing a b sent k ≡ Deliver a b (k + 1) ∷ flowing a b sent (k + 1)
flow_next a b sent k h =
    let n : sent - k ≡ suc (sent - (k + 1)) = omega (arith, h) in
    let one : 1 + k ≡ k + 1 = omega arith in
    let two : 1 + k + 1 ≡ 1 + (k + 1) = omega arith in
    ap (λ (m : ℕ). map (λ j. Deliver a b j) (numbers_from (1 + k) m)) n
    ∙ (ap (λ (j : ℕ). Deliver a b j ∷ map (λ i. Deliver a b i) (numbers_from (1 + k + 1) (sent - (k + 1)))) one
    ∙ ap (λ (j : ℕ). Deliver a b (k + 1) ∷ map (λ i. Deliver a b i) (numbers_from j (sent - (k + 1)))) two)

pub flow_ends : (a b sent k : ℕ) → sent ≤ k → flowing a b sent k ≡ []
flow_ends a b sent k h =
    let n : sent - k ≡ 0 = omega (arith, h) in
    ap (λ (m : ℕ). map (λ j. Deliver a b j) (numbers_from (1 + k) m)) n

-- the jobs that live
pub jobs_here : (net : Net) (x : World) (w : ℕ) (node : NodeState) (keys : List ℕ) → NodeStandsFor net x w node
    → keys ≡ ascending (map (λ (l : LiveJob). l.job) node.live) → keys ≡ live_jobs x w
jobs_here net x w node keys h is = is ∙ λ i. ascending (map (λ (l : LiveJob). l.job) ((h.session_ i).live))

-- advice
pub advised_nothing : (w : ℕ) (o : Option Cmd) → None ≡ o → advised w o ≡ []
advised_nothing w o h = ap (advised w) (sym h)

pub advised_this : (w : ℕ) (c : Cmd) (o : Option Cmd) → Some c ≡ o → advised w o ≡ only (Take w (Typed w c))
advised_this w c o h = ap (advised w) (sym h)

-- the same steps by another name
pub leads_as : (old new : WorldState) (steps others : World → List WorldStep)
    → ((x : World) → StandsFor old x → steps x ≡ others x) → Leads old (λ x. take_steps old.net x (others x)) new
    → Leads old (λ x. take_steps old.net x (steps x)) new
leads_as old new steps others same h =
    record {
      net_ = h.net_;
      leads_ = λ x s. let t = h.leads_ x s in (t.0, ap (take_steps old.net x) (same x s) ∙ t.1, t.2);
    }

pub halts_as : (old : WorldState) (steps others : World → List WorldStep) (t : Halt)
    → ((x : World) → StandsFor old x → steps x ≡ others x) → HaltsFor old (λ x. take_steps old.net x (others x)) t
    → HaltsFor old (λ x. take_steps old.net x (steps x)) t
halts_as old steps others halt.NoMemory same h = tt
halts_as old steps others (halt.At s) same h = λ x b.
    let u = h x b in (u.0, ap (take_steps old.net x) (same x b) ∙ u.1, u.2)

-- what holds of one answer holds of the other
pub on_ok : {T E : Type 0} (P Q : Type 0) (r : Result T E) → (P → Q) → OnOk r P → OnOk r Q
on_ok P Q (Ok t) f h = f h
on_ok P Q (Err e) f h = tt

-- two workstations of the network
pub both_inside : (net : Net) (now : WorldState) (a b : ℕ) → now.net ≡ net → a < node_count net → b < node_count net
    → IsTrue (are_inside now.net (a ∷ b ∷ []))
both_inside net now a b same in_a in_b =
    subst (λ (n : Net). are_inside n (a ∷ b ∷ []) ≡ true) (sym same)
    (rw (lt-ltb a (node_count net) in_a, lt-ltb b (node_count net) in_b) refl)

pub one_inside : (net : Net) (now : WorldState) (a : ℕ) → now.net ≡ net → a < node_count net
    → IsTrue (are_inside now.net (a ∷ []))
one_inside net now a same in_a =
    subst (λ (n : Net). are_inside n (a ∷ []) ≡ true) (sym same) (rw (lt-ltb a (node_count net) in_a) refl)

-- an error that is handed on
pub handed_on : {T E : Type 0} (P : E → Type 0) (e : E) (r : Result T E) → IsErrAnd r (λ f. f ≡ e) → P e → IfErr r P
handed_on P e (Ok t) told h = tt
handed_on P e (Err f) told h = subst P (sym told) h

-- one live job more is put among the others
pub one_more_job : (live items : List LiveJob) (i : ℕ) (l : LiveJob) (old new all : List ℕ) → items ≡ live
    → i < length items → l ≡ get_or items i l → new ≡ insert_once l.job old
    → with_all (map (λ (p : LiveJob). p.job) (drop i live)) old ≡ all
    → with_all (map (λ (p : LiveJob). p.job) (drop (i + 1) live)) new ≡ all
one_more_job live items i l old new all same h is put before =
    let rest : drop i live ≡ l ∷ drop (i + 1) live =
    subst (λ (ys : List LiveJob). drop i ys ≡ l ∷ drop (i + 1) ys) same (drop_here items i l h is) in
    ap (with_all (map (λ (p : LiveJob). p.job) (drop (i + 1) live))) put
    ∙ (with_one_more (map (λ (p : LiveJob). p.job) (drop (i + 1) live)) l.job old
    ∙ (sym (ap (λ (ys : List LiveJob). with_all (map (λ (p : LiveJob). p.job) ys) old) rest) ∙ before))

-- the end of a job
abbrev pub ends : ℕ → ℤ → ℕ → WorldStep
ends w rc j = Take w (Local.Ended j rc)

pub next_end : (w : ℕ) (rc : ℤ) (jobs : List ℕ) (i j : ℕ) → i < length jobs → j ≡ get_or jobs i j
    → map (ends w rc) (drop i jobs) ≡ ends w rc j ∷ map (ends w rc) (drop (i + 1) jobs)
next_end w rc jobs i j h is = ap (map (ends w rc)) (drop_here jobs i j h is)

pub no_more_ends : (w : ℕ) (rc : ℤ) (jobs : List ℕ) (i : ℕ) → length jobs ≤ i → map (ends w rc) (drop i jobs) ≡ []
no_more_ends w rc jobs i h = ap (map (ends w rc)) (drop_all i jobs h)
