-- A run whose lines and plans name workstations of its network stops for none of what never comes.
use Rattle.std.proofs.Common.{◌≡◌, ◌<◌, ◌≤◌, ◌^◌, ℕ, Bool, List, [], ◌∷◌, Option, None, Some, arith, drop, false, if◌then◌else◌, length, refl, subst, sym, true}
use Rattle.std.proofs.lemmas.Bool.{lt-ltb}
use Rattle.std.specs.List.{AllByRecursion, list_all}
use Rattle.std.specs.Prelude.{Err, IfOk, IfSome, Ok, Result, flat_map, nat_lt}
use Rattle.std.specs.Result.{result_ok}
use Rattle.lemmas.proofs.Booleans.{and_left, and_made, and_right}
use Rattle.model.specs.Types.{Cmd, Crash, Deliver, LimitName, Local, Net, StreamDraft, Take, Typed, WorldStep}
use Rattle.model.specs.NewPlan.{jobs_in_drafts}
use Rattle.model.specs.Network.{node_count}
use Rattle.model.specs.PresentNet.{present_net}
use Rattle.model.specs.StepFaults.{CarryFault, StepFault}
use Rattle.model.specs.Workstations.{ws_in_cmd, ws_in_draft}
use Rattle.model.specs.World.{StepRefused, World, empty_world, result_map, run, step, view_at}
use Rattle.model_laws.proofs.Inside.{AreIn, IsIn, ViewIsIn, all_in}
use Rattle.model_laws.proofs.Options.{map_all}
use Rattle.rest_laws.specs.ToRest.{names_inside}
use Rattle.rest_laws.proofs.Named.{named_run}
use Rattle.rest_laws.proofs.Phases.{view_named}
use Rattle.rest_laws.proofs.Taken.{count_at}
use Rattle.refusal_laws.specs.Named.{drafts_in, is_counted, names_no_stranger, plans_elsewhere}
use Rattle.refusal_laws.proofs.Limits.{limit_counted}
use Rattle.refusal_laws.proofs.Numbers.{no_number_spent}
use Rattle.refusal_laws.proofs.Places.{no_place_spent}
use Rattle.refusal_laws.proofs.Runs.{no_run_spent}
use Rattle.refusal_laws.proofs.Strangers.{no_other, no_stranger}
use Rattle.network_world.specs.Standing.{IsReached}
use Rattle.network_world.proofs.After.{reached_next}
use Rattle.conman_orders.specs.Orders.{Answer, due_order}
use Rattle.recovery_watch.specs.Advice.{advice}
use Rattle.record_script.specs.Inside.{is_inside, ws_in, ws_in_one}
use Rattle.record_script.specs.declared.Script.{Script}
use Rattle.record_script.specs.declared.ScriptStep.{ScriptStep}
use Rattle.record_script.specs.declared.OneStep.{OneStep}
use Rattle.record_script.specs.declared.OneStep.TheVariants as one
use Rattle.record_script.specs.declared.StepForm.{StepForm}
use Rattle.record_script.specs.declared.StepForm.TheVariants as form
use Rattle.record_runs.specs.Causes.{Cause, no_moment, refused, told}
use Rattle.record_runs.specs.Lines.{Day, act, advised, are_inside, cut_short, left_after, line_steps, live_jobs, next_plan, only}
use Rattle.record_runs.specs.Lines.{takes_plan, typed, undelivered, whole}
use Rattle.record_runs.specs.Runs.{End, and_then, as_cause, done, run_lines, run_of, stopped, take_line, take_steps, went_on}
use Rattle.record_runs.specs.Ends.{AreLinesInside, IsStopped, run_of_script}
use Rattle.record_runs.specs.Never.{ArePlansFor, IsDayFor, IsPlanFor, is_beyond_replays, never_comes}
use Rattle.record_runs.specs.declared.acts.Act.{Act}
use Rattle.record_runs.specs.declared.acts.Act.TheVariants.{Delivery, Own}
use Rattle.record_runs.specs.declared.stops.Stop.{Stop}
use Rattle.record_runs.proofs.Going.{GoesIn, advice_nobody, order_goes}

-- a step of the record's own: it names workstations of the network, and takes a plan as it may be
pub record IsOwnStep (net : Net) (s : WorldStep) : Type 0 where
  pub named : names_no_stranger net s ≡ true
  pub master : plans_elsewhere s ≡ false
  pub streams : length (drafts_in s) ≤ 4022337535
  pub jobs_ : jobs_in_drafts (drafts_in s) ≤ 4022337535

-- what a step is refused for
not_counted : (l : LimitName) → is_counted l ≡ true → is_beyond_replays l ≡ false
not_counted LimitName.Steps h = refl
not_counted LimitName.Packets h = refl
not_counted LimitName.Bytes h = refl
not_counted LimitName.Input h = cc
not_counted LimitName.Plan h = refl
not_counted LimitName.Entry h = refl
not_counted LimitName.File h = cc
not_counted LimitName.Places h = cc

refusal_comes : (net : Net) (steps : List WorldStep) (s : WorldStep) (r : StepRefused) → IsOwnStep net s
    → step net (run net steps empty_world) s ≡ Err r → never_comes (told (refused r)) ≡ false
unfolding told
refusal_comes net steps s StepRefused.NoPacket h e = refl
refusal_comes net steps s (StepRefused.Limit l) h e = not_counted l (limit_counted net (run net steps empty_world) s l e)
refusal_comes net steps s (StepRefused.Step StepFault.NotInNetwork) h e = absurd (no_stranger net steps s h.named e)
refusal_comes net steps s (StepRefused.Step StepFault.NotNeighbour) h e = refl
refusal_comes net steps s (StepRefused.Step StepFault.NotMaster) h e =
    absurd (no_other net (run net steps empty_world) s h.master e)
refusal_comes net steps s (StepRefused.Step StepFault.NoProcess) h e = refl
refusal_comes net steps s (StepRefused.Step StepFault.NoDep) h e = refl
refusal_comes net steps s (StepRefused.Step StepFault.PlaceSpent) h e = absurd (no_place_spent net steps s e)
refusal_comes net steps s (StepRefused.Step (StepFault.Carry CarryFault.RunsSpent)) h e =
    absurd (no_run_spent net steps s e)
refusal_comes net steps s (StepRefused.Step (StepFault.Carry CarryFault.NumbersSpent)) h e =
    absurd (no_number_spent net steps s h.streams h.jobs_ e)
refusal_comes net steps s (StepRefused.Step (StepFault.Carry (CarryFault.PlanFull most))) h e = refl
refusal_comes net steps s (StepRefused.Step StepFault.TooLong) h e = refl

-- what is found, or a cause that may come
abbrev Comes : {A : Type 0} → (A → Type 0) → Result A Cause → Type 0
Comes P (Ok a) = P a
Comes P (Err c) = never_comes (told c) ≡ false

mapped : {A B : Type 0} (P : A → Type 0) (Q : B → Type 0) (f : A → B) (r : Result A Cause) → Comes P r
    → ((a : A) → P a → Q (f a)) → Comes Q (result_map f r)
mapped P Q f (Ok a) h each = each a h
mapped P Q f (Err c) h each = h

-- steps one after the other
steps_come : (net : Net) (steps : List WorldStep) (x : World) → IsReached net x → AllByRecursion (IsOwnStep net) steps
    → Comes (IsReached net) (take_steps net x steps)
steps_come net [] x r h = r
steps_come net (s ∷ steps) x r h = go (step net x s) refl (λ y k. steps_come net steps y k h.1)
  where
    go : (a : Result World StepRefused) → step net x s ≡ a
        → ((y : World) → IsReached net y → Comes (IsReached net) (take_steps net y steps))
        → Comes (IsReached net) (and_then (as_cause a) (λ y. take_steps net y steps))
    go (Ok y) same on = on y (reached_next net x y s r same)
    go (Err refusal) same on =
        refusal_comes net r.steps s refusal h.0 (subst (λ (z : World). step net z s ≡ Err refusal) r.by_them same)

-- the steps of a line
no_plan : (net : Net) (s : WorldStep) → names_no_stranger net s ≡ true → plans_elsewhere s ≡ false → drafts_in s ≡ []
    → IsOwnStep net s
no_plan net s named master none =
    record {
      named = named;
      master = master;
      streams = subst (λ (ds : List StreamDraft). length ds ≤ 4022337535) (sym none) (omega arith);
      jobs_ = subst (λ (ds : List StreamDraft). jobs_in_drafts ds ≤ 4022337535) (sym none) (omega arith);
    }

plan_step : (net : Net) (drafts : List StreamDraft) → IsIn net 0 → IsPlanFor net drafts
    → IsOwnStep net (Take 0 (Local.Next drafts))
plan_step net drafts first h =
    record {
      named = and_made (nat_lt 0 (node_count net)) (are_inside net (flat_map ws_in_draft drafts)) first h.inside;
      master = refl;
      streams = let few : length drafts ≤ 2 ^ 31 = h.streams in omega (arith, few);
      jobs_ = let few : jobs_in_drafts drafts ≤ 2 ^ 31 = h.jobs_ in omega (arith, few);
    }

cut_own : (net : Net) (a : Act) (kept : Bool) → IsOwnStep net (whole a) → IsOwnStep net (cut_short kept a)
cut_own net (Own w l) kept h = record { named = h.named; master = h.master; streams = h.streams; jobs_ = h.jobs_ }
cut_own net (Delivery a b k) kept h = record { named = h.named; master = h.master; streams = h.streams; jobs_ = h.jobs_ }

none_left : (net : Net) → IsPlanFor net []
none_left net = record { inside = refl; streams = omega arith; jobs_ = omega arith }

next_own : (net : Net) (left : List (List StreamDraft)) → AllByRecursion (IsPlanFor net) left
    → IsPlanFor net (next_plan left)
next_own net [] h = none_left net
next_own net (drafts ∷ left) h = h.0

module _ (net : Net) (first : IsIn net 0) (x : World) (r : IsReached net x) where
  seen_in : (w : ℕ) → ViewIsIn net (view_at x w)
  seen_in w =
      view_named net net x w refl
      (subst (λ (y : World). names_inside net y ≡ true) (sym r.by_them) (named_run net r.steps))

  typed_own : (w : ℕ) (a : Answer) → IsIn net w → IfOk a (GoesIn net) → Comes (λ b. IsOwnStep net (whole b)) (typed w (result_ok a))
  unfolding told
  typed_own w (Ok order) w_in h =
      no_plan net (Take w (Typed order.0 order.1)) (all_in net (w ∷ order.0 ∷ ws_in_cmd order.1) (w_in, h)) refl refl
  typed_own w (Err fault) w_in h = refl

  act_own : (day : Day) (left : List (List StreamDraft)) (o : OneStep) → ((n : ℕ) → IsDayFor net (day n))
      → AllByRecursion (IsPlanFor net) left → are_inside net (ws_in_one o) ≡ true
      → Comes (λ a. IsOwnStep net (whole a)) (act day net x left o)
  unfolding act
  act_own day left one.Next days plans h = plan_step net (next_plan left) first (next_own net left plans)
  act_own day left (one.NextDay d) days plans h = go (day d) (days d)
    where
      go : (a : Result (List StreamDraft) Cause) → IsDayFor net a
          → Comes (λ b. IsOwnStep net (whole b)) (result_map (λ drafts. Own 0 (Local.Next drafts)) a)
      go (Ok drafts) k = plan_step net drafts first k
      go (Err c) k = k
  act_own day left (one.Turn w t) days plans h = no_plan net (Take w (Local.Turn t)) h refl refl
  act_own day left (one.Link a b) days plans h = no_plan net (Take a (Local.Linked b)) h refl refl
  act_own day left (one.Unlink a b) days plans h = no_plan net (Take a (Local.Unlinked b)) h refl refl
  act_own day left (one.Deliver a b k) days plans h = no_plan net (Deliver a b k) h refl refl
  act_own day left (one.Started w j) days plans h = no_plan net (Take w (Local.Started j)) h refl refl
  act_own day left (one.Failed w j) days plans h = no_plan net (Take w (Local.StartFailed j)) h refl refl
  act_own day left (one.Ended w j rc) days plans h = no_plan net (Take w (Local.Ended j rc)) h refl refl
  act_own day left (one.Typed w line) days plans h =
      let w_in : IsIn net w = and_left (nat_lt w (node_count net)) true h in
      typed_own w (due_order (present_net net (view_at x w)) (view_at x w) w line) w_in
      (order_goes net (present_net net (view_at x w)) (count_at net x w) first (view_at x w) (seen_in w) w line)
  act_own day left (one.Fulfil w o i) days plans h = no_plan net (Take w (Local.Fulfil o i)) h refl refl

  advised_own : (w : ℕ) (o : Option Cmd) → IsIn net w → IfSome o (λ c. ws_in_cmd c ≡ [])
      → AllByRecursion (IsOwnStep net) (advised w o)
  advised_own w None w_in h = tt
  advised_own w (Some c) w_in h = (
    no_plan net (Take w (Typed w c))
        (all_in net (w ∷ w ∷ ws_in_cmd c)
        (w_in, (w_in, subst (λ (ws : List ℕ). AreIn net ws) (sym h) tt))) refl refl,
    tt,
  )

  line_own : (day : Day) (left : List (List StreamDraft)) (f : StepForm) → ((n : ℕ) → IsDayFor net (day n))
      → AllByRecursion (IsPlanFor net) left → are_inside net (ws_in f) ≡ true
      → Comes (AllByRecursion (IsOwnStep net)) (line_steps day net x left f)
  unfolding line_steps
  line_own day left (form.One o) days plans h =
      mapped (λ a. IsOwnStep net (whole a)) (AllByRecursion (IsOwnStep net)) (λ a. only (whole a)) (act day net x left o)
      (act_own day left o days plans h) (λ a k. (k, tt))
  line_own day left (form.Flow a b) days plans h =
      map_all (IsOwnStep net) (λ k. Deliver a b k) (undelivered x a b) (λ k. no_plan net (Deliver a b k) h refl refl)
  line_own day left (form.Reap w rc) days plans h =
      map_all (IsOwnStep net) (λ j. Take w (Local.Ended j rc)) (live_jobs x w)
      (λ j. no_plan net (Take w (Local.Ended j rc)) h refl refl)
  line_own day left (form.Crash w) days plans h = (no_plan net (Crash w) h refl refl, tt)
  line_own day left (form.CrashIn w kept o) days plans h =
      mapped (λ a. IsOwnStep net (whole a)) (AllByRecursion (IsOwnStep net)) (λ a. only (cut_short kept a))
      (act day net x left o)
      (act_own day left o days plans (and_right (nat_lt w (node_count net)) (are_inside net (ws_in_one o)) h))
      (λ a k. (cut_own net a kept k, tt))
  line_own day left (form.Recover w) days plans h =
      advised_own w (advice (view_at x w) w) (and_left (nat_lt w (node_count net)) true h) (advice_nobody (view_at x w) w)

taken_comes : (net : Net) (x : World) (a : Result (List WorldStep) Cause) → IsReached net x
    → Comes (AllByRecursion (IsOwnStep net)) a → Comes (IsReached net) (and_then a (take_steps net x))
taken_comes net x (Ok steps) r h = steps_come net steps x r h
taken_comes net x (Err c) r h = h

line_comes : (day : Day) (net : Net) (left : List (List StreamDraft)) (f : StepForm) (x : World) → IsIn net 0
    → IsReached net x → ((n : ℕ) → IsDayFor net (day n)) → AllByRecursion (IsPlanFor net) left
    → are_inside net (ws_in f) ≡ true → Comes (IsReached net) (take_line day net left f x)
unfolding take_line
line_comes day net left f x first r days plans h =
    taken_comes net x (line_steps day net x left f) r (line_own net first x r day left f days plans h)

-- all lines
left_plans : (net : Net) (b : Bool) (left : List (List StreamDraft)) → AllByRecursion (IsPlanFor net) left
    → AllByRecursion (IsPlanFor net) (if b then drop 1 left else left)
left_plans net true [] h = tt
left_plans net true (drafts ∷ left) h = h.1
left_plans net false left h = h

abbrev EndsSo : End → Type 0
EndsSo (done x) = Unit {0}
EndsSo (stopped line c) = never_comes (told c) ≡ false

on_comes : (net : Net) (line : ℕ) (a : Result World Cause) (on : World → End) → Comes (IsReached net) a
    → ((y : World) → IsReached net y → EndsSo (on y)) → EndsSo (went_on line a on)
on_comes net line (Ok y) on h k = k y h
on_comes net line (Err c) on h k = h

lines_come : (day : Day) (net : Net) (lines : List ScriptStep) (x : World) (left : List (List StreamDraft)) → IsIn net 0
    → IsReached net x → ((n : ℕ) → IsDayFor net (day n)) → AllByRecursion (IsPlanFor net) left
    → list_all (is_inside net) lines ≡ true → EndsSo (run_lines day net x left lines)
lines_come day net [] x left first r days plans h = tt
lines_come day net (s ∷ lines) x left first r days plans h =
    on_comes net s.line (take_line day net left s.form x) (λ y. run_lines day net y (left_after left s.form) lines)
    (line_comes day net left s.form x first r days plans (and_left (is_inside net s) (list_all (is_inside net) lines) h))
    (λ y k.
    lines_come day net lines y (left_after left s.form) first k days (left_plans net (takes_plan s.form) left plans)
    (and_right (is_inside net s) (list_all (is_inside net) lines) h))

run_comes : (day : Day) (script : Script) → 0 < node_count script.net → AreLinesInside script.net script.steps
    → ArePlansFor script day → EndsSo (run_of_script day script)
unfolding run_of run
run_comes day script some inside plans =
    lines_come day script.net script.steps empty_world script.plans (lt-ltb 0 (node_count script.net) some)
    (record { steps = []; by_them = refl }) plans.days plans.sections inside

-- a stop of the run may come
pub stop_comes : (day : Day) (script : Script) (line : ℕ) (s : Stop) → 0 < node_count script.net
    → AreLinesInside script.net script.steps → ArePlansFor script day → IsStopped day script line s
    → never_comes s ≡ false
stop_comes day script line s some inside plans h =
    subst (λ (t : Stop). never_comes t ≡ false) h.2
    (subst EndsSo h.1 (run_comes day script some inside plans))

-- a record that asks for no day
pub no_days : (script : Script) → AllByRecursion (IsPlanFor script.net) script.plans
    → ArePlansFor script (λ n. Err no_moment)
unfolding told
no_days script plans = record { sections = plans; days = λ n. refl }

-- and of the definitions' run
pub cause_comes : (day : Day) (script : Script) (line : ℕ) (c : Cause) → 0 < node_count script.net
    → AreLinesInside script.net script.steps → ArePlansFor script day → run_of_script day script ≡ stopped line c
    → never_comes (told c) ≡ false
cause_comes day script line c some inside plans e = subst EndsSo e (run_comes day script some inside plans)
