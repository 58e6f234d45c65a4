-- The steps of fit lines are fit, and so is every history that they make.
use Rattle.std.proofs.Common.{[], ℕ, ◌∷◌, ◌≡◌, arith, Bool, drop, Err, if◌then◌else◌, IfOk, IfSome, List, map, None, Ok}
use Rattle.std.proofs.Common.{option_and_then, Option, refl, Result, Some, subst, true, false}
use Rattle.std.proofs.lemmas.List.Elements.{All-cons, All-drop, All-head, All-nil, All-tail}
use Rattle.std.specs.List.{All}
use Rattle.std.specs.Prelude.{filter}
use Rattle.std.specs.Result.{result_ok}
use Rattle.base_types.specs.declared.Recovery.{Recovery}
use Rattle.base_types.specs.declared.Recovery.TheVariants as recovery
use Rattle.model.specs.Types.{Cmd, Crash, Deliver, Local, Net, StreamDraft, Take, Typed, WorldStep}
use Rattle.model.specs.Words.{least}
use Rattle.model.specs.Catalogue.{StreamJob, job}
use Rattle.model.specs.History.{View}
use Rattle.model.specs.OwnMembers.{own_job_numbers}
use Rattle.model.specs.PresentNet.{present_net}
use Rattle.model.specs.World.{StepRefused, World, empty_world, result_map, step, view_at}
use Rattle.model.specs.Fit.{AreFitEntries, IsFit, IsFitCmd, IsFitDraft, IsFitStep}
use Rattle.model_laws.proofs.FitEntries.{fit_step}
use Rattle.conman_orders.specs.Orders.{Answer, IsFitOrder, due_order}
use Rattle.conman_orders.proofs.Fits.{order_fits}
use Rattle.recovery_watch.specs.Advice.{advice, advised_at, advised_by, is_waiting, needs_advice}
use Rattle.recovery_watch.specs.Advice as advices
use Rattle.record_script.specs.declared.Script.{Script}
use Rattle.record_script.specs.declared.ScriptStep.{ScriptStep}
use Rattle.record_script.specs.declared.OneStep.{OneStep}
use Rattle.record_script.specs.declared.OneStep.TheVariants as one
use Rattle.record_script.specs.declared.StepForm.{StepForm}
use Rattle.record_script.specs.declared.StepForm.TheVariants as form
use Rattle.record_runs.specs.Causes.{Cause}
use Rattle.record_runs.specs.Lines.{Day, act, advised, cut_short, left_after, line_steps, live_jobs, next_plan, only}
use Rattle.record_runs.specs.Lines.{takes_plan, typed, undelivered, whole}
use Rattle.record_runs.specs.Runs.{End, and_then, as_cause, done, run_lines, run_of, stopped, take_line, take_steps, went_on}
use Rattle.record_runs.specs.Ends.{run_of_script}
use Rattle.record_laws.proofs.Fits.{AreFitDays, AreFitPlans, IsFitForm, IsFitOne, IsFitPlan, IsFitScript, IsFitStepOf}

-- what is made of a fit answer
mapped : {A B E : Type 0} (r : Result A E) (f : A → B) (P : A → Type 0) (Q : B → Type 0) → IfOk r P
    → ((a : A) → P a → Q (f a)) → IfOk (result_map f r) Q
mapped (Ok a) f P Q p h = h a p
mapped (Err e) f P Q p h = tt

-- the next plan
plan_fit : (left : List (List StreamDraft)) → AreFitPlans left → IsFitPlan (next_plan left)
plan_fit [] h = (omega arith, All-nil IsFitDraft)
plan_fit (drafts ∷ left) h = All-head IsFitPlan drafts left h

-- a command that a line gives
typed_fit : (w : ℕ) (r : Answer) → IfOk r IsFitOrder
    → IfOk (typed w (result_ok r)) (λ a. IsFitStep (whole a) × ((kept : Bool) → IsFitStep (cut_short kept a)))
typed_fit w (Ok order) h = (h, λ kept. h)
typed_fit w (Err fault) h = tt

day_fit : (day : Day) (d : ℕ) → AreFitDays day → IfOk (day d) IsFitPlan
day_fit day d h = go (day d) refl
  where
    go : (r : Result (List StreamDraft) Cause) → day d ≡ r → IfOk r IsFitPlan
    go (Ok drafts) same = h d drafts same
    go (Err c) same = tt

-- the step of a line, whether it is taken whole or is cut short
day_act_fit : (net : Net) (x : World) (left : List (List StreamDraft)) (d : ℕ)
    (r : Result (List StreamDraft) Cause) → IfOk r IsFitPlan
    → IfOk (act (λ e. r) net x left (one.NextDay d)) (λ a. IsFitStep (whole a) × ((kept : Bool) → IsFitStep (cut_short kept a)))
unfolding act
day_act_fit net x left d (Ok drafts) h = (h, λ kept. h)
day_act_fit net x left d (Err c) h = tt

act_fit : (day : Day) (net : Net) (x : World) (left : List (List StreamDraft)) (o : OneStep) → AreFitDays day
    → AreFitPlans left → IsFitOne o → IfOk (act day net x left o) (λ a. IsFitStep (whole a) × ((kept : Bool) → IsFitStep (cut_short kept a)))
unfolding act
act_fit day net x left one.Next days plans h = (plan_fit left plans, λ kept. plan_fit left plans)
act_fit day net x left (one.NextDay d) days plans h = day_act_fit net x left d (day d) (day_fit day d days)
act_fit day net x left (one.Turn w t) days plans h = (tt, λ kept. tt)
act_fit day net x left (one.Link a b) days plans h = (tt, λ kept. tt)
act_fit day net x left (one.Unlink a b) days plans h = (tt, λ kept. tt)
act_fit day net x left (one.Deliver a b k) days plans h = (tt, λ kept. tt)
act_fit day net x left (one.Started w j) days plans h = (tt, λ kept. tt)
act_fit day net x left (one.Failed w j) days plans h = (tt, λ kept. tt)
act_fit day net x left (one.Ended w j rc) days plans h = (tt, λ kept. tt)
act_fit day net x left (one.Typed w line) days plans h =
    typed_fit w (due_order (present_net net (view_at x w)) (view_at x w) w line)
    (order_fits (present_net net (view_at x w)) (view_at x w) w line h.0 h.1)
act_fit day net x left (one.Fulfil w o i) days plans h = (tt, λ kept. tt)

one_fit : (s : WorldStep) → IsFitStep s → All IsFitStep (only s)
one_fit s h = All-cons IsFitStep s [] h (All-nil IsFitStep)

-- steps that bring nothing
each_fit : {A : Type 0} (f : A → WorldStep) → ((a : A) → IsFitStep (f a)) → (items : List A)
    → All IsFitStep (map f items)
each_fit f h [] = All-nil IsFitStep
each_fit f h (a ∷ items) = All-cons IsFitStep (f a) (map f items) (h a) (each_fit f h items)

-- advice brings no text
found_fit : {A : Type 0} (P : A → Type 0) (f : ℕ → Option A) → ((n : ℕ) → IfSome (f n) P) → (o : Option ℕ)
    → IfSome (option_and_then f o) P
found_fit P f h None = tt
found_fit P f h (Some n) = h n

by_fit : (r : Recovery) (j : ℕ) → IfSome (advised_by r j) IsFitCmd
by_fit recovery.Stop j = tt
by_fit recovery.Continue j = tt
by_fit recovery.Rerun j = tt

job_fit : (V : View) (j : ℕ) → IfSome (advised_at V j) IsFitCmd
job_fit V j = go (job V j)
  where
    go : (o : Option StreamJob) → IfSome (option_and_then (λ (p : StreamJob). advices.advised p.doc) o) IsFitCmd
    go None = tt
    go (Some p) = by_fit p.doc.recovery p.doc.no

advice_fit : (V : View) (w : ℕ) → IfSome (advice V w) IsFitCmd
unfolding advice
advice_fit V w = go (is_waiting V w)
  where
    go : (b : Bool) → IfSome (if b then None else
        option_and_then (advised_at V) (least (filter (needs_advice V w) (own_job_numbers V w)))) IsFitCmd
    go true = tt
    go false =
        found_fit IsFitCmd (advised_at V) (job_fit V) (least (filter (needs_advice V w) (own_job_numbers V w)))

advised_fit : (w : ℕ) (o : Option Cmd) → IfSome o IsFitCmd → All IsFitStep (advised w o)
advised_fit w None h = All-nil IsFitStep
advised_fit w (Some command) h = one_fit (Take w (Typed w command)) h

line_fit : (day : Day) (net : Net) (x : World) (left : List (List StreamDraft)) (f : StepForm) → AreFitDays day
    → AreFitPlans left → IsFitForm f → IfOk (line_steps day net x left f) (All IsFitStep)
unfolding line_steps
line_fit day net x left (form.One o) days plans h =
    mapped (act day net x left o) (λ a. only (whole a))
    (λ a. IsFitStep (whole a) × ((kept : Bool) → IsFitStep (cut_short kept a))) (All IsFitStep)
    (act_fit day net x left o days plans h) (λ a k. one_fit (whole a) k.0)
line_fit day net x left (form.Flow a b) days plans h =
    each_fit (λ k. Deliver a b k) (λ k. tt) (undelivered x a b)
line_fit day net x left (form.Reap w rc) days plans h =
    each_fit (λ j. Take w (Local.Ended j rc)) (λ j. tt) (live_jobs x w)
line_fit day net x left (form.Crash w) days plans h = one_fit (Crash w) tt
line_fit day net x left (form.CrashIn w kept o) days plans h =
    mapped (act day net x left o) (λ a. only (cut_short kept a))
    (λ a. IsFitStep (whole a) × ((kept : Bool) → IsFitStep (cut_short kept a))) (All IsFitStep)
    (act_fit day net x left o days plans h) (λ a k. one_fit (cut_short kept a) (k.1 kept))
line_fit day net x left (form.Recover w) days plans h =
    advised_fit w (advice (view_at x w) w) (advice_fit (view_at x w) w)

-- histories
abbrev IsFitWorld : World → Type 0
IsFitWorld x = AreFitEntries x.history

steps_fit : (net : Net) (steps : List WorldStep) (x : World) → IsFitWorld x → All IsFitStep steps
    → IfOk (take_steps net x steps) IsFitWorld
steps_fit net [] x h fit = h
steps_fit net (s ∷ steps) x h fit =
    go (step net x s) refl (λ y k. steps_fit net steps y k (All-tail IsFitStep s steps fit))
  where
    go : (r : Result World StepRefused) → step net x s ≡ r
        → ((y : World) → IsFitWorld y → IfOk (take_steps net y steps) IsFitWorld)
        → IfOk (and_then (as_cause r) (λ y. take_steps net y steps)) IsFitWorld
    go (Ok y) same on = on y (fit_step net x y s h (All-head IsFitStep s steps fit) same)
    go (Err refusal) same on = tt

taken_fit : (net : Net) (x : World) (r : Result (List WorldStep) Cause) → IsFitWorld x → IfOk r (All IsFitStep)
    → IfOk (and_then r (take_steps net x)) IsFitWorld
taken_fit net x (Ok steps) h fit = steps_fit net steps x h fit
taken_fit net x (Err c) h fit = tt

line_kept : (day : Day) (net : Net) (left : List (List StreamDraft)) (f : StepForm) (x : World) → AreFitDays day
    → AreFitPlans left → IsFitForm f → IsFitWorld x → IfOk (take_line day net left f x) IsFitWorld
unfolding take_line
line_kept day net left f x days plans fit h =
    taken_fit net x (line_steps day net x left f) h (line_fit day net x left f days plans fit)

left_fit : (b : Bool) (left : List (List StreamDraft)) → AreFitPlans left
    → AreFitPlans (if b then drop 1 left else left)
left_fit true left h = All-drop IsFitPlan 1 left h
left_fit false left h = h

abbrev IsFitEnd : End → Type 0
IsFitEnd (done x) = IsFitWorld x
IsFitEnd (stopped line c) = Unit {0}

on_fit : (line : ℕ) (r : Result World Cause) (on : World → End) → IfOk r IsFitWorld
    → ((y : World) → IsFitWorld y → IsFitEnd (on y)) → IsFitEnd (went_on line r on)
on_fit line (Ok y) on h k = k y h
on_fit line (Err c) on h k = tt

lines_fit : (day : Day) (net : Net) (lines : List ScriptStep) (x : World) (left : List (List StreamDraft))
    → AreFitDays day → AreFitPlans left → All IsFitStepOf lines → IsFitWorld x
    → IsFitEnd (run_lines day net x left lines)
lines_fit day net [] x left days plans fit h = h
lines_fit day net (s ∷ lines) x left days plans fit h =
    on_fit s.line (take_line day net left s.form x) (λ y. run_lines day net y (left_after left s.form) lines)
    (line_kept day net left s.form x days plans (All-head IsFitStepOf s lines fit) h)
    (λ y k.
    lines_fit day net lines y (left_after left s.form) days (left_fit (takes_plan s.form) left plans)
    (All-tail IsFitStepOf s lines fit) k)

pub run_fit : (day : Day) (script : Script) (x : World) → AreFitDays day → IsFitScript script
    → run_of_script day script ≡ done x → AreFitEntries x.history
unfolding run_of
run_fit day script x days fit same =
    subst IsFitEnd same
    (lines_fit day script.net script.steps empty_world script.plans days fit.0 fit.1 (All-nil IsFit))
