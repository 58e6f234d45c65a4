-- A line that takes the plan of a day is one that takes the next plan, where that of the day is the only one left.
use Rattle.std.proofs.Common.{◌≡◌, ◌∙◌, ◌∷◌, [], ℕ, List, Option, None, Some, Result, Ok, Err, ap, false, refl, sym}
use Rattle.std.specs.Prelude.{IsTrue}
use Rattle.model.specs.Types.{Net, Next, StreamDraft, WorldStep}
use Rattle.model.specs.World.{World, result_map}
use Rattle.network_world.specs.Stations.{WorldState}
use Rattle.record_script.specs.declared.OneStep.TheVariants as one
use Rattle.record_script.specs.declared.StepForm.{StepForm}
use Rattle.record_script.specs.declared.StepForm.TheVariants as form
use Rattle.record_runs.specs.Causes.{Cause, full_day, no_moment}
use Rattle.record_runs.specs.Days.{GivesFault, IsPlanOf, asked_day, take_planned}
use Rattle.record_runs.specs.Lines.{Day, act, are_inside, asks_day, left_after, line_steps, only, whole, cut_short}
use Rattle.record_script.specs.Inside.{ws_in}
use Rattle.record_runs.specs.Runs.{and_then, take_line, take_steps}
use Rattle.record_runs.specs.Taken.{HaltsFor, Leads, halts_day}
use Rattle.record_runs.specs.declared.acts.Act.{Act}
use Rattle.record_runs.specs.declared.acts.Act.TheVariants.{Own}
use Rattle.record_runs.specs.declared.days.DayFault.{DayFault}
use Rattle.record_runs.specs.declared.days.DayFault.TheVariants as fault
use Rattle.record_runs.specs.declared.stops.Halt.{Halt}
use Rattle.record_runs.specs.declared.stops.Halt.TheVariants as halt

-- the plan of a day alone is left
alone_is : (w : Act → WorldStep) (net : Net) (x : World) (r : Result (List StreamDraft) Cause)
    → and_then (result_map (λ (a : Act). only (w a)) (result_map (λ drafts. Own 0 (Next drafts)) r)) (take_steps net x)
    ≡ and_then r (λ drafts. take_steps net x (only (w (Own 0 (Next drafts)))))
alone_is w net x (Ok l) = refl
alone_is w net x (Err c) = refl

-- the parts of a pair that is there
parts : {A B : Type 0} {a c : A} {b d : B} → ◌≡◌ {A = Option (A × B)} (Some (a, b)) (Some (c, d)) → (a ≡ c) × (b ≡ d)
parts {A} {B} {a} {c} {b} {d} e =
    let pair : ◌≡◌ {A = A × B} (a, b) (c, d) = cc in (ap (λ p. p.0) pair, ap (λ p. p.1) pair)

-- a line that asks for a day takes its plan
pub asked_is : (plan : Day) (net : Net) (left : List (List StreamDraft)) (f : StepForm) (n : ℕ) (next : StepForm)
    → Some (n, next) ≡ asked_day f → (x : World) → take_line plan net left f x ≡ take_planned plan net n next x
unfolding take_line line_steps act
asked_is plan net left (form.One (one.NextDay d)) n next is x =
    let day_ : d ≡ n = sym (parts is).0 in
    let next_ : form.One one.Next ≡ next = sym (parts is).1 in
    alone_is whole net x (plan d)
    ∙ (ap (λ m. take_planned plan net m (form.One one.Next) x) day_ ∙ ap (λ g. take_planned plan net n g x) next_)
asked_is plan net left (form.CrashIn w kept (one.NextDay d)) n next is x =
    let day_ : d ≡ n = sym (parts is).0 in
    let next_ : form.CrashIn w kept one.Next ≡ next = sym (parts is).1 in
    alone_is (cut_short kept) net x (plan d)
    ∙ (ap (λ m. take_planned plan net m (form.CrashIn w kept one.Next) x) day_
    ∙ ap (λ g. take_planned plan net n g x) next_)
asked_is plan net left _ n next is x = cc

-- the line in its place asks for none, names the same workstations, and leaves the other plans
pub asked_next : (f : StepForm) (n : ℕ) (next : StepForm) → Some (n, next) ≡ asked_day f → asks_day next ≡ false
asked_next (form.One (one.NextDay d)) n next is =
    let next_ : form.One one.Next ≡ next = sym (parts is).1 in ap asks_day (sym next_)
asked_next (form.CrashIn w kept (one.NextDay d)) n next is =
    let next_ : form.CrashIn w kept one.Next ≡ next = sym (parts is).1 in ap asks_day (sym next_)
asked_next _ n next is = cc

pub asked_inside : (net : Net) (f : StepForm) (n : ℕ) (next : StepForm) → Some (n, next) ≡ asked_day f
    → IsTrue (are_inside net (ws_in f)) → IsTrue (are_inside net (ws_in next))
asked_inside net (form.One (one.NextDay d)) n next is h =
    let next_ : form.One one.Next ≡ next = sym (parts is).1 in ap (λ g. are_inside net (ws_in g)) (sym next_) ∙ h
asked_inside net (form.CrashIn w kept (one.NextDay d)) n next is h =
    let next_ : form.CrashIn w kept one.Next ≡ next = sym (parts is).1 in ap (λ g. are_inside net (ws_in g)) (sym next_) ∙ h
asked_inside net _ n next is h = cc

pub asked_left : (f : StepForm) (n : ℕ) (next : StepForm) (left : List (List StreamDraft)) → Some (n, next) ≡ asked_day f
    → left ≡ left_after left f
asked_left (form.One (one.NextDay d)) n next left is = refl
asked_left (form.CrashIn w kept (one.NextDay d)) n next left is = refl
asked_left _ n next left is = cc

-- a line that asks for none
pub asked_none : (f : StepForm) → None ≡ asked_day f → asks_day f ≡ false
asked_none (form.One (one.NextDay d)) is = cc
asked_none (form.CrashIn w kept (one.NextDay d)) is = cc
asked_none (form.One _) is = refl
asked_none (form.CrashIn w kept _) is = refl
asked_none _ is = refl

-- what is made in another way leads to the same, and stops for the same
pub leads_too : (old new : WorldState) (made same : World → Result World Cause) → ((x : World) → made x ≡ same x)
    → Leads old same new → Leads old made new
leads_too old new made same is h =
    record {
      net_ = h.net_;
      leads_ = λ x s. let t = h.leads_ x s in (t.0, is x ∙ t.1, t.2);
    }

pub halts_too : (old : WorldState) (made same : World → Result World Cause) (t : Halt) → ((x : World) → made x ≡ same x)
    → HaltsFor old same t → HaltsFor old made t
halts_too old made same halt.NoMemory is h = tt
halts_too old made same (halt.At s) is h = λ x b. let u = h x b in (u.0, is x ∙ u.1, u.2)

-- a plan that is given is the only one left
pub planned_is : (plan : Day) (net : Net) (n : ℕ) (next : StepForm) (drafts : List StreamDraft)
    (left : List (List StreamDraft)) → plan n ≡ Ok drafts → left ≡ drafts ∷ [] → (x : World)
    → take_planned plan net n next x ≡ take_line plan net left next x
planned_is plan net n next drafts left is alone x =
    ap (λ (r : Result (List StreamDraft) Cause). and_then r (λ l. take_line plan net (l ∷ []) next x)) is
    ∙ ap (λ l. take_line plan net l next x) (sym alone)

-- a plan that is not given stops the line
refused_is : (plan : Day) (net : Net) (n : ℕ) (next : StepForm) (c : Cause) → plan n ≡ Err c → (x : World)
    → take_planned plan net n next x ≡ Err c
refused_is plan net n next c is x =
    ap (λ (r : Result (List StreamDraft) Cause). and_then r (λ l. take_line plan net (l ∷ []) next x)) is

pub no_plan_halts : (gives : ℕ → Result (List StreamDraft) Cause → Type 0) (plan : Day) (old : WorldState) (net : Net) (n : ℕ)
    (next : StepForm) (f : DayFault) → IsPlanOf gives plan → GivesFault (gives n) f
    → HaltsFor old (take_planned plan net n next) (halts_day f)
no_plan_halts gives plan old net n next (fault.TooMany most) is h = λ x b.
    (full_day most, refused_is plan net n next (full_day most) (is n (Err (full_day most)) h) x, refl)
no_plan_halts gives plan old net n next fault.NoMoment is h = λ x b.
    (no_moment, refused_is plan net n next no_moment (is n (Err no_moment) h) x, refl)
no_plan_halts gives plan old net n next fault.NoMemory is h = tt
