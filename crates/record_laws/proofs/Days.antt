-- Where the drafts of definitions are fit, so is what the days of a record give. Each day has one answer.
use Rattle.std.proofs.Common.{◌≡◌, ◌∙◌, ◌∷◌, [], ℕ, Bool, true, false, List, Option, Some, None, Result, Ok, Err, refl, subst, sym}
use Rattle.std.specs.Prelude.{length, nat_le, nat_lt, option_map}
use Rattle.std.specs.Option.{option_or}
use Rattle.calendars.specs.Dates.{last_day}
use Rattle.composer_parser.specs.declared.Defs.{Defs}
use Rattle.model.specs.Types.{StreamDraft}
use Rattle.model.specs.Words.{first_of_these, least}
use Rattle.plan_builder.specs.Drafts.{AreDrafts}
use Rattle.plan_builder.specs.Limits.{job_count, plan_fault, running, timeless_lines}
use Rattle.plan_builder.specs.Times.{plan_day}
use Rattle.plan_builder.specs.declared.PlanFault.{PlanFault}
use Rattle.plan_builder.specs.declared.PlanFault.TheVariants.{Limit, NoMemory, OutOfRange}
use Rattle.record_runs.specs.Causes.{Cause, full_day, no_moment}
use Rattle.record_runs.specs.Lines.{Day}
use Rattle.night_records.specs.Days as given
use Rattle.night_records.specs.Days.{ArePlans, GivesDay}
use Rattle.night_records.proofs.Plans.{are_plans, plans_of}
use Rattle.record_laws.proofs.Drafts.{drafts_there}
use Rattle.record_laws.proofs.Fits.{AreFitDays, IsFitPlan}

-- a record without definitions has no drafts of days
pub no_days : (day : Day) → ArePlans None day → AreFitDays day
no_days day are n drafts is =
    absurd (let both : Ok drafts ≡ Err no_moment = sym is ∙ are n (Err no_moment) refl in cc)

-- want of memory is no fault of a day
has_memory : (d : Defs) (n : ℕ) → plan_fault d n ≡ Some NoMemory → ⊥
has_memory d n =
    go (nat_lt 4096 (length (running d n))) (nat_lt 16384 (job_count d (running d n)))
    (least (timeless_lines d (plan_day d n) (running d n)))
  where
    go : (many full : Bool) (line : Option ℕ)
        → option_or (first_of_these ((many, Limit 4096) ∷ (full, Limit 16384) ∷ [])) (option_map OutOfRange line)
        ≡ Some NoMemory → ⊥
    go true full line e = cc
    go false true line e = cc
    go false false None e = cc
    go false false (Some l) e = cc

-- with definitions a day has drafts exactly where its plan has no fault
pub days_fit : (d : Defs) (day : Day) → ArePlans (Some d) day
    → ((n : ℕ) (drafts : List StreamDraft) → AreDrafts d n drafts → IsFitPlan drafts) → AreFitDays day
days_fit d day are fit n drafts is = by_day (nat_le n last_day) refl
  where
    not_given : (c : Cause) → day n ≡ Err c → IsFitPlan drafts
    not_given c e = absurd (let both : Ok drafts ≡ Err c = sym is ∙ e in cc)

    by_fault : nat_le n last_day ≡ true → (o : Option PlanFault) → plan_fault d n ≡ o → IsFitPlan drafts
    by_fault low (Some (Limit most)) e =
        not_given (full_day most) (are n (Err (full_day most)) (given.full most low e))
    by_fault low (Some (OutOfRange line)) e =
        not_given no_moment (are n (Err no_moment) (given.timeless line low e))
    by_fault low (Some NoMemory) e = absurd (has_memory d n e)
    by_fault low None e =
        let some = drafts_there d n in
        let both : ◌≡◌ {A = Result (List StreamDraft) Cause} (Ok some.0) (Ok drafts) =
        sym (are n (Ok some.0) (given.drafts some.0 low e some.1)) ∙ is in
        let same : some.0 ≡ drafts = cc in
        fit n drafts (subst (AreDrafts d n) same some.1)

    by_day : (b : Bool) → nat_le n last_day ≡ b → IsFitPlan drafts
    by_day false e = not_given no_moment (are n (Err no_moment) (given.behind e))
    by_day true e = by_fault e (plan_fault d n) refl

-- the plans of a day are those that its record gives
answer_there : (d : Defs) (n : ℕ) → (answer : Result (List StreamDraft) Cause) × GivesDay d n answer
answer_there d n = by_day (nat_le n last_day) refl
  where
    by_fault : nat_le n last_day ≡ true → (o : Option PlanFault) → plan_fault d n ≡ o
        → (answer : Result (List StreamDraft) Cause) × GivesDay d n answer
    by_fault low (Some (Limit most)) e = (Err (full_day most), given.full most low e)
    by_fault low (Some (OutOfRange line)) e = (Err no_moment, given.timeless line low e)
    by_fault low (Some NoMemory) e = absurd (has_memory d n e)
    by_fault low None e = let some = drafts_there d n in (Ok some.0, given.drafts some.0 low e some.1)

    by_day : (b : Bool) → nat_le n last_day ≡ b → (answer : Result (List StreamDraft) Cause) × GivesDay d n answer
    by_day false e = (Err no_moment, given.behind e)
    by_day true e = by_fault e (plan_fault d n) refl

pub plans_are : (workload : Option Defs) (day : Day) → ArePlans workload day → (n : ℕ) → plans_of workload n ≡ day n
plans_are None day are n = sym (are n (Err no_moment) refl)
plans_are (Some d) day are n =
    let some = answer_there d n in
    are_plans (Some d) n some.0 some.1 ∙ sym (are n some.0 some.1)
