-- Each day of a record has one answer, and so the run of a record has one end.
use Rattle.std.proofs.Common.{◌≡◌, ◌∙◌, ℕ, Bool, true, false, List, [], ◌∷◌, Option, Some, None, Result, Ok, Err}
use Rattle.std.proofs.Common.{refl, sym, ap, length}
use Rattle.std.specs.Option.{option_or}
use Rattle.std.specs.Prelude.{nat_le, nat_lt, option_map}
use Rattle.record_laws.proofs.Drafts.{drafts_there}
use Rattle.calendars.specs.Dates.{last_day}
use Rattle.composer_parser.specs.declared.Defs.{Defs}
use Rattle.model.specs.Types.{StreamDraft}
use Rattle.model.specs.Words.{first_of_these, least}
use Rattle.night_records.specs.Days.{ArePlans, Gives, GivesDay}
use Rattle.night_records.specs.declared.Record.{Record}
use Rattle.plan_builder.specs.Limits.{job_count, plan_fault, running, timeless_lines}
use Rattle.plan_builder.specs.Times.{plan_day}
use Rattle.plan_builder.specs.declared.PlanFault.{PlanFault}
use Rattle.plan_builder.specs.declared.PlanFault.TheVariants.{Limit, OutOfRange, NoMemory}
use Rattle.record_runs.specs.Causes.{Cause, full_day, no_moment}
use Rattle.record_runs.specs.Ends.{run_of_script}
use Rattle.record_runs.specs.Lines.{Day}
use Rattle.record_runs.specs.Runs.{End}
use Rattle.input_commands.specs.Nights.{IsRun}

-- a plan has no fault of memory
no_memory_fault : (a b : Bool) (t : Option ℕ)
    → option_or (first_of_these ((a, Limit 4096) ∷ (b, Limit 16384) ∷ [])) (option_map OutOfRange t) ≡ Some NoMemory → ⊥
no_memory_fault true b t e = cc
no_memory_fault false true t e = cc
no_memory_fault false false None e = cc
no_memory_fault false false (Some n) e = cc

-- each day has an answer
by_fault : (d : Defs) (day : ℕ) → nat_le day last_day ≡ true → (o : Option PlanFault) → plan_fault d day ≡ o
    → (answer : Result (List StreamDraft) Cause) × GivesDay d day answer
by_fault d day low None e =
    let are = drafts_there d day in
    (Ok are.0, GivesDay.drafts are.0 low e are.1)
by_fault d day low (Some (Limit most)) e = (Err (full_day most), GivesDay.full most low e)
by_fault d day low (Some (OutOfRange line)) e = (Err no_moment, GivesDay.timeless line low e)
by_fault d day low (Some NoMemory) e =
    absurd
    (no_memory_fault (nat_lt 4096 (length (running d day))) (nat_lt 16384 (job_count d (running d day)))
    (least (timeless_lines d (plan_day d day) (running d day))) e)

answer_of : (workload : Option Defs) (day : ℕ) → (answer : Result (List StreamDraft) Cause) × Gives workload day answer
answer_of None day = (Err no_moment, refl)
answer_of (Some d) day = go (nat_le day last_day) refl
  where
    go : (b : Bool) → nat_le day last_day ≡ b → (answer : Result (List StreamDraft) Cause) × GivesDay d day answer
    go false e = (Err no_moment, GivesDay.behind e)
    go true e = by_fault d day e (plan_fault d day) refl

one_day : (workload : Option Defs) (p q : Day) → ArePlans workload p → ArePlans workload q → (day : ℕ) → p day ≡ q day
one_day workload p q are also day =
    let given = answer_of workload day in are day given.0 given.1 ∙ sym (also day given.0 given.1)

-- so a record has one run
pub one_run : (r : Record) (end other : End) → IsRun r end → IsRun r other → end ≡ other
one_run r end other is also =
    let same : is.days ≡ also.days =
    λ i day. one_day r.workload is.days also.days is.are_plans also.are_plans day i in
    sym is.ends ∙ (ap (λ (p : Day). run_of_script p r.script) same ∙ also.ends)
