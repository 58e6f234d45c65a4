-- The run of a record that is read stops for none of what never comes.
use Rattle.std.proofs.Common.{◌≡◌, ◌≤◌, ◌^◌, ℕ, List, Result, Ok, false, length, subst}
use Rattle.model.specs.Types.{StreamDraft}
use Rattle.network_tree.proofs.Trees.{few}
use Rattle.record_runs.proofs.Coming.{cause_comes}
use Rattle.record_runs.specs.Causes.{Cause, told}
use Rattle.record_runs.specs.Ends.{run_of_script}
use Rattle.record_runs.specs.Lines.{Day}
use Rattle.record_runs.specs.Never.{ArePlansFor, IsDayFor, never_comes}
use Rattle.record_runs.specs.Runs.{stopped}
use Rattle.night_records.proofs.OwnPlans.{own_plans}
use Rattle.night_records.proofs.Plans.{plans_of}
use Rattle.night_records.specs.Days.{ArePlans}
use Rattle.night_records.specs.Readings.{IsRead}
use Rattle.night_records.specs.declared.records.Record.{Record}
use Rattle.record_laws.proofs.Days.{plans_are}
use Rattle.record_laws.proofs.Nets.{is_sure}

own_days : (text : List ℕ) (r : Record) (day : Day) → length text ≤ 2 ^ 31 → IsRead text (Ok r) → ArePlans r.workload day
    → ArePlansFor r.script day
own_days text r day short is are =
    let own : ArePlansFor r.script (plans_of r.workload) = own_plans text r short is in
    record {
      sections = own.sections;
      days = λ n.
          subst (λ (a : Result (List StreamDraft) Cause). IsDayFor r.script.net a) (plans_are r.workload day are n)
          (own.days n);
    }

pub stops_otherwise : (text : List ℕ) (r : Record) (day : Day) (line : ℕ) (c : Cause) → length text ≤ 2 ^ 31
    → IsRead text (Ok r) → ArePlans r.workload day → run_of_script day r.script ≡ stopped line c
    → never_comes (told c) ≡ false
stops_otherwise text r day line c short is are e =
    let sure = is_sure text r is in
    cause_comes day r.script line c (few r.script.net sure.0).0 sure.1 (own_days text r day short is are) e
