use Rattle.std.proofs.Common.{◌≡◌, None, Option, subst, sym}
use Rattle.std.specs.Prelude.{IfOk}
use Rattle.composer_parser.specs.declared.Defs.{Defs}
use Rattle.network_tree.specs.Faults.{net_fault}
use Rattle.record_runs.specs.Ends.{AreLinesInside, IsEnd, IsOver}
use Rattle.record_script.specs.declared.Script.{Script}
use Rattle.record_runs.specs.Never.{ArePlansFor}
use Rattle.night_records.specs.Days.{ArePlans}
use Rattle.night_records.proofs.OwnPlans.{own_plans}
use Rattle.night_records.proofs.Plans.{are_plans, plans_of}
use Rattle.night_records.proofs.runs.run_record.Goals as goal

pub run_days-requires-clause-accepted : goal.run_days-requires-clause-accepted
run_days-requires-clause-accepted c =
    subst (λ (s : Script). net_fault s.net ≡ None) (sym c.into_parts-script.ensures.script) c.requires.accepted

pub run_days-requires-clause-inside : goal.run_days-requires-clause-inside
run_days-requires-clause-inside c =
    subst (λ (s : Script). AreLinesInside s.net s.steps) (sym c.into_parts-script.ensures.script) c.requires.inside

pub returns-clause-end : goal.returns-clause-end
returns-clause-end c = λ day is.
    subst (λ (s : Script). IfOk c.run_days.result (IsEnd day s)) c.into_parts-script.ensures.script
    (c.run_days.ensures.end day
    (subst (λ (w : Option Defs). ArePlans w day) (sym c.into_parts-script.ensures.workload) is))

pub returns-clause-net : goal.returns-clause-net
returns-clause-net c =
    subst (λ (s : Script). IfOk c.run_days.result (IsOver s.net)) c.into_parts-script.ensures.script c.run_days.ensures.net

pub returns-clause-otherwise : goal.returns-clause-otherwise
returns-clause-otherwise c = λ text short is.
    c.run_days.ensures.otherwise (plans_of c.args.night.workload)
    (subst (λ (w : Option Defs). ArePlans w (plans_of c.args.night.workload)) (sym c.into_parts-script.ensures.workload)
    (are_plans c.args.night.workload))
    (subst (λ (s : Script). ArePlansFor s (plans_of c.args.night.workload)) (sym c.into_parts-script.ensures.script)
    (own_plans text c.args.night short is))
