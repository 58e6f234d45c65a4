use Rattle.night_records.proofs.Plans.{are_plans, plans_of}
use Rattle.night_records.proofs.laws.days_have_plans.Goals as goal

pub returns : goal.returns
returns c = λ workload. (plans_of workload, are_plans workload)
