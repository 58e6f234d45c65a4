use Rattle.std.proofs.Common.{◌≡◌, subst}
use Rattle.std.specs.Option.{option_copied}
use Rattle.composer_parser.specs.declared.Defs.{Defs}
use Rattle.model.specs.Words.{ascending}
use Rattle.workload_defs.specs.Days.{days_in, days_of}
use Rattle.workload_defs.proofs.workloads.Workload.sorted_days.Goals as goal

pub returns : goal.returns
returns c =
    subst (λ (d : Defs). days_in (option_copied c.sorted_days_of.result) ≡ ascending (days_of d c.args.name.now)) c.self.view_is
    (c.sorted_days_of.ensures c.self.inside.defs c.self.invariant.days_.calendars_ c.self.invariant.days_.sorted_)
