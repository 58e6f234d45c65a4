use Rattle.std.proofs.Common.{◌∙◌, ℕ, List, Option, ap, option_and_then, slice_get}
use Rattle.definition_names.specs.Names.{calendar_at}
use Rattle.workload_defs.specs.Days.{days_in}
use Rattle.workload_defs.proofs.Orders.{ordered_where}
use Rattle.workload_defs.proofs.days.sorted_days_of.Goals as goal

pub returns : goal.returns
returns c = λ d table sorted.
    ap days_in c.sorted_at.ensures
    ∙ (ap (λ (o : Option ℕ). days_in (option_and_then (slice_get c.as_slice.result.now) o))
    (c.place_in.ensures ∙ table c.args.name.now)
    ∙ (ap (λ (l : List (List ℕ)). days_in (option_and_then (slice_get l) (calendar_at d c.args.name.now)))
    (c.as_slice.ensures.value ∙ sorted)
    ∙ ordered_where d.calendars (calendar_at d c.args.name.now)))
