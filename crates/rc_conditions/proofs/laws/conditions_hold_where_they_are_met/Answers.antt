use Rattle.rc_conditions.proofs.Meetings.{met_by_expression}
use Rattle.rc_conditions.proofs.laws.conditions_hold_where_they_are_met.Goals as goal

pub returns : goal.returns
returns c = λ e rc few. met_by_expression e rc few
