use Rattle.rc_conditions.proofs.Meetings.{no_expression_met, too_long_met}
use Rattle.rc_conditions.proofs.laws.other_lists_hold_of_nothing.Goals as goal

pub returns-clause-no_expression : goal.returns-clause-no_expression
returns-clause-no_expression c = λ ops rc some none. no_expression_met ops rc some none

pub returns-clause-too_long : goal.returns-clause-too_long
returns-clause-too_long c = λ ops rc long. too_long_met ops rc long
