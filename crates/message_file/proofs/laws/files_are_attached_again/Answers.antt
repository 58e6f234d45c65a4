use Rattle.message_file.proofs.Reading.{kept_is}
use Rattle.message_file.proofs.Again.{not_refused, one_refusal}
use Rattle.message_file.proofs.laws.files_are_attached_again.Goals as goal

pub returns-clause-one_list : goal.returns-clause-one_list
returns-clause-one_list c = λ owner file bodies is. kept_is owner file bodies is

pub returns-clause-not_refused : goal.returns-clause-not_refused
returns-clause-not_refused c = λ owner file bodies fault is refuses. not_refused owner file bodies fault is refuses

pub returns-clause-one_refusal : goal.returns-clause-one_refusal
returns-clause-one_refusal c = λ owner file a b first second not other. one_refusal owner file a b first second not other
