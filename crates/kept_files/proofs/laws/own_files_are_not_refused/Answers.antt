use Rattle.kept_files.proofs.Growing.{more_again, never_refused, one_list}
use Rattle.kept_files.proofs.laws.own_files_are_not_refused.Goals as goal

pub returns-clause-one_list : goal.returns-clause-one_list
returns-clause-one_list c = one_list

pub returns-clause-not_refused : goal.returns-clause-not_refused
returns-clause-not_refused c = never_refused

pub returns-clause-again : goal.returns-clause-again
returns-clause-again c = more_again
