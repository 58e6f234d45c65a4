use Rattle.workload_defs.proofs.Checks.{has_cause, is_accepted, is_checked, is_refused, is_sound}
use Rattle.workload_defs.proofs.workloads.check_whole.Goals as goal

pub returns-clause-checked : goal.returns-clause-checked
returns-clause-checked c = is_checked c.args.defs c.kept.result c.kept.ensures

pub returns-clause-sound : goal.returns-clause-sound
returns-clause-sound c = is_sound c.args.defs c.kept.result c.kept.ensures

pub returns-clause-accepted : goal.returns-clause-accepted
returns-clause-accepted c = is_accepted c.args.defs c.kept.result c.kept.ensures

pub returns-clause-refused : goal.returns-clause-refused
returns-clause-refused c = is_refused c.args.defs c.kept.result c.kept.ensures

pub returns-clause-causes : goal.returns-clause-causes
returns-clause-causes c = has_cause c.args.defs c.kept.result c.kept.ensures
