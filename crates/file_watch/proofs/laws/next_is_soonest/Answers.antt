use Rattle.std.proofs.Common.{ap}
use Rattle.file_watch.specs.Circle.{soonest}
use Rattle.file_watch.specs.Probes.{due_probes, next_probe}
use Rattle.file_watch.proofs.Chosen.{none_is_sooner, none_where_none, soonest_is_one}
use Rattle.file_watch.proofs.laws.next_is_soonest.Goals as goal

pub returns-clause-due : goal.returns-clause-due
unfolding next_probe
returns-clause-due c = λ V w last p e. soonest_is_one last (due_probes V w) p e

pub returns-clause-soonest : goal.returns-clause-soonest
unfolding next_probe
returns-clause-soonest c = λ V w last p e. none_is_sooner last (due_probes V w) p e

pub returns-clause-none : goal.returns-clause-none
unfolding next_probe
returns-clause-none c = λ V w last. (λ e. none_where_none last (due_probes V w) e, λ e. ap (soonest last) e)
