use Rattle.file_watch.proofs.Due.{probe_has_path, probe_may_be_told}
use Rattle.file_watch.proofs.laws.probes_may_be_told.Goals as goal

pub returns-clause-path : goal.returns-clause-path
returns-clause-path c = λ V w last o i e. probe_has_path V w last o i e

pub returns-clause-told : goal.returns-clause-told
returns-clause-told c = λ V w last o i e. probe_may_be_told V w last o i e
