use Rattle.std.proofs.Common.{rules}
use Rattle.lemmas.proofs.Results.{on_ok}
use Rattle.history_script.proofs.printing.write_start.Goals as goal

pub returns-clause-range : goal.returns-clause-range
returns-clause-range c = on_ok c.write.result (search rules, search rules)
