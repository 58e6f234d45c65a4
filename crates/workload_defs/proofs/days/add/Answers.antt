use Rattle.workload_defs.proofs.Puts.{number_put}
use Rattle.workload_defs.proofs.days.add.Goals as goal

pub returns-in-Ok-clause-made : goal.returns-in-Ok-clause-made
returns-in-Ok-clause-made c =
    λ other.
    number_put c.args.made.now.entries c.insert.new.self.entries c.args.key c.len-place.result c.in-Ok.ensures.entries other
