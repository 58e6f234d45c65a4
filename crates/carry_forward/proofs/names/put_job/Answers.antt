use Rattle.carry_forward.proofs.Indexed.{jobs_more}
use Rattle.carry_forward.proofs.names.put_job.Goals as goal

pub returns-in-Ok : goal.returns-in-Ok
returns-in-Ok c = jobs_more c.args.names.now.entries c.insert.new.self.entries c.args.name c.args.number c.in-Ok.ensures.entries
