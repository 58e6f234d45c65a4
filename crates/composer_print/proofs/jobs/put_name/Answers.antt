use Rattle.composer_print.proofs.Named.{key_more}
use Rattle.composer_print.proofs.jobs.put_name.Goals as goal

pub returns-in-Ok : goal.returns-in-Ok
returns-in-Ok c = key_more c.args.names.now.keys c.insert.new.self.keys c.args.name c.in-Ok.ensures.keys
