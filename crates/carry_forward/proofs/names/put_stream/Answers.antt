use Rattle.carry_forward.proofs.Indexed.{earlier_more, fresh_more}
use Rattle.carry_forward.proofs.names.put_stream.Goals as goal

pub returns-in-Ok-clause-fresh : goal.returns-in-Ok-clause-fresh
returns-in-Ok-clause-fresh c = fresh_more c.args.names.now.entries c.insert.new.self.entries (c.args.ws, c.args.name) c.args.target c.in-Ok.ensures.entries

pub returns-in-Ok-clause-earlier : goal.returns-in-Ok-clause-earlier
returns-in-Ok-clause-earlier c = earlier_more c.args.names.now.entries c.insert.new.self.entries (c.args.ws, c.args.name) c.args.target c.in-Ok.ensures.entries
