use Rattle.definition_names.proofs.Inserted.{name_put}
use Rattle.definition_names.proofs.firsts.put_name.Goals as goal

pub returns-in-Ok : goal.returns-in-Ok
returns-in-Ok c = name_put c.args.index.now.entries c.insert.new.self.entries c.args.name c.args.place c.in-Ok.ensures.entries
