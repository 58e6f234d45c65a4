use Rattle.definition_names.proofs.Inserted.{pair_put}
use Rattle.definition_names.proofs.firsts.put_pair.Goals as goal

pub returns-in-Ok : goal.returns-in-Ok
returns-in-Ok c =
    pair_put c.args.index.now.entries c.insert.new.self.entries (c.args.ws, c.args.name) c.args.place c.in-Ok.ensures.entries
