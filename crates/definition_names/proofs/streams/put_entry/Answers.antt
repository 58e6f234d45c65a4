use Rattle.definition_names.proofs.Inserted.{entry_put}
use Rattle.definition_names.proofs.streams.put_entry.Goals as goal

pub returns-in-Ok : goal.returns-in-Ok
returns-in-Ok c =
    entry_put c.args.index.now.entries c.insert.new.self.entries (c.args.n, c.args.name) c.args.place c.in-Ok.ensures.entries
