use Rattle.owner_rows.proofs.tables.Table.prepare_row.Goals as goal
use Rattle.owner_rows.proofs.Keys.{blank_put, none_there}
use Rattle.owner_rows.specs.Tables.{has_row}
use Rattle.std.proofs.Common.{◌∙◌, sym}

pub returns-in-Ok-clause-same : goal.returns-in-Ok-clause-same
returns-in-Ok-clause-same g c =
    blank_put (has_row c.args.self.now) (λ q. has_row (record { rows = c.insert.new.self; blank = c.args.self.now.blank }) q)
    (c.args.w, c.args.n) c.args.self.now.blank
    (none_there _ (sym c.if-contains_key.false ∙ c.contains_key.ensures)) c.in-Ok.ensures.updates.0
