use Rattle.owner_rows.proofs.tables.PairTable.prepare_row.Goals as goal
use Rattle.owner_rows.proofs.Keys.{blank_put_at, key_tells, none_there}
use Rattle.owner_rows.specs.Tables.{has_pair_row, same_key}
use Rattle.std.proofs.Common.{◌∙◌, sym}

pub returns-in-Ok-clause-same : goal.returns-in-Ok-clause-same
returns-in-Ok-clause-same g c =
    blank_put_at same_key key_tells (has_pair_row c.args.self.now)
    (λ q. has_pair_row (record { rows = c.insert.new.self; blank = c.args.self.now.blank }) q)
    (c.args.w, (c.args.n, c.args.i)) c.args.self.now.blank
    (none_there _ (sym c.if-contains_key.false ∙ c.contains_key.ensures)) c.in-Ok.ensures.updates.0
