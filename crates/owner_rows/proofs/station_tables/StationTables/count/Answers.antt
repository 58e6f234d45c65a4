use Rattle.std.proofs.Common.{ap, ◌∙◌}
use Rattle.owner_rows.specs.Tables.{row_in}
use Rattle.owner_rows.proofs.station_tables.StationTables.count.Goals as goal

pub returns : goal.returns
returns c = c.row.ensures ∙ ap (row_in c.args.self.now.counts) c.feed_key-w.ensures
