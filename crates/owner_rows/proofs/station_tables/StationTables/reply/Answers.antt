use Rattle.std.proofs.Common.{ap, ◌∙◌}
use Rattle.owner_rows.specs.Replies.{reply_while}
use Rattle.owner_rows.specs.Tables.{row_in}
use Rattle.owner_rows.proofs.station_tables.StationTables.reply.Goals as goal

pub returns : goal.returns
returns c =
    c.reply_while.ensures
    ∙ (λ j. reply_while ((c.row.ensures ∙ ap (λ w. row_in c.args.self.now.plans (w, 0)) c.w.view_is) j)
    ((c.row-row.ensures ∙ (λ k. row_in c.args.self.now.replies (c.w.view_is k, c.from.ensures k))) j))
