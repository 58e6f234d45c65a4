use Rattle.std.proofs.Common.{List, ap, refl, sym, ◌∙◌}
use Rattle.model.specs.Types.{Entry, Events}
use Rattle.model.specs.Facts.{global_reply}
use Rattle.model.specs.History.{list_of}
use Rattle.owner_rows.specs.Replies.{IsReplyRow, reply_while}
use Rattle.owner_rows.specs.Tables.{row_in}
use Rattle.owner_rows.proofs.kept.Kept.global_reply.Goals as goal

pub returns : goal.returns
returns c =
    let r : IsReplyRow (list_of c.self.inside.entries.items (Events 0)) c.args.prompt
    (row_in c.self.inside.told.stations.replies (0, c.args.prompt)) =
    c.self.invariant.told.stations.replies 0 c.args.prompt in
    c.reply.ensures
    ∙ ap (λ n. reply_while n (row_in c.self.inside.told.stations.replies (0, c.args.prompt)))
    (c.self.invariant.told.stations.plans 0 0 refl)
    ∙ sym r.reply ∙ ap (λ (l : List Entry). global_reply c.args.prompt (list_of l (Events 0))) c.self.view_is
