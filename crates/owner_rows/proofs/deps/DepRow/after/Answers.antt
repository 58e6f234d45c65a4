use Rattle.std.proofs.Common.{ap, ◌∙◌}
use Rattle.std.specs.Prelude.{◌||◌}
use Rattle.owner_rows.proofs.DepTelling.{dep_told}
use Rattle.owner_rows.proofs.deps.DepRow.after.Goals as goal

pub returns : goal.returns
returns c events h =
    dep_told c.args.o.now c.args.i events c.args.body.now c.args.self.now _ c.reply_of.result h c.reply_of.ensures
    c.reply_after.ensures
    (c.either.ensures ∙ ap (λ t. c.args.self.now.fulfilled || t) c.is_fulfilled_by.ensures)
    (c.either-2.ensures ∙ ap (λ t. c.args.self.now.recorded || t) c.is_recorded_by.ensures)
    (c.either-3.ensures ∙ ap (λ t. c.args.self.now.late || t) c.is_late_by.ensures)
    (c.either-4.ensures ∙ ap (λ t. c.args.self.now.deleted || t) c.is_deleted_by.ensures)
