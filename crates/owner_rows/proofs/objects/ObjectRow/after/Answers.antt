use Rattle.std.proofs.Common.{ap, ◌∙◌}
use Rattle.std.specs.Option.{option_or}
use Rattle.std.specs.Prelude.{◌||◌}
use Rattle.owner_rows.proofs.ObjectTelling.{object_told}
use Rattle.owner_rows.proofs.objects.ObjectRow.after.Goals as goal

pub returns : goal.returns
returns c events room h =
    object_told c.args.o.now events c.args.body.now c.args.self.now _ c.is_added_by.result c.is_freed_by.result room h
    c.is_added_by.ensures c.is_freed_by.ensures
    (c.either.ensures ∙ ap (λ t. c.args.self.now.cancelled || t) c.is_cancelled_by.ensures)
    (c.either-2.ensures ∙ ap (λ t. c.args.self.now.late || t) c.is_late_by.ensures)
    (c.set_after.ensures ∙ ap (λ p. option_or p c.args.self.now.priority) c.priority_of.ensures) c.counted.ensures c.freed_after.ensures
