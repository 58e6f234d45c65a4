use Rattle.std.proofs.Common.{ap, sym, ◌∙◌}
use Rattle.model.specs.Types.{Events}
use Rattle.owner_rows.proofs.Standing.{key_told}
use Rattle.owner_rows.proofs.told.Told.addition_key.Goals as goal

pub returns-in-Some : goal.returns-in-Some
returns-in-Some c kept h =
    key_told kept c.args.e.now c.args.self.now c.w.inside.0 c.object_number-n.result c.in-Some.o.now c.row-row.result h
    (c.in-Events.is ∙ ap Events (sym c.w.view_is)) (sym c.in-Some.ensures) c.object_number-n.ensures c.row-row.ensures
