use Rattle.std.proofs.Common.{List, refl, subst, sym}
use Rattle.model.specs.History.{list_of}
use Rattle.model.specs.Types.{Entry, Events}
use Rattle.owner_rows.specs.Objects.{IsObjectRow}
use Rattle.owner_rows.specs.Subjects.{object_number}
use Rattle.owner_rows.proofs.kept.Kept.object_at.Goals as goal

pub returns : goal.returns
returns c =
    subst (λ (l : List Entry). IsObjectRow (list_of l (Events c.args.w)) c.args.o.now c.object.result) c.self.view_is
    (subst (IsObjectRow (list_of c.self.inside.entries.items (Events c.args.w)) c.args.o.now) (sym c.object.ensures)
    (c.self.invariant.told.work.objects c.args.w (object_number c.args.o.now) c.args.o.now refl))
