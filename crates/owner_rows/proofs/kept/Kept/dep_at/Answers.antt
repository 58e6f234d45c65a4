use Rattle.std.proofs.Common.{List, refl, subst, sym}
use Rattle.model.specs.History.{list_of}
use Rattle.model.specs.Types.{Entry, Events}
use Rattle.owner_rows.specs.Deps.{IsDepRow}
use Rattle.owner_rows.specs.Subjects.{object_number}
use Rattle.owner_rows.proofs.kept.Kept.dep_at.Goals as goal

pub returns : goal.returns
returns c =
    subst (λ (l : List Entry). IsDepRow (list_of l (Events c.args.w)) c.args.o.now c.args.i c.dep.result) c.self.view_is
    (subst (IsDepRow (list_of c.self.inside.entries.items (Events c.args.w)) c.args.o.now c.args.i) (sym c.dep.ensures)
    (c.self.invariant.told.work.deps c.args.w (object_number c.args.o.now, c.args.i) c.args.o.now refl))
