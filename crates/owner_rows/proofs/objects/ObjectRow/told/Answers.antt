use Rattle.std.proofs.Common.{ap, sym, ◌∙◌}
use Rattle.std.specs.Option.{option_copied}
use Rattle.owner_rows.proofs.ObjectTelling.{no_object, object_row_of}
use Rattle.owner_rows.proofs.objects.ObjectRow.told.Goals as goal

pub returns-in-None : goal.returns-in-None
returns-in-None c events n room h row =
    no_object events c.args.body.now n _ (sym c.object_in.ensures ∙ ap option_copied c.in-None.is) h

pub returns-in-Some : goal.returns-in-Some
returns-in-Some c events n room h row =
    object_row_of events c.args.body.now n c.in-Some.o.now c.args.self.now _
    (sym c.object_in.ensures ∙ ap option_copied c.in-Some.is) h row (c.after.ensures events room)
