use Rattle.std.proofs.Common.{sym, ◌∙◌}
use Rattle.owner_rows.proofs.Standing.{added_with, added_without}
use Rattle.owner_rows.proofs.places.tell_addition.Goals as goal

pub returns-in-Some : goal.returns-in-Some
returns-in-Some c kept at_end key h =
    added_with kept c.args.e.now c.args.end c.args.added.now c.put.new.self at_end h
    (c.in-Some.w, (c.in-Some.n, c.in-Some.i)) (sym key ∙ c.in-Some.is) c.put.ensures

pub returns-in_default : goal.returns-in_default
returns-in_default c kept at_end key h =
    added_without kept c.args.e.now c.args.end c.args.added.now c.args.added.now at_end h (sym key ∙ c.in_default.is)
