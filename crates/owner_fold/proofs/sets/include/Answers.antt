use Rattle.std.proofs.Common.{sym, ◌∙◌}
use Rattle.grouped_places.specs.Codes.{code}
use Rattle.owner_fold.proofs.Covering.{added_keeps, added_there}
use Rattle.owner_fold.proofs.sets.include.Goals as goal

pub returns-in_ok-add-in-Some-clause-keeps : goal.returns-in_ok-add-in-Some-clause-keeps
returns-in_ok-add-in-Some-clause-keeps c =
    added_keeps (code c.from.result c.in-Some.i) c.args.groups.now c.add.new.self c.in_ok-add-in-Some.ensures.added

pub returns-in_ok-add-in-Some-clause-there : goal.returns-in_ok-add-in-Some-clause-there
returns-in_ok-add-in-Some-clause-there c =
    λ i q.
    added_there c.args.w c.from.result c.in-Some.i c.args.groups.now c.add.new.self c.from.ensures
    c.in_ok-add-in-Some.ensures.added c.in_ok-add-in-Some.ensures.fits i (sym c.in-Some.is ∙ q)
