use Rattle.std.proofs.Common.{◌∙◌}
use Rattle.grouped_places.specs.Codes.{code}
use Rattle.owner_fold.proofs.Growing.{put_keeps, put_there}
use Rattle.owner_fold.proofs.Working.{put_exact}
use Rattle.owner_fold.proofs.pairs.put_pair.Goals as goal

pub returns-clause-keeps : goal.returns-clause-keeps
returns-clause-keeps c =
    put_keeps (code c.from.result c.from-2.result) c.args.pairs.now c.add.new.self c.in_ok-add.ensures.added

pub returns-clause-there : goal.returns-clause-there
returns-clause-there c =
    put_there (code c.from.result c.from-2.result) (code c.args.w c.args.x) c.args.pairs.now c.add.new.self
    (λ j. code ((c.from.ensures ∙ c.w.view_is) j) ((c.from-2.ensures ∙ c.x.view_is) j)) c.in_ok-add.ensures.added

pub returns-clause-exact : goal.returns-clause-exact
returns-clause-exact c =
    put_exact c.from.result c.from-2.result c.args.w c.args.x c.args.pairs.now c.add.new.self
    (c.from.ensures ∙ c.w.view_is) (c.from-2.ensures ∙ c.x.view_is) c.in_ok-add.ensures.fits c.in_ok-add.ensures.added
