use Rattle.std.proofs.Common.{[], ◌++◌, ◌∷◌, flat_map}
use Rattle.model.specs.Types.{Events}
use Rattle.model.specs.History.{list_of, view_of}
use Rattle.model.specs.Dependencies.{dep_cites, deps_added_by}
use Rattle.model.specs.Facts.{commands}
use Rattle.owner_fold.specs.Pairs.{dep_pairs}
use Rattle.owner_fold.proofs.Growing.{grows_both}
use Rattle.owner_fold.proofs.pairs.put_object.Goals as goal

pub returns : goal.returns
returns c =
    grows_both (dep_pairs (dep_cites (view_of (c.args.kept.now ++ c.args.e.now ∷ []))) c.args.w) c.args.written.now
    (flat_map (deps_added_by c.args.o.now) (commands (list_of c.args.kept.now (Events c.args.w)))) c.args.pairs.now
    c.put_written.new.pairs c.put_added.new.pairs c.in_ok-put_written.ensures c.in_ok-put_added.ensures
