use Rattle.std.proofs.Common.{[], ◌++◌, ◌∷◌, List, flat_map, refl, slice_get}
use Rattle.model.specs.Types.{Dep, Events}
use Rattle.model.specs.History.{list_of, view_of}
use Rattle.model.specs.Dependencies.{dep_cites, deps_added_by}
use Rattle.model.specs.Facts.{commands}
use Rattle.owner_fold.specs.Pairs.{dep_pairs}
use Rattle.owner_fold.proofs.Growing.{grows_further}
use Rattle.owner_fold.proofs.pairs.put_added.Goals as goal

pub loop-i-preserved : goal.loop-i-preserved
loop-i-preserved c =
    let added : List Dep =
    flat_map (deps_added_by c.args.o.now) (commands (list_of c.args.kept.now (Events c.args.w))) in
    grows_further (dep_pairs (dep_cites (view_of (c.args.kept.now ++ c.args.e.now ∷ []))) c.args.w) added c.loop-i.i
    (slice_get added c.loop-i.i) c.args.pairs.now c.loop-i.pairs c.put_added_dep.new.pairs refl c.loop-i.invariant
    c.put_added_dep.ensures.keeps c.in_ok-put_added_dep.ensures.there
