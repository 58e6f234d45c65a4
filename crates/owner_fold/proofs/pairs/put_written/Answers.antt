use Rattle.std.proofs.Common.{[], ◌++◌, ◌∷◌, ◌≡◌, Some, subst}
use Rattle.lemmas.proofs.Lists.{get_there}
use Rattle.model.specs.Types.{Dep}
use Rattle.model.specs.History.{view_of}
use Rattle.model.specs.Dependencies.{dep_cites}
use Rattle.owner_fold.specs.Pairs.{HasAll, dep_pairs}
use Rattle.owner_fold.proofs.Growing.{grows_further}
use Rattle.owner_fold.proofs.pairs.put_written.Goals as goal

pub loop-dep-preserved : goal.loop-dep-preserved
loop-dep-preserved c =
    let cite = dep_cites (view_of (c.args.kept.now ++ c.args.e.now ∷ [])) in
    grows_further (dep_pairs cite c.args.w) c.args.written.now c.loop-dep.dep-index (Some c.dep-item.result)
    c.args.pairs.now c.loop-dep.pairs c.put_cited.new.pairs
    (get_there c.args.written.now c.loop-dep.dep-index c.dep-item.result c.loop-dep-test.true c.dep-item.is)
    c.loop-dep.invariant c.put_cited.ensures.keeps
    (λ d e.
    let same : c.dep-item.result ≡ d = cc in
    subst (λ (x : Dep). HasAll c.put_cited.new.pairs (dep_pairs cite c.args.w x)) same c.in_ok-put_cited.ensures.there)
