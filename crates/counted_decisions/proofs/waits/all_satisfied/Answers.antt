use Rattle.std.proofs.Common.{◌∙◌, ap, sym}
use Rattle.std.specs.List.{list_all}
use Rattle.model.specs.History.{view_of}
use Rattle.model.specs.Dependencies.{NumberedDep, all_satisfied, is_met}
use Rattle.dependencies.specs.Left.{deps_left}
use Rattle.counted_decisions.specs.Sights.{seen_in}
use Rattle.counted_decisions.proofs.Owned.{unwaived_seen}
use Rattle.counted_decisions.proofs.Sighted.{own_seen, seen_grows}
use Rattle.counted_decisions.proofs.waits.all_satisfied.Goals as goal

pub loop-number-init : goal.loop-number-init
unfolding all_satisfied
loop-number-init c =
    ap (list_all (λ (p : NumberedDep).
    is_met c.args.net.now (seen_in c.args.sight.now) c.args.w c.args.o.now p.number p.dep))
    (unwaived_seen (seen_in c.args.sight.now) (view_of c.args.sight.now.owners.now)
    (seen_grows c.args.sight.now.owners.now c.args.sight.now.seen.now) c.args.w
    (own_seen c.args.sight.now.owners.now c.args.sight.now.seen.now c.args.w c.requires.own) c.args.o.now
    c.requires.owned
    ∙ sym (ap deps_left c.into_iter-number-iterator.ensures.into_iter_gives ∙ c.unwaived_deps-number-items.ensures))
