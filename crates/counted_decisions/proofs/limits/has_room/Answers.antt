use Rattle.std.proofs.Common.{ℕ, ◌∙◌, ap, nat_lt, sym}
use Rattle.std.specs.List.{list_any}
use Rattle.std.specs.Prelude.{count_by}
use Rattle.model.specs.Types.{Events}
use Rattle.model.specs.History.{view_of}
use Rattle.model.specs.Catalogue.{StreamJob}
use Rattle.owner_fold.specs.Holders.{open_left}
use Rattle.counted_facts.specs.Subjects.{brings}
use Rattle.counted_decisions.specs.Sights.{seen_in}
use Rattle.counted_decisions.proofs.Holding.{open_seen}
use Rattle.counted_decisions.proofs.Sighted.{own_seen, seen_grows}
use Rattle.counted_decisions.proofs.limits.has_room.Goals as goal

pub loop-parent-init : goal.loop-parent-init
loop-parent-init c =
    ap (λ (n : ℕ). nat_lt n c.args.limit)
    (open_seen (seen_in c.args.sight.now) (view_of c.args.sight.now.owners.now)
    (seen_grows c.args.sight.now.owners.now c.args.sight.now.seen.now) c.args.w
    (own_seen c.args.sight.now.owners.now c.args.sight.now.seen.now c.args.w c.requires.own)
    ∙ ap (count_by (λ (p : StreamJob). list_any (brings p.parent.no) (seen_in c.args.sight.now (Events 0))))
    (sym (ap open_left c.into_iter-parent-iterator.ensures.into_iter_gives ∙ c.open_launches-parent-items.ensures)))
