use Rattle.std.proofs.Common.{◌∙◌, ap, sym}
use Rattle.std.specs.List.{list_all}
use Rattle.model.specs.History.{view_of}
use Rattle.model.specs.OwnMembers.{lets_stream_end}
use Rattle.owner_fold.specs.Left.{stream_jobs_left}
use Rattle.counted_decisions.specs.Sights.{seen_in}
use Rattle.counted_decisions.proofs.Catalogues.{jobs_of_stream_seen}
use Rattle.counted_decisions.proofs.Sighted.{seen_grows}
use Rattle.counted_decisions.proofs.releases.jobs_let_end.Goals as goal

pub loop-parent-init : goal.loop-parent-init
loop-parent-init c =
    ap (list_all (lets_stream_end (seen_in c.args.sight.now)))
    (jobs_of_stream_seen (seen_in c.args.sight.now) (view_of c.args.sight.now.owners.now)
    (seen_grows c.args.sight.now.owners.now c.args.sight.now.seen.now) c.args.s c.requires.brought
    ∙ sym (ap stream_jobs_left c.into_iter-parent-iterator.ensures.into_iter_gives
    ∙ c.jobs_of_stream-parent-items.ensures))
