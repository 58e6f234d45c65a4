use Rattle.std.proofs.Common.{ℕ, ◌∙◌, ap, nat_le, sym}
use Rattle.std.specs.Prelude.{sum_by}
use Rattle.model.specs.Types.{Job, Stream, StreamDoc}
use Rattle.model.specs.Catalogue.{StreamJob}
use Rattle.model.specs.Dependencies.{units}
use Rattle.counted_decisions.specs.Sights.{seen_in}
use Rattle.counted_decisions.specs.Units.{holding_jobs, holding_streams}
use Rattle.counted_decisions.proofs.Holding.{used_split}
use Rattle.counted_decisions.proofs.Leaving.{both_none, both_some}
use Rattle.counted_decisions.proofs.supplies.are_in_use_at_most.Goals as goal

pub returns-in-None : goal.returns-in-None
returns-in-None c =
    both_none c.args.most
    (sum_by (λ (p : StreamJob). units (seen_in c.args.sight.now) c.args.r (Job p.doc.no))
    (holding_jobs (seen_in c.args.sight.now) c.args.w))
    (sum_by (λ (d : StreamDoc). units (seen_in c.args.sight.now) c.args.r (Stream d.no))
    (holding_streams (seen_in c.args.sight.now) c.args.w))
    c.left_by_jobs.result c.left_by_jobs.ensures c.in-None.is
    ∙ ap (λ (n : ℕ). nat_le n c.args.most) (sym (used_split (seen_in c.args.sight.now) c.args.w c.args.r))

pub returns-in-Some : goal.returns-in-Some
returns-in-Some c =
    c.is_some.ensures
    ∙ both_some c.args.most
    (sum_by (λ (p : StreamJob). units (seen_in c.args.sight.now) c.args.r (Job p.doc.no))
    (holding_jobs (seen_in c.args.sight.now) c.args.w))
    (sum_by (λ (d : StreamDoc). units (seen_in c.args.sight.now) c.args.r (Stream d.no))
    (holding_streams (seen_in c.args.sight.now) c.args.w))
    c.in-Some.left c.left_by_jobs.result c.left_by_streams.result c.left_by_jobs.ensures c.in-Some.is
    c.left_by_streams.ensures
    ∙ ap (λ (n : ℕ). nat_le n c.args.most) (sym (used_split (seen_in c.args.sight.now) c.args.w c.args.r))
