use Rattle.std.proofs.Common.{◌≡◌, ◌∙◌, ap, arith}
use Rattle.model.specs.History.{view_of}
use Rattle.owner_fold.specs.Holders.{open_jobs, open_left}
use Rattle.owner_fold.proofs.Holders.{used_by_both}
use Rattle.owner_fold.proofs.holdings.Owners.used.Goals as goal

pub loop-doc-init : goal.loop-doc-init
loop-doc-init c =
    let e : open_left c.into_iter-doc-iterator.result ≡ open_jobs (view_of c.args.self.now) c.args.w =
    ap open_left c.into_iter-doc-iterator.ensures.into_iter_gives ∙ c.holders-doc-items.ensures.jobs
    in
    record {
      sum = rw e (omega (arith, used_by_both (view_of c.args.self.now) c.args.w c.args.resource));
      few = rw e (omega (arith, c.holders-doc-items.ensures.few));
    }
