use Rattle.model.specs.Sizes.{seen_size}
use Rattle.entry_checks.proofs.Takings.{takes_then}
use Rattle.entry_checks.proofs.entries.seen_behind.Goals as goal

pub returns : goal.returns
returns c =
    takes_then c.args.left c.args.count (seen_size c.args.counts.now) c.in_ok-rest.rest c.seen.result c.in_ok-rest.ensures c.seen.ensures
