use Rattle.std.proofs.Common.{◌+◌, ℕ}
use Rattle.model.specs.Sizes.{list_size, seen_size}
use Rattle.entry_checks.proofs.Takings.{takes_then}
use Rattle.entry_checks.proofs.entries.plan_head.Goals as goal

pub returns : goal.returns
returns c =
    takes_then c.args.left (4 + seen_size c.args.cut.now) (list_size (λ (s : ℕ). 4) c.args.carried.now) c.in_ok-rest.rest c.numbers.result c.in_ok-rest.ensures c.numbers.ensures
