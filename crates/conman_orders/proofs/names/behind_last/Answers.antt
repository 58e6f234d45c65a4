use Rattle.std.proofs.Common.{◌+◌, ◌-◌, ◌∙◌, ◌≡◌, ap, arith, drop, sym}
use Rattle.model.specs.Words.{has}
use Rattle.conman_orders.proofs.Latest.{absent, not_found_at}
use Rattle.conman_orders.proofs.names.behind_last.Goals as goal

pub loop-i-preserved : goal.loop-i-preserved
loop-i-preserved c =
    let before : c.loop-i.i - 1 + 1 ≡ c.loop-i.i = omega arith in
    record {
      low = omega arith;
      absent =
          not_found_at c.args.s c.args.numbers.now (c.loop-i.i - 1) (sym c.if-is_at.ensures)
          (ap (λ k. has (drop k c.args.numbers.now) c.args.s) before ∙ c.loop-i.invariant.absent);
    }

pub returns-clause-last : goal.returns-clause-last
returns-clause-last c =
    λ others.
    let here : c.args.from ≡ c.loop-i.i = omega arith in
    absent others c.args.s (drop c.args.from c.args.numbers.now)
    (ap (λ k. has (drop k c.args.numbers.now) c.args.s) here ∙ c.loop-i.invariant.absent)
