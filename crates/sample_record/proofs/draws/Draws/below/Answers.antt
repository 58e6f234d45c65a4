use Rattle.std.proofs.Common.{◌≡◌, ◌+◌, ◌*◌, ◌/◌, ◌%◌, ◌^◌, ℕ, ap, arith}
use Rattle.sample_record.specs.Draws.{after}
use Rattle.sample_record.proofs.draws.Draws.below.Goals as goal

wrapped : (x : ℕ) → (x * 6364136223846793005 % 2 ^ 64 + 1442695040888963407) % 2 ^ 64 ≡ after x
wrapped x = omega arith

pub returns-clause-value : goal.returns-clause-value
returns-clause-value c = ap (λ n. n / 2 ^ 33 % c.args.bound) (wrapped c.args.self.now.x)
