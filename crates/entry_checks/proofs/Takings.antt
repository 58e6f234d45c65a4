-- Bytes that are taken one behind the other.
use Rattle.std.proofs.Common.{◌≡◌, ◌+◌, ℕ, None, Option, Some, arith}
use Rattle.entry_checks.specs.Left.{Takes}

pub takes_then : (left a b mid : ℕ) (o : Option ℕ) → mid + a ≡ left → Takes mid b o → Takes left (a + b) o
takes_then left a b mid (Some rest) e h = omega (arith, e, h)
takes_then left a b mid None e h = omega (arith, e, h)
