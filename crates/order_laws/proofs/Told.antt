-- A fit and small order has a short answer.
use Rattle.std.proofs.Common.{◌≡◌, ◌≤◌, ℕ, true, arith}
use Rattle.std.proofs.lemmas.Bool.Decides.{nat_tests}
use Rattle.std.specs.Prelude.{nat_le}
use Rattle.model.specs.Types.{Cmd, Order}
use Rattle.model.specs.Fit.{IsFitCmd}
use Rattle.rest_laws.specs.Short.{IsSmall, answer_size, has_short_answer}
use Rattle.rest_laws.proofs.Written.{written_short}

pub told_short : (c : Cmd) → IsFitCmd c → IsSmall c → has_short_answer (Order c) ≡ true
told_short c fit small = low (answer_size c) (written_short c fit small)
  where
    low : (n : ℕ) → n ≤ 4194304 → nat_le n 4194304 ≡ true
    low n h = grind (arith, h, nat_tests)
