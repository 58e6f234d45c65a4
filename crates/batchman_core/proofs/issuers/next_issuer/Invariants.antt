use Rattle.std.proofs.Common.{◌≡◌, ◌<◌, ℕ, false}
use Rattle.std.specs.Prelude.{is_some}
use Rattle.model.specs.History.{view_of}
use Rattle.model.specs.Turn.{next_order}
use Rattle.batchman_core.proofs.issuers.next_issuer.Given as goal

abbrev pub invariant-loop-a : goal.invariant-loop-a
invariant-loop-a l = (k : ℕ) → k < l.a → is_some (next_order (view_of l.o) l.fn.me k) ≡ false
