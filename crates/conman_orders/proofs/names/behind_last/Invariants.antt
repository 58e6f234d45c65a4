use Rattle.std.proofs.Common.{◌≡◌, ◌≤◌, drop, false}
use Rattle.model.specs.Words.{has}
use Rattle.conman_orders.proofs.names.behind_last.Given as goal

abbrev pub invariant-loop-i : goal.invariant-loop-i
invariant-loop-i l = record { low : l.from ≤ l.i; absent : has (drop l.i l.numbers) l.fn.s ≡ false }
