use Rattle.std.proofs.Common.{map}
use Rattle.model.specs.Types.{Deliver}
use Rattle.record_runs.specs.Lines.{undelivered}
use Rattle.record_runs.proofs.Tables.{flowing}
use Rattle.record_runs.proofs.Ways.{IsOnTheWay}
use Rattle.record_runs.proofs.lines.flow.Given as goal

abbrev pub invariant-loop-k : goal.invariant-loop-k
invariant-loop-k l =
    IsOnTheWay l.fn.world (λ x. map (λ k. Deliver l.fn.a l.fn.b k) (undelivered x l.fn.a l.fn.b)) l.world
    (flowing l.fn.a l.fn.b l.sent l.k)
