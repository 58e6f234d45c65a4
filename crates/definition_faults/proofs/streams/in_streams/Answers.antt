use Rattle.std.proofs.Common.{ℕ, arith}
use Rattle.composer_parser.specs.declared.Lined.{Lined}
use Rattle.composer_parser.specs.declared.ScheduleDef.{ScheduleDef}
use Rattle.definition_faults.specs.Streams.{stream_faults}
use Rattle.definition_faults.proofs.Loops.{placed_more}
use Rattle.definition_faults.proofs.streams.in_streams.Goals as goal

pub loop-n-preserved : goal.loop-n-preserved
loop-n-preserved c =
    placed_more (λ (p : ℕ × Lined ScheduleDef). stream_faults c.args.names.now p.0 p.1) c.as_slice-schedules.result.now
    c.loop-n.n c.index-schedules-n.result _ c.loop-n.first c.earlier-first.result c.in_stream.result (omega arith)
    c.index-schedules-n.is c.in_stream.ensures c.earlier-first.ensures c.loop-n.invariant
