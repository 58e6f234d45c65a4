use Rattle.gated_puts.proofs.Tears.{piece_behind}
use Rattle.gated_puts.proofs.puts.put.Goals as goal

pub open_gate-requires-clause-staged : goal.open_gate-requires-clause-staged
open_gate-requires-clause-staged g c =
    piece_behind (g.D.Disk.seen c.args.disk.now) (g.D.Disk.seen c.stage.new.disk) (g.D.Disk.may_leave c.args.disk.now) (g.D.Disk.may_leave c.stage.new.disk) c.args.gate c.args.piece.now c.requires.settled c.in_ok-stage.ensures.staged c.in_ok-stage.ensures.durable
