use Rattle.std.proofs.Common.{arith}
use Rattle.outside_mem.proofs.Cuts.{start_next}
use Rattle.outside_mem.proofs.rooms.start_at.Goals as goal

pub returns : goal.returns
returns g c = start_next c.args.rows.now c.args.i c.index-rows-i.result (omega (arith, c.if-i-eq0.false)) c.requires
