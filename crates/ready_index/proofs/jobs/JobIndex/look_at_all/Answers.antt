use Rattle.std.proofs.Common.{arith}
use Rattle.model.specs.History.{view_of}
use Rattle.ready_index.proofs.Standings.{one_further}
use Rattle.ready_index.proofs.jobs.JobIndex.look_at_all.Goals as goal

pub loop-number-preserved : goal.loop-number-preserved
loop-number-preserved c =
    λ stands.
    one_further (view_of c.args.o.now) c.args.w c.args.numbers.now c.loop-number.number-index c.loop-number.self
    c.look_at.new.self (omega arith) c.in_ok-look_at.ensures (c.loop-number.invariant stands)
