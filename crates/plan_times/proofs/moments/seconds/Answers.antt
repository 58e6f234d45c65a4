use Rattle.std.proofs.Common.{arith}
use Rattle.std.proofs.lemmas.Int.{to_z-of_z, to_z_pos, ints}
use Rattle.plan_times.proofs.moments.seconds.Goals as goal

pub returns : goal.returns
returns c = grind (arith, ints, to_z-of_z, to_z_pos)
