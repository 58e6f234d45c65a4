use Rattle.outside.proofs.Same.{cut_same}
use Rattle.real_outside.proofs.disks.FileDiskDisk.cut.Goals as goal

pub returns-clause-crash : goal.returns-clause-crash
returns-clause-crash g c = λ file any. (file, tt, cut_same c.args.len file)
