use Rattle.outside.proofs.Same.{torn_same}
use Rattle.real_outside.proofs.disks.FileDiskDisk.write_at.Goals as goal

pub returns-clause-crash : goal.returns-clause-crash
returns-clause-crash g c = λ file any. (file, tt, torn_same c.args.at _ file)
