use Rattle.composer_laws.proofs.KeptDefs.{read_defs}
use Rattle.composer_laws.proofs.Normals.{defs_normal}
use Rattle.composer_laws.proofs.Returns.{read_back}
use Rattle.composer_laws.proofs.laws.definitions_are_read_back.Goals as goal

pub returns : goal.returns
returns c = λ text ts last d e s. read_back d (defs_normal d (read_defs text ts last d e s))
