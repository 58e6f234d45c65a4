use Rattle.record_laws.proofs.Networks.{printable}
use Rattle.record_laws.proofs.network_laws.records_have_printable_networks.Goals as goal

pub returns : goal.returns
returns c = λ text r is read. printable text r is read
