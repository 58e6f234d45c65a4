use Rattle.record_laws.proofs.Stops.{stops_otherwise}
use Rattle.record_laws.proofs.laws.records_stop_otherwise.Goals as goal

pub returns : goal.returns
returns c = stops_otherwise
