use Rattle.record_laws.proofs.Records.{history_fit}
use Rattle.record_laws.proofs.laws.histories_of_records_are_fit.Goals as goal

pub returns : goal.returns
returns c = history_fit
