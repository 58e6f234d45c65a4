use Rattle.sealed_records.proofs.Fronts.{in_order}
use Rattle.sealed_records.proofs.records_come_in_order.Goals as goal

pub returns : goal.returns
returns c = λ from put taken come later rest made takes. in_order from put taken come later rest made takes
