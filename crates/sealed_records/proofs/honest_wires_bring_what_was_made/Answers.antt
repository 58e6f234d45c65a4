use Rattle.sealed_records.proofs.Fronts.{honest}
use Rattle.sealed_records.proofs.honest_wires_bring_what_was_made.Goals as goal

pub returns : goal.returns
returns c = λ from put come later short same. honest from put come later short same
