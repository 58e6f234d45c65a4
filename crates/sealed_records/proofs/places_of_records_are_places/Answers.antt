use Rattle.sealed_records.proofs.Fronts.{made_at_ends}
use Rattle.sealed_records.proofs.places_of_records_are_places.Goals as goal

pub returns : goal.returns
returns c = λ from put come made. made_at_ends from put come made
