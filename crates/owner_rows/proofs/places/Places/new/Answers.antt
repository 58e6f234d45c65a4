use Rattle.owner_rows.proofs.Nothing.{places_of_none}
use Rattle.owner_rows.proofs.places.Places.new.Goals as goal

pub returns : goal.returns
returns c = places_of_none _ c.new.ensures c.new-2.ensures c.new-3.ensures
