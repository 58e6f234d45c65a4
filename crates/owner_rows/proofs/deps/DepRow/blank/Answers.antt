use Rattle.std.proofs.Common.{refl}
use Rattle.owner_rows.proofs.DepTelling.{dep_of_none}
use Rattle.owner_rows.proofs.deps.DepRow.blank.Goals as goal

pub returns : goal.returns
returns c o i = dep_of_none o i _ refl refl refl refl refl
