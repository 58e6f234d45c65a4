use Rattle.std.proofs.Common.{refl}
use Rattle.owner_rows.proofs.ObjectTelling.{object_of_none}
use Rattle.owner_rows.proofs.objects.ObjectRow.blank.Goals as goal

pub returns : goal.returns
returns c o = object_of_none o _ refl refl refl refl refl
