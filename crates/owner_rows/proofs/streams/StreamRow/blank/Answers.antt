use Rattle.std.proofs.Common.{refl}
use Rattle.owner_rows.proofs.StreamTelling.{stream_of_none}
use Rattle.owner_rows.proofs.streams.StreamRow.blank.Goals as goal

pub returns : goal.returns
returns c s = stream_of_none s _ refl refl refl
