use Rattle.rest_laws.proofs.KeptWhole.{kept_whole}
use Rattle.rest_laws.proofs.what_is_kept_is_whole.Goals as goal

pub returns : goal.returns
returns c = λ net readings x kept tree inv rest all. kept_whole net x kept all readings tree inv rest
