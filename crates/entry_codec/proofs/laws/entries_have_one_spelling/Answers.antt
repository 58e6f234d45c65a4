use Rattle.entry_codec.proofs.Whole.{one_spelling}
use Rattle.entry_codec.proofs.laws.entries_have_one_spelling.Goals as goal

pub returns : goal.returns
returns c = λ d e fit_d fit_e in_d in_e same. one_spelling d e fit_d fit_e in_d in_e same
