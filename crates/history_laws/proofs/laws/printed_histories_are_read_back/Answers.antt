use Rattle.history_laws.proofs.Whole.{history_back, history_is_text, whole_back}
use Rattle.history_laws.proofs.laws.printed_histories_are_read_back.Goals as goal

pub returns-clause-text : goal.returns-clause-text
returns-clause-text c = λ net entries starts printable none told. history_is_text net entries starts printable none told

pub returns-clause-read : goal.returns-clause-read
returns-clause-read c = λ net entries starts printable none told. history_back net entries starts printable none told

pub returns-clause-whole : goal.returns-clause-whole
returns-clause-whole c =
    λ net entries starts printable none told whole. whole_back net entries starts printable none told whole
