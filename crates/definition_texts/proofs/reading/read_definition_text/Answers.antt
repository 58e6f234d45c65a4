use Rattle.definition_texts.proofs.Readings.{is_checked, is_refused}
use Rattle.definition_texts.proofs.reading.read_definition_text.Goals as goal

pub returns-clause-all_checked : goal.returns-clause-all_checked
returns-clause-all_checked c = λ d are. is_checked c.args.text.now c.from_text.result c.from_text.ensures d are

pub returns-clause-all_refused : goal.returns-clause-all_refused
returns-clause-all_refused c = λ r of. is_refused c.args.text.now c.from_text.result c.from_text.ensures r of
