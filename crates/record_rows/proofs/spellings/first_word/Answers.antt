use Rattle.record_rows.proofs.FirstPlaces.{all_before, none_behind}
use Rattle.record_rows.proofs.spellings.first_word.Goals as goal

pub returns-in-None-clause-first : goal.returns-in-None-clause-first
returns-in-None-clause-first c = all_before 32 c.args.line.now (c.cut_at.ensures.none c.in-None.is)

pub returns-in-None-clause-rest : goal.returns-in-None-clause-rest
returns-in-None-clause-rest c = none_behind 32 c.args.line.now (c.cut_at.ensures.none c.in-None.is)
