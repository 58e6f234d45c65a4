use Rattle.composer_parser.specs.Clauses.{clause, at_clause, until_clause, deadline_clause, priority_clause, limit_clause}
use Rattle.composer_parser.specs.Clauses.{carry_clause, follows_clause, needs_clause, prompt_clause, opens_clause}
use Rattle.composer_parser.proofs.clause_forms.begins_clause.Goals as goal

pub returns : goal.returns
unfolding clause at_clause until_clause deadline_clause priority_clause limit_clause carry_clause follows_clause needs_clause prompt_clause opens_clause
returns c = c.is_word_of.ensures
