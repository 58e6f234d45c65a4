use Rattle.std.proofs.Common.{sym, ◌∙◌}
use Rattle.composer_parser.proofs.Begins.{any_spelled}
use Rattle.composer_parser.proofs.parsing.has_first_word.Goals as goal

pub returns : goal.returns
returns c = c.any_begins.ensures ∙ sym (any_spelled c.args.text.now c.args.tokens.now)
