use Rattle.std.proofs.Common.{lit<, None, ◌∙◌}
use Rattle.std.proofs.lemmas.Str.Pattern.{strip_prefix_char}
use Rattle.composer_parser.proofs.Ends.{no_sign}
use Rattle.composer_parser.proofs.rules.is_month_day.Goals as goal

pub returns-in-None : goal.returns-in-None
returns-in-None c =
    c.is_number-in-None.ensures
    ∙ no_sign c.args.word.now (strip_prefix_char 45 c.args.word.now None c.in-None.ensures.cases (lit< tt))
