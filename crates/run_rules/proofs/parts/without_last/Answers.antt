use Rattle.std.proofs.Common.{lit<, None}
use Rattle.std.proofs.lemmas.Str.Pattern.{strip_suffix_char}
use Rattle.composer_parser.proofs.Ends.{no_end}
use Rattle.run_rules.proofs.parts.without_last.Goals as goal

pub returns-in-None : goal.returns-in-None
returns-in-None c =
    no_end c.args.rule.now (strip_suffix_char 59 c.args.rule.now None c.in-None.ensures.cases (lit< tt))
