use Rattle.std.proofs.Common.{lit<, None}
use Rattle.std.proofs.lemmas.Str.Pattern.{strip_prefix_char}
use Rattle.composer_parser.proofs.Ends.{no_minus}
use Rattle.composer_parser.proofs.moments.minus_number.Goals as goal

pub returns-in-None : goal.returns-in-None
returns-in-None c =
    no_minus c.args.word.now (strip_prefix_char 45 c.args.word.now None c.in-None.ensures.cases (lit< tt))
