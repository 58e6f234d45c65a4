use Rattle.std.proofs.Common.{lit<, None}
use Rattle.std.proofs.lemmas.Str.Pattern.{strip_prefix_char}
use Rattle.syntax.proofs.Openings.{no_opening}
use Rattle.syntax.proofs.quotes.quoted.Goals as goal

pub returns-in_default : goal.returns-in_default
returns-in_default c =
    no_opening c.args.rest.now (strip_prefix_char 34 c.args.rest.now None c.in_default.ensures.cases (lit< tt))
