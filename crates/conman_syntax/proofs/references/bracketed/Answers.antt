use Rattle.std.proofs.Common.{lit<, None}
use Rattle.std.proofs.lemmas.Str.Pattern.{strip_suffix_char}
use Rattle.conman_syntax.proofs.Endings.{no_bracket}
use Rattle.conman_syntax.proofs.references.bracketed.Goals as goal

pub returns-in-None : goal.returns-in-None
returns-in-None c =
    no_bracket c.args.text.now (strip_suffix_char 93 c.args.text.now None c.in-None.ensures.cases (lit< tt))
