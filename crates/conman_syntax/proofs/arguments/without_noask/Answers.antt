use Rattle.std.proofs.Common.{codes, false}
use Rattle.std.proofs.lemmas.Str.Pattern.{ends_text}
use Rattle.conman_syntax.proofs.Endings.{no_noask}
use Rattle.conman_syntax.proofs.arguments.without_noask.Goals as goal

pub returns-in-None : goal.returns-in-None
returns-in-None c =
    no_noask c.args.text.now (ends_text false (codes ";noask") c.args.text.now c.in-None.ensures.cases)
