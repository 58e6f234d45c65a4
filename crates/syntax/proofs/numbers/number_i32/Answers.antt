use Rattle.std.proofs.Common.{lit<, None, arith}
use Rattle.std.proofs.lemmas.Grind.{common_steps}
use Rattle.std.proofs.lemmas.Str.Pattern.{strip_prefix_char}
use Rattle.lemmas.proofs.Texts.{not_first}
use Rattle.syntax.specs.Numbers.{signed_of}
use Rattle.syntax.proofs.numbers.number_i32.Goals as goal

pub returns-in_err-n-in-None : goal.returns-in_err-n-in-None
unfolding signed_of
returns-in_err-n-in-None c =
    let plain = not_first c.args.word.now
    (strip_prefix_char 45 c.args.word.now None c.in-None.ensures.cases (lit< tt)) in
    grind (arith, common_steps)

pub returns-in_ok-n-in-None : goal.returns-in_ok-n-in-None
unfolding signed_of
returns-in_ok-n-in-None c =
    let plain = not_first c.args.word.now
    (strip_prefix_char 45 c.args.word.now None c.in-None.ensures.cases (lit< tt)) in
    grind (arith, common_steps)
