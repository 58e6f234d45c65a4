use Rattle.std.proofs.Common.{None}
use Rattle.std.proofs.lemmas.Str.Pattern.{strip_prefix_char}
use Rattle.conman_syntax.proofs.ArgumentBounds.{no_mark, no_argument, all_left}
use Rattle.conman_syntax.proofs.arguments.take_argument.Goals as goal

pub returns-in-None-clause-argument : goal.returns-in-None-clause-argument
returns-in-None-clause-argument c =
    let left = c.args.left.now in
    no_argument c.args.mark left (no_mark c.args.mark left c.requires.no_null
    (strip_prefix_char c.args.mark left None c.in-None.ensures.cases c.requires.small))

pub returns-in-None-clause-left : goal.returns-in-None-clause-left
returns-in-None-clause-left c =
    let left = c.args.left.now in
    all_left c.args.mark left (no_mark c.args.mark left c.requires.no_null
    (strip_prefix_char c.args.mark left None c.in-None.ensures.cases c.requires.small))
