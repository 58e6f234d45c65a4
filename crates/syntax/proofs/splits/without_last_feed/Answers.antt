use Rattle.std.proofs.Common.{lit<, None}
use Rattle.std.proofs.lemmas.Str.Pattern.{strip_suffix_char}
use Rattle.syntax.proofs.Feeds.{no_last_feed}
use Rattle.syntax.proofs.splits.without_last_feed.Goals as goal

pub returns-in-None : goal.returns-in-None
returns-in-None c =
    no_last_feed c.args.text.now (strip_suffix_char 10 c.args.text.now None c.in-None.ensures.cases (lit< tt))
