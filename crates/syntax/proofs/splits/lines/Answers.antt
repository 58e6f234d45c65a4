use Rattle.std.proofs.Common.{lit<, ◌∙◌, sym}
use Rattle.std.proofs.lemmas.Iterator.Consumers.{map_from_collect}
use Rattle.std.proofs.lemmas.Iterator.Splits.{YieldsList-from_str_split}
use Rattle.syntax.specs.Splits.{lines_of}
use Rattle.syntax.proofs.splits.lines.Goals as goal

pub returns : goal.returns
unfolding lines_of
returns c =
    let found = map_from_collect c.collect.result c.collect.ensures.ran
    (YieldsList-from_str_split 10 _ (lit< tt) (c.split.ensures.text ∙ c.without_last_feed.ensures)
    c.split.ensures.has_more c.split.ensures.pattern) in
    rw (sym c.is_empty.ensures ∙ c.if-is_empty.false) (rw c.in_ok-collect.was at found)
