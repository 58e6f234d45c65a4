use Rattle.std.proofs.Common.{lit<, ◌∙◌}
use Rattle.std.proofs.lemmas.Iterator.Consumers.{map_from_collect}
use Rattle.std.proofs.lemmas.Iterator.Splits.{YieldsList-from_str_split}
use Rattle.composer_parser.specs.Rules.{parts_of}
use Rattle.composer_parser.proofs.rules.parts.Goals as goal

pub returns : goal.returns
unfolding parts_of
returns c =
    let found = map_from_collect c.collect.result c.collect.ensures.ran
    (YieldsList-from_str_split 59 _ (lit< tt) (c.split.ensures.text ∙ c.without_last.ensures)
    c.split.ensures.has_more c.split.ensures.pattern) in
    rw c.in_ok-collect.was at found
