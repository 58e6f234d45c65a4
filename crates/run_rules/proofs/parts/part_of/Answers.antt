use Rattle.std.proofs.Common.{rules, tests, lit<, ◌∙◌}
use Rattle.std.proofs.lemmas.Iterator.Search.{find_from_yields_List}
use Rattle.std.proofs.lemmas.Iterator.Splits.{YieldsList-from_str_split}
use Rattle.composer_parser.specs.Rules.{is_named, parts_of}
use Rattle.run_rules.proofs.parts.part_of.Goals as goal

pub returns : goal.returns
unfolding parts_of
returns c =
    find_from_yields_List (is_named c.args.name.now) _ _ c.find.result c.find.ensures.ran
    (YieldsList-from_str_split 59 _ (lit< tt) (c.split.ensures.text ∙ c.without_last.ensures)
    c.split.ensures.has_more c.split.ensures.pattern)
    (λ x b q k. search (rules, tests))
