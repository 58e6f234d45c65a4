use Rattle.std.proofs.Common.{lit<, None, sym, ◌∙◌}
use Rattle.std.proofs.lemmas.Str.Pattern.{strip_suffix_char}
use Rattle.syntax.specs.Splits.{lines_of}
use Rattle.night_records.specs.Composers.{definitions_place}
use Rattle.syntax.proofs.Feeds.{no_last_feed}
use Rattle.night_records.proofs.composers.find_definitions.Goals as goal

pub returns-in-None : goal.returns-in-None
unfolding definitions_place lines_of
returns-in-None c =
    let whole = no_last_feed c.args.text.now (strip_suffix_char 10 c.args.text.now None c.in-None.ensures.cases (lit< tt)) in
    rw (sym c.is_empty.ensures ∙ c.if-is_empty.false, sym whole) c.place_between_feeds-in-None.ensures
