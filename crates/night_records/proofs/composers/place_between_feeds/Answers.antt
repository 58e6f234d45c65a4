use Rattle.std.proofs.Common.{◌∙◌, false, length, lit<, sym, true}
use Rattle.std.proofs.lemmas.Iterator.Consumers.{YieldsList-at, YieldsList-end, YieldsList-turn}
use Rattle.std.proofs.lemmas.Iterator.Splits.{YieldsList-from_str_split}
use Rattle.night_records.proofs.Feeds.{at_end, at_skipped, at_told, one_more}
use Rattle.night_records.proofs.composers.place_between_feeds.Goals as goal

pub returns-then-eq : goal.returns-then-eq
returns-then-eq c =
    let pieces = YieldsList-from_str_split 10 c.args.text.now (lit< tt) c.split-line-items.ensures.text
    c.split-line-items.ensures.has_more c.split-line-items.ensures.pattern in
    let line = YieldsList-turn (YieldsList-at c.into_iter-line-iterator.ensures.into_iter_gives pieces)
    c.loop-line.yielded _ c.loop-line.yielded_by _ _ c.in-Some.line c.in-Some.is c.next.ensures.steps in
    at_told _ c.loop-line.place (length c.loop-line.yielded) c.in-Some.line.now _ true c.loop-line.invariant.count line
    c.loop-line.invariant.left (sym c.is_skipped.ensures ∙ c.if-not-is_skipped.true) (sym c.eq.ensures ∙ c.if-eq.true)

pub returns-else-eq : goal.returns-else-eq
returns-else-eq c =
    let pieces = YieldsList-from_str_split 10 c.args.text.now (lit< tt) c.split-line-items.ensures.text
    c.split-line-items.ensures.has_more c.split-line-items.ensures.pattern in
    let line = YieldsList-turn (YieldsList-at c.into_iter-line-iterator.ensures.into_iter_gives pieces)
    c.loop-line.yielded _ c.loop-line.yielded_by _ _ c.in-Some.line c.in-Some.is c.next.ensures.steps in
    at_told _ c.loop-line.place (length c.loop-line.yielded) c.in-Some.line.now _ false c.loop-line.invariant.count line
    c.loop-line.invariant.left (sym c.is_skipped.ensures ∙ c.if-not-is_skipped.true) (sym c.eq.ensures ∙ c.if-eq.false)

pub loop-line-preserved : goal.loop-line-preserved
loop-line-preserved c =
    let pieces = YieldsList-from_str_split 10 c.args.text.now (lit< tt) c.split-line-items.ensures.text
    c.split-line-items.ensures.has_more c.split-line-items.ensures.pattern in
    let line = YieldsList-turn (YieldsList-at c.into_iter-line-iterator.ensures.into_iter_gives pieces)
    c.loop-line.yielded _ c.loop-line.yielded_by _ _ c.in-Some.line c.in-Some.is c.next.ensures.steps in
    record {
      count = one_more c.loop-line.yielded c.in-Some.line c.loop-line.place c.loop-line.invariant.count;
      left =
          at_skipped _ c.loop-line.place (length c.loop-line.yielded) c.in-Some.line.now _ c.loop-line.invariant.count
          line c.loop-line.invariant.left (sym c.is_skipped.ensures ∙ c.if-not-is_skipped.false);
    }

pub returns : goal.returns
returns c =
    let pieces = YieldsList-from_str_split 10 c.args.text.now (lit< tt) c.split-line-items.ensures.text
    c.split-line-items.ensures.has_more c.split-line-items.ensures.pattern in
    let end = YieldsList-end (YieldsList-at c.into_iter-line-iterator.ensures.into_iter_gives pieces)
    c.loop-line.yielded _ c.loop-line.yielded_by _ _ c.in-None.is c.next.ensures.steps in
    at_end _ c.loop-line.place (length c.loop-line.yielded) _ c.loop-line.invariant.count end.1
    c.loop-line.invariant.left
