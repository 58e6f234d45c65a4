use Rattle.std.proofs.Common.{refl, sym, arith, ◌∙◌}
use Rattle.record_rows.specs.Rows.{row_of}
use Rattle.record_rows.proofs.FirstPlaces.{text_behind, one_more, one_last}
use Rattle.record_rows.proofs.reading.rows_between_feeds.Goals as goal

pub cut_at-requires-text-text : goal.cut_at-requires-text-text
cut_at-requires-text-text c κs = c.loop-line.invariant.is_text

pub loop-line-preserved : goal.loop-line-preserved
loop-line-preserved c =
    let rest = c.loop-line.rest.now in
    record {
      is_text = text_behind 10 rest c.in-Some.behind.now (omega arith) c.loop-line.invariant.is_text
          c.in-Some.ensures.inside c.in-Some.ensures.behind;
      left = rw c.in_ok-add_row.ensures
          (one_more row_of 10 rest c.in-Some.line.now c.in-Some.behind.now _ c.loop-line.rows c.in-Some.ensures.inside
          c.in-Some.ensures.before c.in-Some.ensures.behind c.loop-line.invariant.left);
    }

pub add_row-requires-2-text-text : goal.add_row-requires-2-text-text
add_row-requires-2-text-text c κs = c.loop-line.invariant.is_text

pub returns : goal.returns
returns c =
    c.in_ok-add_row-2.ensures
    ∙ sym (one_last row_of 10 c.loop-line.rest.now _ c.loop-line.rows (c.in_default.ensures.none refl)
    c.loop-line.invariant.left)
