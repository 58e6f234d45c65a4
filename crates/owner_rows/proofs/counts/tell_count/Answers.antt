use Rattle.std.proofs.Common.{ap, arith, cond, ◌+◌, ◌≡◌, ◌∙◌}
use Rattle.owner_rows.specs.Counts.{feed_key}
use Rattle.owner_rows.specs.Tables.{row_in, same_key}
use Rattle.owner_rows.proofs.Counting.{counts_with}
use Rattle.owner_rows.proofs.counts.tell_count.Goals as goal

pub returns : goal.returns
returns c kept room h =
    let e : c.row-count.result ≡ row_in c.args.counts.now (feed_key c.args.e.now.feed) =
    c.row-count.ensures ∙ ap (row_in c.args.counts.now) c.feed_key-w.ensures in
    counts_with kept c.args.e.now c.args.counts.now c.put.new.self c.counted.result room h
    (λ k. c.counted.ensures (omega (arith, e, k)) ∙ ap (λ n. n + 1) e)
    (λ q. c.put.ensures q
    ∙ ap (λ p. cond (same_key p q) c.counted.result (row_in c.args.counts.now q)) c.feed_key-w.ensures)
