use Rattle.std.proofs.Common.{◌∙◌}
use Rattle.record_rows.proofs.Texts.{closed_here, closed_more}
use Rattle.record_rows.proofs.quotes.is_closed.Goals as goal

pub returns-then-first-eq34 : goal.returns-then-first-eq34
returns-then-first-eq34 c =
    c.is_empty.ensures
    ∙ closed_here c.args.inside.now c.loop-rest.rest.now c.in-len1-up.len_at_least c.if-first-eq34.true
    c.loop-rest.invariant

pub loop-rest-preserved : goal.loop-rest-preserved
loop-rest-preserved c =
    closed_more c.args.inside.now c.loop-rest.rest.now _ c.in-len1-up.len_at_least c.if-first-eq34.false
    c.behind-rest.ensures c.loop-rest.invariant
