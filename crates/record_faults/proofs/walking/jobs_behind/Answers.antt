use Rattle.std.proofs.Common.{sym, ◌∙◌}
use Rattle.record_faults.proofs.Walks.{around_new, around_same}
use Rattle.record_faults.proofs.walking.jobs_behind.Goals as goal

pub returns-then-begins_stream : goal.returns-then-begins_stream
returns-then-begins_stream c = λ above h n.
    c.in_ok-ahead.ensures n
    ∙ around_new above c.args.below.now c.args.row.now n (sym c.begins_stream.ensures ∙ c.if-begins_stream.true)

pub returns : goal.returns
returns c = λ above h n.
    h n
    ∙ around_same above c.args.below.now c.args.row.now n (sym c.begins_stream.ensures ∙ c.if-begins_stream.false)
