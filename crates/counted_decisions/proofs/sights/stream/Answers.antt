use Rattle.counted_decisions.proofs.Sighted.{no_stream, stream_not_yet, stream_there}
use Rattle.counted_decisions.proofs.sights.stream.Goals as goal

pub returns-in-None : goal.returns-in-None
returns-in-None c = no_stream c.args.sight.now.owners.now c.args.sight.now.seen.now c.args.s c.in-None.ensures

pub returns-then-is_brought : goal.returns-then-is_brought
returns-then-is_brought c =
    stream_there c.args.sight.now.owners.now c.args.sight.now.seen.now c.args.s c.in-Some.doc.now c.is_brought.result
    c.in-Some.ensures c.is_brought.ensures c.if-is_brought.true

pub returns-else-is_brought : goal.returns-else-is_brought
returns-else-is_brought c =
    stream_not_yet c.args.sight.now.owners.now c.args.sight.now.seen.now c.args.s c.is_brought.result
    c.is_brought.ensures c.if-is_brought.false
