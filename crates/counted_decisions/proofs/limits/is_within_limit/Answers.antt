use Rattle.counted_decisions.proofs.Sighted.{brought_there}
use Rattle.counted_decisions.proofs.limits.is_within_limit.Goals as goal

pub stream_has_room-requires-clause-brought : goal.stream_has_room-requires-clause-brought
stream_has_room-requires-clause-brought c =
    brought_there c.args.sight.now.owners.now c.args.sight.now.seen.now c.args.doc.now.no c.args.doc.now c.requires.found
