use Rattle.counted_decisions.proofs.Sighted.{member_not_yet, member_there}
use Rattle.counted_decisions.proofs.sights.is_member.Goals as goal

pub returns-then-is_brought : goal.returns-then-is_brought
returns-then-is_brought c =
    member_there c.args.sight.now.owners.now c.args.sight.now.seen.now c.args.s c.is_brought.result c.is_named.result
    c.is_brought.ensures c.if-is_brought.true c.is_named.ensures

pub returns-else-is_brought : goal.returns-else-is_brought
returns-else-is_brought c =
    member_not_yet c.args.sight.now.owners.now c.args.sight.now.seen.now c.args.s c.is_brought.result
    c.is_brought.ensures c.if-is_brought.false
