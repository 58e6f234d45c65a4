use Rattle.std.proofs.Common.{arith}
use Rattle.event_audit.proofs.Clock.{first_so, later_so, not_later_so}
use Rattle.event_audit.proofs.times.is_later.Goals as goal

pub returns-then-now-t : goal.returns-then-now-t
returns-then-now-t c =
    let less = c.if-now-t.true in
    let one = c.now.view_is in
    let other = c.t.view_is in
    later_so c.args.owners.now c.args.w c.args.t c.now-now.result c.now-now.ensures (omega (arith, less, one, other))

pub returns-then-t-gt0 : goal.returns-then-t-gt0
returns-then-t-gt0 c =
    let some = c.if-t-gt0.true in
    let least = c.if-now-t.false in
    let one = c.now.view_is in
    let other = c.t.view_is in
    not_later_so c.args.owners.now c.args.w c.args.t c.now-now.result c.now-now.ensures (omega (arith, some, other))
    (omega (arith, least, one, other))

pub returns : goal.returns
returns c =
    let none = c.if-t-gt0.false in
    let other = c.t.view_is in
    first_so c.args.owners.now c.args.w c.args.t c.has_reading.result (omega (arith, none, other))
    c.has_reading.ensures
