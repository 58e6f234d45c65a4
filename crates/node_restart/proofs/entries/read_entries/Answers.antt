use Rattle.std.proofs.Common.{arith}
use Rattle.node_restart.proofs.Fronts.{counted_next, fit_next, short_next, walk_ends, walk_goes}
use Rattle.node_restart.proofs.Reading.{then_reads}
use Rattle.node_restart.proofs.entries.read_entries.Goals as goal

pub loop-i-preserved : goal.loop-i-preserved
loop-i-preserved g c =
    let K = g.K.Keeper in
    let entries = c.loop-i.entries in
    let more = c.push.new.self in
    let found = c.in_ok-entry.field-0 in
    let e = c.in-Some.entry in
    let pushed = c.in_ok-push-in-Some.ensures.ok in
    let so_far = c.loop-i.invariant in
    record {
      unspent = c.in_ok-entry.ensures.unspent;
      reads =
          then_reads K.kept K.number K.may_leave K.moment K.left_since K.opens_since c.args.keeper.now c.loop-i.keeper
          c.entry_at.new.keeper so_far.reads c.entry_at.ensures.reads;
      later = omega (arith, so_far.later, c.entry_at.ensures.later);
      counted = counted_next entries more e c.loop-i.i pushed so_far.counted;
      fit = fit_next entries more found e pushed c.in-Some.is so_far.fit c.in_ok-entry.ensures.fit;
      short = short_next entries more found e pushed c.in-Some.is so_far.short c.in_ok-entry.ensures.short;
      are =
          walk_goes (K.kept c.args.keeper.now) (K.kept c.loop-i.keeper) entries more c.loop-i.i found e so_far.reads.kept
          pushed c.in-Some.is so_far.are c.in_ok-entry.ensures.found;
    }

pub returns-clause-front : goal.returns-clause-front
returns-clause-front g c =
    walk_ends (g.K.Keeper.kept c.args.keeper.now) (g.K.Keeper.number c.args.keeper.now) c.loop-i.entries c.loop-i.i
    c.loop-i.invariant.counted (omega (arith, c.loop-i-test.false, c.count-i-end.ensures.count)) c.count-i-end.ensures.kept
    c.loop-i.invariant.are
