use Rattle.record_faults.proofs.Chains.{found_here, none_here, passed_here}
use Rattle.record_faults.proofs.hops.place_of.Goals as goal

pub returns-then-is_called : goal.returns-then-is_called
returns-then-is_called c =
    found_here c.args.all.now c.loop-i.i c.index-all-i.result c.args.name.now c.is_called.result c.loop-i-test.true
    c.index-all-i.is c.loop-i.invariant c.is_called.ensures c.if-is_called.true

pub loop-i-preserved : goal.loop-i-preserved
loop-i-preserved c =
    passed_here c.args.all.now c.loop-i.i c.index-all-i.result c.args.name.now c.is_called.result c.loop-i-test.true
    c.index-all-i.is c.loop-i.invariant c.is_called.ensures c.if-is_called.false

pub returns : goal.returns
returns c =
    none_here c.args.all.now c.loop-i.i c.args.name.now c.loop-i-test.false c.loop-i.invariant
