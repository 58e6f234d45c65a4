use Rattle.std.proofs.Common.{arith}
use Rattle.agent_core.proofs.Restored.{walk_all, walk_begins, walk_end, walk_left, walk_new, walk_wrong}
use Rattle.agent_core.proofs.agents.Agent.take_all.Goals as goal

pub loop-i-init : goal.loop-i-init
loop-i-init c = record { new = c.requires; left = walk_begins c.args.self.now.net c.args.kept.now }

pub hold-requires : goal.hold-requires
hold-requires c = c.is_next.ensures.next c.if-not-is_next.false

pub returns-then-not-is_next-clause-refused : goal.returns-then-not-is_next-clause-refused
returns-then-not-is_next-clause-refused c =
    walk_wrong c.args.self.now.net c.args.self.now.me c.args.kept.now c.loop-i.i c.index-kept-i.result c.loop-i.self
    c.is_next.result _ (omega (arith, c.loop-i-test.true)) c.index-kept-i.is c.loop-i.invariant.new
    c.is_next.ensures.value c.if-not-is_next.true c.loop-i.invariant.left c.not_next.ensures

pub loop-i-preserved : goal.loop-i-preserved
loop-i-preserved c =
    record {
      new =
          walk_new c.args.self.now.net c.args.self.now.me c.args.kept.now c.loop-i.i c.index-kept-i.result
          c.loop-i.self c.hold.new.self (omega (arith, c.loop-i-test.true)) c.index-kept-i.is c.loop-i.invariant.new
          c.in_ok-hold.ensures.ok;
      left =
          walk_left c.args.self.now.net c.args.self.now.me c.args.kept.now c.loop-i.i c.index-kept-i.result
          c.loop-i.self c.is_next.result (omega (arith, c.loop-i-test.true)) c.index-kept-i.is
          c.loop-i.invariant.new c.is_next.ensures.value c.if-not-is_next.false c.loop-i.invariant.left;
    }

pub returns-clause-taken : goal.returns-clause-taken
returns-clause-taken c =
    walk_all c.args.self.now.net c.args.self.now.me c.args.kept.now c.loop-i.i c.loop-i.self
    (omega (arith, c.loop-i-test.false)) c.loop-i.invariant.new

pub returns-clause-accepted : goal.returns-clause-accepted
returns-clause-accepted c =
    walk_end c.args.self.now.net c.args.kept.now c.loop-i.i (omega (arith, c.loop-i-test.false))
    c.loop-i.invariant.left
