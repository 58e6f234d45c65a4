use Rattle.std.proofs.Common.{◌≡◌, length}
use Rattle.rc_conditions.specs.Machine.{settled}
use Rattle.rc_conditions.proofs.readers.Reader.settle.Given as goal

abbrev pub invariant-loop-op : goal.invariant-loop-op
invariant-loop-op l = record {
  rest : settled l.joint l.self.waiting l.self.ops ≡ settled l.joint l.initial.self.waiting l.initial.self.ops;
  wanted : l.self.wanted ≡ l.initial.self.wanted;
}

abbrev pub decreases-loop-op : goal.decreases-loop-op
decreases-loop-op l = length l.self.waiting
