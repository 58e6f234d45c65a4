use Rattle.std.proofs.Common.{◌≡◌, ◌≤◌, drop}
use Rattle.rc_conditions.proofs.Depths.{depth}
use Rattle.rc_conditions.proofs.printing.is_postfix.Given as goal

abbrev pub invariant-loop-op : goal.invariant-loop-op
invariant-loop-op l = record {
  left : depth l.results (drop l.op-index l.ops) ≡ depth 0 l.ops;
  count : l.results ≤ l.op-index;
}
