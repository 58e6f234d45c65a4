use Rattle.std.proofs.Common.{◌≡◌, ◌≤◌, [], length, drop}
use Rattle.model.specs.Conditions.{result_of}
use Rattle.rc_conditions.proofs.results.holds.Given as goal

abbrev pub invariant-loop-op : goal.invariant-loop-op
invariant-loop-op l = record {
  value : result_of l.rc l.results (drop l.op-index l.ops) ≡ result_of l.rc [] l.ops;
  count : length l.results ≤ l.op-index;
}
