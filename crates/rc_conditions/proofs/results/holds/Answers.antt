use Rattle.std.proofs.Common.{refl, arith, to_z, of_z}
use Rattle.std.proofs.lemmas.Bool.Decides.{nat_tests}
use Rattle.std.proofs.lemmas.Int.{to_z-of_z}
use Rattle.std.specs.Int.{w32}
use Rattle.rc_conditions.proofs.Meetings.{lacks_result, only_result}
use Rattle.rc_conditions.proofs.results.holds.Goals as goal

pub returns-then-not-apply : goal.returns-then-not-apply
returns-then-not-apply c =
    lacks_result
    (record {
      items_are = c.as_slice-ops.ensures;
      passed_is = to_z-of_z w32 c.args.rc c.ranges.rc;
      some = grind (arith, nat_tests);
      few = omega (arith, c.if-len-gt-MOST.false, c.len.ensures);
      left = c.loop-op.invariant.value;
    })
    _ c.loop-op-test.true (c.if-not-apply.ensures.lacking refl)

pub returns : goal.returns
returns c =
    only_result
    (record {
      items_are = c.as_slice-ops.ensures;
      passed_is = to_z-of_z w32 c.args.rc c.ranges.rc;
      some = grind (arith, nat_tests);
      few = omega (arith, c.if-len-gt-MOST.false, c.len.ensures);
      left = c.loop-op.invariant.value;
    })
    c.only.result c.loop-op-test.false (c.only.ensures (to_z w32 (of_z w32 c.args.rc)))
