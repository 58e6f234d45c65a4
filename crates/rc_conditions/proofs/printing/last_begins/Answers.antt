use Rattle.std.proofs.Common.{◌-◌, length, arith}
use Rattle.std.proofs.lemmas.List.{length-take}
use Rattle.rc_conditions.proofs.Fronts.{lacks_one, walk_more}
use Rattle.rc_conditions.proofs.printing.last_begins.Goals as goal

pub loop-missing-init : goal.loop-missing-init
loop-missing-init c =
    record { last = λ front e is. lacks_one front c.args.ops.now e is; within = omega arith; few = omega arith }

pub loop-missing-preserved : goal.loop-missing-preserved
loop-missing-preserved c =
    let shorter = length-take (length c.loop-missing.rest.now - 1) c.loop-missing.rest.now in
    record {
      last = λ front e is.
          walk_more front c.loop-missing.rest.now c.loop-missing.missing c.arity.result _ c.in-len1-up.len_at_least
          c.loop-missing-test.true c.arity.ensures.value (c.loop-missing.invariant.last front e is);
      within = omega (arith, shorter);
      few = omega (arith, shorter, c.arity.ensures.few);
    }
