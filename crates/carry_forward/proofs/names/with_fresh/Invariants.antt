use Rattle.std.proofs.Common.{[], List, drop, map}
use Rattle.model.specs.NewPlan.{Named, named_fresh}
use Rattle.carry_forward.specs.Known.{IsIndexOf}
use Rattle.carry_forward.proofs.names.with_fresh.Given as goal

abbrev pub invariant-loop-i : goal.invariant-loop-i
invariant-loop-i l =
    (others : List Named) → IsIndexOf l.fn.earlier.entries [] others
    → IsIndexOf l.names.entries (map named_fresh (drop l.i l.fresh)) others
