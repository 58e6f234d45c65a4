use Rattle.std.proofs.Common.{◌<◌, arith, length}
use Rattle.model.specs.History.{view_of}
use Rattle.model.specs.Dependencies.{deps}
use Rattle.owner_fold.proofs.Asked.{units_all, units_step}
use Rattle.owner_fold.proofs.holdings.Owners.units_of.Goals as goal

pub loop-i-init : goal.loop-i-init
loop-i-init c =
    record {
      sum = omega (arith, units_all (view_of c.args.self.now) c.args.resource c.args.o.now);
      few = omega arith;
    }

pub loop-i-preserved : goal.loop-i-preserved
loop-i-preserved c =
    let left : c.loop-i.i < length (deps (view_of c.args.self.now) c.args.o.now) =
    omega (arith, c.loop-i-test.true, c.dep_count_of-count.ensures)
    in
    record {
      sum =
          omega (
            arith,
            units_step (view_of c.args.self.now) c.args.resource c.args.o.now c.loop-i.i left,
            c.loop-i.invariant.sum,
            c.units_at-units.ensures.units,
          );
      few = omega (arith, c.loop-i.invariant.few, c.units_at-units.ensures.few);
    }
