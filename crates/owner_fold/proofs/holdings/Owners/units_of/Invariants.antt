use Rattle.std.proofs.Common.{◌≡◌, ◌+◌, ◌*◌, ◌≤◌, drop}
use Rattle.model.specs.History.{view_of}
use Rattle.model.specs.Dependencies.{deps, units}
use Rattle.owner_fold.proofs.Asked.{units_from}
use Rattle.owner_fold.proofs.holdings.Owners.units_of.Given as goal

abbrev pub invariant-loop-i : goal.invariant-loop-i
invariant-loop-i l =
    record {
      sum : units (view_of l.self) l.resource l.o
          ≡ l.units + units_from (view_of l.self) l.resource l.o (l.i + 1) (drop l.i (deps (view_of l.self) l.o));
      few : l.units ≤ l.i * 65535;
    }
