use Rattle.std.proofs.Common.{◌≡◌, ◌≤◌, false, IfSome, take}
use Rattle.message_file.specs.Files.{place_behind}
use Rattle.node_restart.specs.Reading.{OnlyReads}
use Rattle.node_restart.proofs.reads.gate_of.Given as goal

abbrev pub invariant-loop-i : goal.invariant-loop-i
invariant-loop-i g l =
    record {
      unspent : g.K.Keeper.spent l.keeper ≡ false;
      reads :
          OnlyReads g.K.Keeper.kept g.K.Keeper.number g.K.Keeper.may_leave g.K.Keeper.moment g.K.Keeper.left_since
          g.K.Keeper.opens_since l.fn.keeper l.keeper;
      later : g.K.Keeper.faults l.fn.keeper ≤ g.K.Keeper.faults l.keeper;
      gate : IfSome (g.K.Keeper.kept l.fn.keeper) (λ bodies. l.gate ≡ place_behind (take l.i bodies));
    }
