use Rattle.std.proofs.Common.{◌≡◌, ◌≤◌, false, IfSome, length, take}
use Rattle.model.specs.Fit.{AreFitEntries}
use Rattle.node_restart.specs.Reading.{AreShortEntries, OnlyReads}
use Rattle.node_restart.specs.Restarting.{AreEntries}
use Rattle.node_restart.proofs.entries.read_entries.Given as goal

abbrev pub invariant-loop-i : goal.invariant-loop-i
invariant-loop-i g l =
    record {
      unspent : g.K.Keeper.spent l.keeper ≡ false;
      reads :
          OnlyReads g.K.Keeper.kept g.K.Keeper.number g.K.Keeper.may_leave g.K.Keeper.moment g.K.Keeper.left_since
          g.K.Keeper.opens_since l.fn.keeper l.keeper;
      later : g.K.Keeper.faults l.fn.keeper ≤ g.K.Keeper.faults l.keeper;
      counted : length l.entries ≡ l.i;
      fit : AreFitEntries l.entries;
      short : AreShortEntries l.entries;
      are : IfSome (g.K.Keeper.kept l.fn.keeper) (λ bodies. AreEntries l.entries (take l.i bodies));
    }
