use Rattle.std.proofs.Common.{◌≡◌, ◌≤◌, take}
use Rattle.std.specs.Prelude.{count_by}
use Rattle.model.specs.World.{is_send}
use Rattle.network_world.proofs.journals.sends_in.Given as goal

abbrev pub invariant-loop-out : goal.invariant-loop-out
invariant-loop-out l =
    record {
      told : l.count ≡ count_by is_send (take l.out-index l.outs);
      few : l.count ≤ l.out-index;
    }
