use Rattle.std.proofs.Common.{◌≡◌, ◌≤◌, ◌++◌, drop, length, take}
use Rattle.std.specs.Prelude.{filter_map}
use Rattle.model.specs.World.{start_in}
use Rattle.network_world.proofs.journals.put_starts.Given as goal

abbrev pub invariant-loop-out : goal.invariant-loop-out
invariant-loop-out l =
    record {
      told :
          l.starts.items
          ≡ l.initial.starts.items ++ filter_map (start_in l.w) (take l.out-index l.outs);
      room : length (filter_map (start_in l.w) (drop l.out-index l.outs)) ≤ l.starts.spare;
    }
