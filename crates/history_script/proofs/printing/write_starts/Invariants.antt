use Rattle.std.proofs.Common.{◌≡◌, ◌++◌, drop, flat_map, take}
use Rattle.std.specs.List.{All}
use Rattle.history_script.specs.Printed.{IsStartInRange, start_line}
use Rattle.history_script.proofs.printing.write_starts.Given as goal

abbrev pub invariant-loop-start : goal.invariant-loop-start
invariant-loop-start l =
    record {
      added :
          l.initial.out.items ++ flat_map (start_line l.net) l.starts
          ≡ l.out.items ++ flat_map (start_line l.net) (drop l.start-index l.starts);
      range : All IsStartInRange (take l.start-index l.starts);
    }
