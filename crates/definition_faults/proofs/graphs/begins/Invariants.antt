use Rattle.std.proofs.Common.{◌≡◌, map}
use Rattle.model.specs.Words.{below}
use Rattle.definition_faults.specs.Graphs.{begin_of}
use Rattle.definition_faults.proofs.graphs.begins.Given as goal

abbrev pub invariant-loop-schedule : goal.invariant-loop-schedule
invariant-loop-schedule l =
    record {
      begun : l.begins.items ≡ map (begin_of l.names) (below l.schedule-index);
      next_ : l.next ≡ begin_of l.names l.schedule-index;
    }
