use Rattle.std.proofs.Common.{◌≡◌, ◌++◌, drop, flat_map}
use Rattle.std.specs.List.{enumerate_from}
use Rattle.definition_faults.specs.Graphs.{stream_objects}
use Rattle.definition_faults.proofs.graphs.followers.Given as goal

abbrev pub invariant-loop-n : goal.invariant-loop-n
invariant-loop-n l =
    flat_map (stream_objects l.names) (enumerate_from 0 l.schedules)
    ≡ l.objects.items ++ flat_map (stream_objects l.names) (enumerate_from l.n (drop l.n l.schedules))
