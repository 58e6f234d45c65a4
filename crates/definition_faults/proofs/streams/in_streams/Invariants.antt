use Rattle.std.proofs.Common.{◌≡◌, ℕ, drop, flat_map}
use Rattle.std.specs.List.{enumerate_from}
use Rattle.composer_parser.specs.declared.ScheduleDef.{ScheduleDef}
use Rattle.composer_parser.specs.declared.Lined.{Lined}
use Rattle.definition_faults.specs.Orders.{earliest, earlier_of}
use Rattle.definition_faults.specs.Streams.{stream_faults}
use Rattle.definition_faults.proofs.streams.in_streams.Given as goal

abbrev pub invariant-loop-n : goal.invariant-loop-n
invariant-loop-n l =
    earliest (flat_map (λ (p : ℕ × Lined ScheduleDef). stream_faults l.names p.0 p.1) (enumerate_from 0 l.schedules))
    ≡ earlier_of l.first
    (earliest (flat_map (λ (p : ℕ × Lined ScheduleDef). stream_faults l.names p.0 p.1) (enumerate_from l.n (drop l.n l.schedules))))
