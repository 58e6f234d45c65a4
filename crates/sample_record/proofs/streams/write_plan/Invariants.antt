use Rattle.std.proofs.Common.{◌≡◌, ◌++◌, ◌-◌, flat_map}
use Rattle.std.specs.List.{range_with_len}
use Rattle.sample_record.specs.Streams.{beginning, hosts_of, stream_part}
use Rattle.sample_record.proofs.streams.write_plan.Given as goal

abbrev pub invariant-loop-before : goal.invariant-loop-before
invariant-loop-before l = record {
  drawn : l.draws.x ≡ beginning l.jobs l.fn.seed l.before;
  hosts : l.hosts.items ≡ hosts_of l.jobs l.fn.seed l.before;
  wrote :
      l.initial.out.items ++ flat_map (stream_part l.jobs l.fn.seed) (range_with_len 0 l.before-end)
      ≡ l.out.items ++ flat_map (stream_part l.jobs l.fn.seed) (range_with_len l.before (l.before-end - l.before));
}
