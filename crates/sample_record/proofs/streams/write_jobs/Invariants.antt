use Rattle.std.proofs.Common.{◌≡◌, ◌++◌, ◌-◌, flat_map}
use Rattle.std.specs.List.{range_with_len}
use Rattle.sample_record.specs.Draws.{number}
use Rattle.sample_record.specs.Streams.{further_job}
use Rattle.sample_record.proofs.streams.write_jobs.Given as goal

abbrev pub invariant-loop-further : goal.invariant-loop-further
invariant-loop-further l = record {
  drawn : l.draws.x ≡ number l.initial.draws.x (l.further - 1);
  wrote :
      l.initial.out.items
      ++ flat_map (further_job l.host l.initial.draws.x l.first) (range_with_len 1 (l.count - 1))
      ≡ l.out.items
      ++ flat_map (further_job l.host l.initial.draws.x l.first) (range_with_len l.further (l.count - l.further));
}
