use Rattle.std.proofs.Common.{◌≡◌, ◌≤◌, ◌-◌, length}
use Rattle.entry_codec.specs.Fields.{counts_at}
use Rattle.entry_codec.proofs.Loops.{with_front}
use Rattle.entry_codec.proofs.reading.parts.read_counts.Given as goal

abbrev pub invariant-loop : goal.invariant-loop
invariant-loop l =
    record {
      read : with_front l.seen (counts_at l.least (l.count - l.counter) l.from l.next)
          ≡ counts_at 0 l.count l.from l.at;
      within : l.next ≤ length l.from;
    }
