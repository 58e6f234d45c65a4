use Rattle.std.proofs.Common.{◌≡◌, ◌≤◌, ◌-◌, length}
use Rattle.entry_codec.specs.Fields.{items_at}
use Rattle.entry_codec.proofs.Loops.{with_front}
use Rattle.entry_codec.proofs.reading.lists.read_items.Given as goal

abbrev pub invariant-loop : goal.invariant-loop
invariant-loop g l =
    record {
      read : with_front l.items (items_at (g.T.Read.reader l.second) (l.count - l.counter) l.from l.next)
          ≡ items_at (g.T.Read.reader l.second) l.count l.from l.at;
      within : l.next ≤ length l.from;
    }
