use Rattle.std.proofs.Common.{◌≡◌, ◌++◌, length, take}
use Rattle.std.specs.List.{All}
use Rattle.std.specs.Prelude.{flat_map}
use Rattle.model.specs.Fields.{u32_bytes}
use Rattle.model.specs.Ranges.{CountInRange}
use Rattle.model.specs.Spelling.{count_bytes}
use Rattle.entry_codec.proofs.writing.parts.put_seen.Given as goal

abbrev pub invariant-loop-pair : goal.invariant-loop-pair
invariant-loop-pair l =
    record {
      added : l.out ≡ l.fn.out ++ (u32_bytes (length l.seen) ++ flat_map count_bytes (take l.pair-index l.pair-items));
      range : All CountInRange (take l.pair-index l.pair-items);
    }
