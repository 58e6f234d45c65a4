use Rattle.std.proofs.Common.{◌≡◌, ◌++◌, length, take}
use Rattle.std.specs.List.{All}
use Rattle.std.specs.Prelude.{flat_map}
use Rattle.model.specs.Fields.{u8_bytes}
use Rattle.model.specs.Ranges.{OpInRange}
use Rattle.model.specs.Spelling.{op_bytes}
use Rattle.entry_codec.proofs.writing.documents.put_cond.Given as goal

abbrev pub invariant-loop-op : goal.invariant-loop-op
invariant-loop-op l =
    record {
      added : l.out ≡ l.fn.out ++ (u8_bytes (length l.ops) ++ flat_map op_bytes (take l.op-index l.op-items));
      range : All OpInRange (take l.op-index l.op-items);
    }
