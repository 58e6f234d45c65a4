use Rattle.std.proofs.Common.{◌≡◌, ◌++◌, length, take}
use Rattle.std.specs.List.{All}
use Rattle.std.specs.Prelude.{flat_map}
use Rattle.model.specs.Fields.{u32_bytes}
use Rattle.entry_codec.proofs.writing.lists.put_list.Given as goal

abbrev pub invariant-loop-item : goal.invariant-loop-item
invariant-loop-item g l =
    record {
      added :
          l.out ≡ l.fn.out ++ (u32_bytes (length l.items) ++ flat_map g.T.Put.spelling (take l.item-index l.item-items));
      range : All g.T.Put.in_range (take l.item-index l.item-items);
    }
