use Rattle.std.proofs.Common.{◌≡◌, ◌+◌, ◌++◌, take}
use Rattle.byte_fields.proofs.puts.fill.Given as goal

abbrev pub invariant-loop-byte : goal.invariant-loop-byte
invariant-loop-byte l =
    (l.list.items ≡ l.fn.list.items ++ take l.byte-index l.bytes) × (l.list.spare + l.byte-index ≡ l.fn.list.spare)
