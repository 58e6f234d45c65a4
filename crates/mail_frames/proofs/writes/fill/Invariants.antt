use Rattle.std.proofs.Common.{◌≡◌, ◌+◌, ◌++◌, take}
use Rattle.mail_frames.proofs.writes.fill.Given as goal

abbrev pub invariant-loop-byte : goal.invariant-loop-byte
invariant-loop-byte l =
    (l.list.items ≡ l.fn.list.items ++ take l.byte-index l.bytes) × (l.list.spare + l.byte-index ≡ l.fn.list.spare)
