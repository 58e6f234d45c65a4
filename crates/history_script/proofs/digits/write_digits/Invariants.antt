use Rattle.std.proofs.Common.{◌≡◌, ◌++◌, drop, flat_map}
use Rattle.history_script.specs.Digits.{byte_digits}
use Rattle.history_script.proofs.digits.write_digits.Given as goal

abbrev pub invariant-loop-byte : goal.invariant-loop-byte
invariant-loop-byte l =
    l.initial.out.items ++ flat_map byte_digits l.bytes ≡ l.out.items ++ flat_map byte_digits (drop l.byte-index l.bytes)
