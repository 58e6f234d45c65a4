-- What a disk in memory holds, and what its calls do.
use Rattle.std.specs.Prelude.{◌+◌, ◌/◌, ◌||◌, nat_lt, Bool, ℕ, List, ◌++◌, length, take, drop, Result, is_err, if◌then◌else◌}
use Rattle.outside_mem.specs.Memory.{CallCount, after_call, is_next_listed}

-- its bytes, for how many there is room, and its calls
pub record DiskState : Type 0 where
  pub bytes : List ℕ
  pub room : ℕ
  pub calls : CallCount

-- the bytes with a piece over them
abbrev pub written : ℕ → List ℕ → List ℕ → List ℕ
written place piece bytes = take place bytes ++ piece ++ drop (place + length piece) bytes

-- half of a piece, which a write that is torn leaves
abbrev pub half : List ℕ → List ℕ
half piece = take (length piece / 2) piece

-- the disk after a call more, which failed and changed nothing or left these bytes
abbrev pub after : {T E : Type 0} → Result T E → List ℕ → DiskState → DiskState
after result bytes disk = record {
  bytes = if is_err result then disk.bytes else bytes;
  room = disk.room;
  calls = after_call (is_err result) disk.calls;
}

-- a write fails where it is listed or would pass the room
abbrev pub write_fails : ℕ → ℕ → DiskState → Bool
write_fails place count disk = is_next_listed disk.calls || nat_lt disk.room (place + count)
