-- What a keeper in memory holds, and what its calls do.
use Rattle.std.specs.Prelude.{◌+◌, ◌&&◌, ◌||◌, not, nat_lt, nat_le, ℕ, Bool, true, false, List, length, if◌then◌else◌, Result, Err}
use Rattle.outside.specs.Kept.{Bodies, with_body, size_of}
use Rattle.outside.specs.Records.{longest_file}
use Rattle.outside.specs.declared.keepers.KeepFault.{KeepFault}
use Rattle.outside.specs.declared.keepers.KeepFault.TheVariants.{NoMemory}
use Rattle.outside_mem.specs.Memory.{CallCount, after_call, is_next_listed}

-- the bodies, how many bytes they have, for how many of both there is room, whether it is spent, and its calls
pub record KeeperState : Type 0 where
  pub kept : Bodies
  pub used : ℕ
  pub room : ℕ
  pub spent : Bool
  pub calls : CallCount

-- whether there is room for one body more of so many bytes
abbrev pub has_room : ℕ → KeeperState → Bool
has_room count keeper = nat_lt (length keeper.kept) keeper.room && nat_le (keeper.used + count) keeper.room

-- whether the keeper, with one body more, would be longer than a file of bodies may be
abbrev pub is_full : List ℕ → KeeperState → Bool
is_full body keeper = nat_lt longest_file (size_of keeper.kept + length body + 5)

-- whether to keep the body fails
abbrev pub append_fails : List ℕ → KeeperState → Bool
append_fails body keeper = keeper.spent || (not (is_full body keeper) && (is_next_listed keeper.calls || not (has_room (length body) keeper)))

-- whether to read the body of a number fails
abbrev pub read_fails : ℕ → KeeperState → Bool
read_fails i keeper = keeper.spent || (nat_lt i (length keeper.kept) && is_next_listed keeper.calls)

-- after a call that changed nothing, or failed and spent it
abbrev pub counted : Bool → KeeperState → KeeperState
counted failed keeper = record {
  kept = keeper.kept;
  used = keeper.used;
  room = keeper.room;
  spent = failed;
  calls = after_call failed keeper.calls;
}

-- one body more
abbrev pub grown : List ℕ → KeeperState → KeeperState
grown body keeper = record {
  kept = with_body body keeper.kept;
  used = keeper.used + length body;
  room = keeper.room;
  spent = false;
  calls = after_call false keeper.calls;
}

abbrev pub after_append : List ℕ → KeeperState → KeeperState
after_append body keeper =
    if keeper.spent then keeper
    else (if is_full body keeper then counted false keeper
    else (if append_fails body keeper then counted true keeper else grown body keeper))

-- want of memory changes nothing
abbrev pub after_read : ℕ → Result (List ℕ) KeepFault → KeeperState → KeeperState
after_read i (Err NoMemory) keeper = keeper
after_read i result keeper = if keeper.spent then keeper else counted (read_fails i keeper) keeper
