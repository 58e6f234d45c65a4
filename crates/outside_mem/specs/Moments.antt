-- What a stop may leave of a disk that keeps every moment.
use Rattle.std.specs.Prelude.{◌≡◌, ◌⊎◌, ◌+◌, ◌≤◌, ◌&&◌, nat_lt, nat_le, max, ℕ, Bool, true, false, List, [], ◌∷◌, length, take, if◌then◌else◌}
use Rattle.outside.specs.Files.{Torn, Cut}
use Rattle.outside_mem.specs.Disks.{written, half}
use Rattle.outside_mem.specs.Memory.{CallCount, after_call, is_next_listed}
use Rattle.outside_mem.specs.declared.crashes.Made.{Made}
use Rattle.outside_mem.specs.declared.crashes.Made.TheVariants.{Wrote, Tore, CutTo, KeptLength, Synced}

-- A call that was made, with the piece that it wrote. Lists of calls have the last call first.
abbrev pub Call : Type 0
Call = Made × List ℕ

-- what reads give after a call
abbrev pub seen_by : Made → List ℕ → List ℕ → List ℕ
seen_by (Wrote place) piece file = written place piece file
seen_by (Tore place) piece file = written place (half piece) file
seen_by (CutTo n) piece file = take n file
seen_by (KeptLength n) piece file = file
seen_by Synced piece file = file

-- what reads give after the calls, of a file that was there first
abbrev pub seen_of : List ℕ → List Call → List ℕ
seen_of first [] = first
seen_of first (call ∷ before) = seen_by call.0 call.1 (seen_of first before)

-- What a stop after a call may leave, by what reads gave and what a stop might have left before it. A write or a cut
-- that failed counts as made.
abbrev pub LeftStep : Made → List ℕ → List ℕ → (List ℕ → Type 0) → List ℕ → Type 0
LeftStep (Wrote place) piece seen left file = (was : List ℕ) × left was × Torn place (length piece) was file
LeftStep (Tore place) piece seen left file = (was : List ℕ) × left was × Torn place (length piece) was file
LeftStep (CutTo n) piece seen left file = (was : List ℕ) × left was × Cut n was file
LeftStep (KeptLength n) piece seen left file = (was : List ℕ) × left was × Cut n was file
LeftStep Synced piece seen left file = file ≡ seen

-- what a stop after the calls may leave
abbrev pub LeftBy : List ℕ → List Call → List ℕ → Type 0
LeftBy first [] file = file ≡ first
LeftBy first (call ∷ before) file = LeftStep call.0 call.1 (seen_of first before) (LeftBy first before) file

-- what a stop after so many calls or more might have left
abbrev pub LeftSince : List ℕ → List Call → ℕ → List ℕ → Type 0
LeftSince first [] t file = LeftBy first [] file
LeftSince first (call ∷ before) t file = LeftBy first (call ∷ before) file ⊎ ((t ≤ length before) × LeftSince first before t file)

-- what such a disk holds: the file that was there first, the calls, how many bytes they wrote, the room, and which calls
-- fail
pub record CrashState : Type 0 where
  pub first : List ℕ
  pub made : List Call
  pub used : ℕ
  pub room : ℕ
  pub calls : CallCount

-- whether there is room for one call more, for the bytes that it writes, and in the file for its end
abbrev pub has_room : ℕ → ℕ → CrashState → Bool
has_room end count disk = nat_lt (length disk.made) disk.room && nat_le (disk.used + count) disk.room && nat_le end (max disk.room (length disk.first))

-- after a call that only reads, or that failed and changed nothing
abbrev pub counted : Bool → CrashState → CrashState
counted failed disk = record {
  first = disk.first;
  made = disk.made;
  used = disk.used;
  room = disk.room;
  calls = after_call failed disk.calls;
}

-- after a call that is kept
abbrev pub noted : Bool → Made → List ℕ → CrashState → CrashState
noted failed made piece disk = record {
  first = disk.first;
  made = (made, piece) ∷ disk.made;
  used = disk.used + length piece;
  room = disk.room;
  calls = after_call failed disk.calls;
}

-- a write that is listed leaves half of its piece
abbrev pub after_write : ℕ → List ℕ → CrashState → CrashState
after_write place piece disk =
    if has_room (place + length piece) (length piece) disk
    then (if is_next_listed disk.calls then noted true (Tore place) piece disk else noted false (Wrote place) piece disk)
    else counted true disk

-- a cut that is listed leaves the file as it was
abbrev pub after_cut : ℕ → CrashState → CrashState
after_cut len disk =
    if has_room 0 0 disk
    then (if is_next_listed disk.calls then noted true (KeptLength len) [] disk else noted false (CutTo len) [] disk)
    else counted true disk

abbrev pub after_sync : CrashState → CrashState
after_sync disk =
    if has_room 0 0 disk
    then (if is_next_listed disk.calls then counted true disk else noted false Synced [] disk)
    else counted true disk
