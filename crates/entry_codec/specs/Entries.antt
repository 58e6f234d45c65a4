-- Entries as they are read. The number of a row is the choice that leads to it.
use Rattle.std.specs.Prelude.{◌≡◌, ◌≢◌, ◌⊎◌, ◌==◌, ◌||◌, ◌<◌, ℕ, Bool, List, [], ◌∷◌, length, drop, Result, Ok, Err}
use Rattle.std.specs.Prelude.{nat_lt, if◌then◌else◌}
use Rattle.std.specs.Int.{w32}
use Rattle.byte_fields.specs.Places.{StandsAt}
use Rattle.model.specs.Types.{Feed, Events, Orders, Entry, Body, NewPlan, Added, Clock, Released, StreamEnded}
use Rattle.model.specs.Types.{UntilPassed, Launched, Started, Failed, Ended, Lost, Fulfilled, Obeyed, Declined}
use Rattle.model.specs.Types.{Order, Why, NotMine, NotThere, Running, NotRunning, NotEnded, AlreadyThere, OutOfRange}
use Rattle.model.specs.Types.{NotMaster, NotBuilt, Late}
use Rattle.model.specs.Versions.{version}
use Rattle.model.specs.Fit.{IsFit}
use Rattle.model.specs.Spelling.{entry_bytes}
use Rattle.entry_codec.specs.declared.EntryFault.{EntryFault}
use Rattle.entry_codec.specs.declared.EntryFault.TheVariants.{Short, Version, BadField, TooMuch, NoMemory}
use Rattle.entry_codec.specs.Read.{Reader, ◌>>=◌, and_then, gives, one, two, three, four, all_of}
use Rattle.entry_codec.specs.Fields.{u8_at, u16_at, u32_at, u64_at, i32_at, number_with, choice_at, flag_at}
use Rattle.entry_codec.specs.Fields.{list_at, seen_at, since_second}
use Rattle.entry_codec.specs.Parts.{feed_at, obj_at, until_at, stream_at}
use Rattle.entry_codec.specs.Commands.{cmd_at}

-- the reason of a declined order
abbrev pub why_rows : List (ℕ × Reader Why)
why_rows =
    (1, gives NotMine)
    ∷ (2, gives NotThere)
    ∷ (3, gives Running)
    ∷ (4, gives NotRunning)
    ∷ (5, gives NotEnded)
    ∷ (6, gives Why.Ended)
    ∷ (7, gives AlreadyThere)
    ∷ (8, gives OutOfRange)
    ∷ (9, gives NotMaster)
    ∷ (10, gives NotBuilt)
    ∷ []

unfoldable pub why_at : Reader Why
why_at = choice_at why_rows

-- the kind of an event, and what it says; a lateness stands in version 2 alone
abbrev pub event_rows : Bool → List (ℕ × Reader Body)
event_rows second =
    (1, four u32_at seen_at (list_at u32_at) (list_at (stream_at second)) NewPlan)
    ∷ (2, three u16_at u32_at (stream_at second) Added)
    ∷ (3, one u64_at Clock)
    ∷ (4, two u32_at seen_at Released)
    ∷ (5, two u32_at seen_at StreamEnded)
    ∷ (6, three obj_at u16_at until_at UntilPassed)
    ∷ (7, three u32_at u32_at seen_at Launched)
    ∷ (8, two u32_at u32_at Started)
    ∷ (9, two u32_at u32_at Failed)
    ∷ (10, four u32_at u32_at i32_at flag_at Ended)
    ∷ (11, two u32_at u32_at Lost)
    ∷ (12, two obj_at u16_at Fulfilled)
    ∷ (13, three u16_at u32_at (cmd_at second) Obeyed)
    ∷ (14, three u16_at u32_at why_at Declined)
    ∷ since_second second ((16, two obj_at u16_at Late) ∷ [])

unfoldable pub event_at : Bool → Reader Body
event_at second = choice_at (event_rows second)

-- the kind of an order, and its command
abbrev pub order_rows : Bool → List (ℕ × Reader Body)
order_rows second = (15, one (cmd_at second) Order) ∷ []

unfoldable pub order_at : Bool → Reader Body
order_at second = choice_at (order_rows second)

-- each feed has its kinds
unfoldable pub body_at : Bool → Feed → Reader Body
body_at second (Events w) = event_at second
body_at second (Orders a w) = order_at second

-- the version, which is 1 or 2
unfoldable pub version_at : Reader ℕ
version_at bytes p = and_then (u8_at bytes p) (λ n. if n.0 == 1 || n.0 == 2 then Ok n else Err Version)

-- the version, the feed, the place, which is not 0, the kind and the body
unfoldable pub entry_at : Reader (ℕ × Entry)
entry_at = do
  number ← version_at
  feed ← feed_at
  place ← number_with w32 (nat_lt 0)
  body ← body_at (number == 2) feed
  gives (number, record { feed = feed; place = place; body = body })

-- the entry, where its version is the one that it needs
abbrev pub with_its_version : ℕ × Entry → Result Entry EntryFault
with_its_version read = if version read.1.body == read.0 then Ok read.1 else Err (BadField 0)

-- the entry that the bytes are, or their first fault; a version without need is told where there is no other fault
unfoldable pub entry_in : List ℕ → Result Entry EntryFault
entry_in bytes = and_then (all_of entry_at bytes) with_its_version

-- the first byte is there, and is another version
abbrev pub HasOtherVersion : List ℕ → Type 0
HasOtherVersion [] = ⊥
HasOtherVersion (number ∷ bytes) = (number ≢ 1) × (number ≢ 2)

-- the bytes of an entry, with some version before them
abbrev pub bytes_with : ℕ → Entry → List ℕ
bytes_with number e = number ∷ drop 1 (entry_bytes e)

-- a fit entry stands at the front, in its version or in version 2, and bytes are left behind it from a place on
pub record IsLeftAt (bytes : List ℕ) (p : ℕ) : Type 0 where
  pub entry : Entry
  pub number : ℕ
  pub fit : IsFit entry
  pub told : (number ≡ version entry.body) ⊎ (number ≡ 2)
  pub stands : StandsAt (bytes_with number entry) bytes 0 p
  pub left : p < length bytes

-- a fault that stays whatever follows
abbrev pub IsLasting : EntryFault → Type 0
IsLasting Version = Unit {0}
IsLasting (BadField p) = Unit {0}
IsLasting (TooMuch p) = Unit {0}
IsLasting (Short p) = ⊥
IsLasting NoMemory = ⊥
