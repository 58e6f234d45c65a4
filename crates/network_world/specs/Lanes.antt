-- Lanes with the room that they have, which contracts of the world do not see.
use Rattle.std.specs.Prelude.{◌≡◌, ◌+◌, ◌++◌, ◌∷◌, ◌≤◌, [], ℕ, List, Some, length, max, slice_get, slice_set}
use Rattle.model.specs.Types.{Out, Packet}
use Rattle.model.specs.World.{packets_to}
use Rattle.network_world.specs.Stations.{Lane}
use Rattle.network_world.specs.declared.lanes.Lane as raw

-- a lane as the world sees it
abbrev pub seen : raw.Lane → Lane
seen l = record { packets = l.packets.items; reached = l.reached }

-- so many lanes without packets
abbrev pub AreNew : ℕ → List raw.Lane → Type 0
AreNew n lanes =
    (length lanes ≡ n)
    × ((b : ℕ) (l : raw.Lane) → slice_get lanes b ≡ Some l → seen l ≡ record { packets = []; reached = 0 })

-- each lane has room for so many packets
abbrev pub HaveRoom : ℕ → List raw.Lane → Type 0
HaveRoom n lanes = (b : ℕ) (l : raw.Lane) → slice_get lanes b ≡ Some l → n ≤ l.packets.spare

-- each lane has room for what goes to its workstation
abbrev pub HaveRoomFor : List Out → List raw.Lane → Type 0
HaveRoomFor outs lanes =
    (b : ℕ) (l : raw.Lane) → slice_get lanes b ≡ Some l → length (packets_to b outs) ≤ l.packets.spare

-- each lane has room for eight packets, once those that went to its workstation have room again
abbrev pub HaveRoomBut : List Out → List raw.Lane → Type 0
HaveRoomBut outs lanes =
    (b : ℕ) (l : raw.Lane) → slice_get lanes b ≡ Some l → 8 ≤ l.packets.spare + length (packets_to b outs)

-- a lane to whose end these packets came, for which it had room
pub record HasMore (more : List Packet) (old new : raw.Lane) : Type 0 where
  pub packets_ : new.packets.items ≡ old.packets.items ++ more
  pub reached_ : new.reached ≡ old.reached
  pub less : new.packets.spare + length more ≡ old.packets.spare

-- lanes to whose ends came what goes to their workstations
pub record HaveMore (outs : List Out) (old new : List raw.Lane) : Type 0 where
  pub count : length new ≡ length old
  pub each : (b : ℕ) (m : raw.Lane) → slice_get new b ≡ Some m
      → (l : raw.Lane) × (slice_get old b ≡ Some l) × HasMore (packets_to b outs) l m

-- the lane at a place has more room, and the same packets
abbrev pub HasRoomAt : List raw.Lane → ℕ → raw.Lane → raw.Lane → List raw.Lane → Type 0
HasRoomAt old i l m new = (new ≡ slice_set old i m) × (seen m ≡ seen l)

-- the lane at a place got a packet
abbrev pub GetsPacket : List raw.Lane → ℕ → Packet → raw.Lane → List raw.Lane → Type 0
GetsPacket old to p l new = (m : raw.Lane) × (new ≡ slice_set old to m) × HasMore (p ∷ []) l m

-- of the lane at a place a packet of this number was delivered
abbrev pub IsMarked : List raw.Lane → ℕ → ℕ → raw.Lane → List raw.Lane → Type 0
IsMarked old to k l new =
    (m : raw.Lane) × (new ≡ slice_set old to m) × (m.packets ≡ l.packets) × (m.reached ≡ max k l.reached)
