-- What happens where the workstations of a network are served, one occurrence after the other, each at one workstation;
-- and the night that this is.
use Rattle.std.specs.Prelude.{[], if◌then◌else◌, ℕ, ◌++◌, ◌==◌, ◌∷◌, List, None, Option, Some, filter_map, fold, length, option_and_then, slice_get}
use Rattle.model.specs.Types.{Entry}
use Rattle.node_inputs.specs.Traces.{Event, kept}
use Rattle.network_runs.specs.Happenings.{Begins, Does, Happening, Night, Stops}

pub data Occurrence (D : Type 0) : Type 0 where
  -- a workstation is served over this disk, but its service ends or is stopped before a node of it acts; it leaves that disk
  Fails : ℕ → D → D → Occurrence D
  -- a node is made of this disk, and holds these entries
  Opens : ℕ → D → List Entry → Occurrence D
  -- an event of its run
  Acts : ℕ → Event → Occurrence D
  -- its service ends, or is stopped at whatever moment, and leaves this disk
  Leaves : ℕ → D → Occurrence D

abbrev pub Services : Type 0 → Type 0
Services D = List (Occurrence D)

-- the first entry that these hold behind those
abbrev pub first_behind : List Entry → Option (List Entry) → Option Entry
first_behind entries next = option_and_then (λ (more : List Entry). slice_get more (length entries)) next

module _ {D : Type 0} where
  -- what happens, but for what stops leave of entries in hand
  abbrev pub plain_of : Occurrence D → Option Happening
  plain_of (Fails w disk left) = None
  plain_of (Opens w disk entries) = Some (Begins w entries)
  plain_of (Acts w event) = Some (Does w event)
  plain_of (Leaves w disk) = Some (Stops w None)

  abbrev pub plain : Services D → Night
  plain services = filter_map plain_of services

  -- the disk that a workstation was left with last
  abbrev pub disk_with : ℕ → Option D → Occurrence D → Option D
  disk_with w so_far (Fails v disk left) = if v == w then Some left else so_far
  disk_with w so_far (Opens v disk entries) = so_far
  disk_with w so_far (Acts v event) = so_far
  disk_with w so_far (Leaves v disk) = if v == w then Some disk else so_far

  abbrev pub disk_left : ℕ → Services D → Option D
  disk_left w services = fold (disk_with w) None services

  -- the disk that its node leaves next; none where it still runs at the end
  abbrev pub disk_next : ℕ → Services D → Option D
  disk_next w [] = None
  disk_next w (Fails v disk left ∷ services) = disk_next w services
  disk_next w (Opens v disk entries ∷ services) = if v == w then None else disk_next w services
  disk_next w (Acts v event ∷ services) = disk_next w services
  disk_next w (Leaves v disk ∷ services) = if v == w then Some disk else disk_next w services

  -- what its last node held in the end
  abbrev pub held_with : ℕ → List Entry → Occurrence D → List Entry
  held_with w so_far (Fails v disk left) = so_far
  held_with w so_far (Opens v disk entries) = if v == w then entries else so_far
  held_with w so_far (Acts v event) = if v == w then so_far ++ kept (event ∷ []) else so_far
  held_with w so_far (Leaves v disk) = so_far

  abbrev pub held : ℕ → Services D → List Entry
  held w services = fold (held_with w) [] services

  -- what its next node holds in the beginning
  abbrev pub made_next : ℕ → Services D → Option (List Entry)
  made_next w [] = None
  made_next w (Fails v disk left ∷ services) = made_next w services
  made_next w (Opens v disk entries ∷ services) = if v == w then Some entries else made_next w services
  made_next w (Acts v event ∷ services) = made_next w services
  made_next w (Leaves v disk ∷ services) = made_next w services

  -- the happening of an occurrence. A stop left the entry that the next node of the workstation holds behind all that the
  -- node held which was stopped.
  abbrev pub happens : Services D → Occurrence D → Services D → Night
  happens before (Fails w disk left) behind = []
  happens before (Opens w disk entries) behind = Begins w entries ∷ []
  happens before (Acts w event) behind = Does w event ∷ []
  happens before (Leaves w disk) behind = Stops w (first_behind (held w before) (made_next w behind)) ∷ []

  -- those of all that occurs between what was before and what comes behind
  abbrev pub night_between : Services D → Services D → Services D → Night
  night_between before [] behind = []
  night_between before (one ∷ services) behind =
      happens before one (services ++ behind) ++ night_between (before ++ one ∷ []) services behind

  -- the night that the services are
  abbrev pub night_of : Services D → Night
  night_of services = night_between [] services []
