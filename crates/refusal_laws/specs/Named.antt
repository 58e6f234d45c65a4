-- What a step of the world names by itself, the plan that it takes, and the limits of a replay.
use Rattle.std.specs.List.{list_all}
use Rattle.std.specs.Prelude.{[], ℕ, ◌&&◌, ◌==◌, ◌∷◌, Bool, List, false, nat_lt, not, true}
use Rattle.model.specs.Types.{Crash, CrashDeliver, CrashTake, Deliver, Input, LimitName, Local, Net, Next, StreamDraft}
use Rattle.model.specs.Types.{Take, WorldStep}
use Rattle.model.specs.Network.{node_count}
use Rattle.model.specs.StepFaults.{is_next}
use Rattle.model.specs.Workstations.{ws_in}

-- The workstations that a step names: its own, and those of what happens there. Of a delivery these are the two ends; what
-- the packet names was sent.
abbrev pub ws_named : WorldStep → List ℕ
ws_named (Take w l) = w ∷ ws_in (Input.Local l)
ws_named (Deliver a b k) = a ∷ b ∷ []
ws_named (Crash w) = w ∷ []
ws_named (CrashTake w l kept) = w ∷ ws_in (Input.Local l)
ws_named (CrashDeliver a b k kept) = a ∷ b ∷ []

-- none of them is outside the network
abbrev pub names_no_stranger : Net → WorldStep → Bool
names_no_stranger net s = list_all (λ w. nat_lt w (node_count net)) (ws_named s)

-- it takes a plan at another workstation than the master
abbrev pub plans_elsewhere : WorldStep → Bool
plans_elsewhere (Take w l) = is_next (Input.Local l) && not (w == 0)
plans_elsewhere (CrashTake w l kept) = is_next (Input.Local l) && not (w == 0)
plans_elsewhere (Deliver a b k) = false
plans_elsewhere (Crash w) = false
plans_elsewhere (CrashDeliver a b k kept) = false

-- the drafts of the plan that it takes, if it takes one
abbrev pub drafts_of : Local → List StreamDraft
drafts_of (Next drafts) = drafts
drafts_of _ = []

abbrev pub drafts_in : WorldStep → List StreamDraft
drafts_in (Take w l) = drafts_of l
drafts_in (CrashTake w l kept) = drafts_of l
drafts_in (Deliver a b k) = []
drafts_in (Crash w) = []
drafts_in (CrashDeliver a b k kept) = []

-- one of the limits that are counted over the steps of a world
abbrev pub is_counted : LimitName → Bool
is_counted LimitName.Steps = true
is_counted LimitName.Packets = true
is_counted LimitName.Bytes = true
is_counted _ = false
