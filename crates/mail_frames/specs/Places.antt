-- Where in a frame a stream stands, and what completes the frame.
use Rattle.std.specs.Prelude.{◌≡◌, ◌↔◌, ◌+◌, ◌*◌, ◌<◌, ◌≤◌, ℕ, List, [], ◌∷◌, ◌++◌, length, take}
use Rattle.model.specs.Fields.{u32_bytes}
use Rattle.mail_frames.specs.declared.places.Place.{Place}
use Rattle.mail_frames.specs.declared.places.Place.TheVariants.{Start, One, Two, Three, Kind, Content}
use Rattle.mail_frames.specs.declared.places.Scanned.{Scanned}
use Rattle.mail_frames.specs.declared.places.Scanned.TheVariants.{Open, Whole, Bad}
use Rattle.mail_frames.specs.Spelling.{IsSpelled}
use Rattle.mail_frames.specs.Nexts.{Follows, due, IsOpen}

-- the bytes are what is missing of a frame
abbrev pub Completes : Place → List ℕ → Type 0
Completes Start bytes = IsSpelled bytes
Completes One bytes = IsSpelled (0 ∷ bytes)
Completes (Two a) bytes = IsSpelled (0 ∷ a ∷ bytes)
Completes (Three a b) bytes = IsSpelled (0 ∷ a ∷ b ∷ bytes)
Completes (Kind n) bytes = IsSpelled (u32_bytes n ++ bytes)
Completes (Content left next) bytes = (length bytes ≡ left) × Follows next bytes

-- something is missing, and it may come
abbrev pub IsReached : Place → Type 0
IsReached Start = Unit {0}
IsReached One = Unit {0}
IsReached (Two a) = a ≤ 64
IsReached (Three a b) = (256 * a + b ≤ 16384) × (b < 256)
IsReached (Kind n) = (1 ≤ n) × (n ≤ 4194305)
IsReached (Content left next) = (0 < left) × (due next ≤ left) × IsOpen next

-- where the stream stands behind bytes that leave open, complete or break a frame
abbrev pub ScannedAfter : (List ℕ → Type 0) → Scanned → Type 0
ScannedAfter Rests (Open place) = IsReached place × ((bytes : List ℕ) → Rests bytes ↔ Completes place bytes)
ScannedAfter Rests Whole = (bytes : List ℕ) → Rests bytes ↔ (bytes ≡ [])
ScannedAfter Rests Bad = (bytes : List ℕ) → Rests bytes → ⊥

-- the first so many bytes, from that place of a frame on: all of them leave the frame open, or they complete it, or the
-- one behind them breaks it
abbrev pub Scans : Place → List ℕ → ℕ → Scanned → Type 0
Scans place bytes count (Open next) =
    (count ≡ length bytes) × ScannedAfter (λ rest. Completes place (bytes ++ rest)) (Open next)
Scans place bytes count Whole =
    (0 < count) × (count ≤ length bytes) × ScannedAfter (λ rest. Completes place (take count bytes ++ rest)) Whole
Scans place bytes count Bad =
    (count < length bytes)
    × ((next : Place) × ScannedAfter (λ rest. Completes place (take count bytes ++ rest)) (Open next))
    × ScannedAfter (λ rest. Completes place (take (count + 1) bytes ++ rest)) Bad
