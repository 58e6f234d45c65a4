-- What may still come of a frame's content.
use Rattle.std.specs.Prelude.{◌≡◌, ◌↔◌, ◌+◌, ◌<◌, ◌≤◌, ℕ, zero, suc, List, [], ◌∷◌, Option, None, Some}
use Rattle.std.specs.List.{AllByRecursion}
use Rattle.std.specs.Str.{IsUtf8}
use Rattle.model.specs.Ranges.{IsU8}
use Rattle.mail_frames.specs.declared.nexts.Next.{Next}
use Rattle.mail_frames.specs.declared.nexts.Next.TheVariants.{Any, Exactly, Lead, Within}

-- so many later bytes of a character, and then whole characters
abbrev pub Continues : ℕ → List ℕ → Type 0
Continues zero bytes = IsUtf8 bytes
Continues (suc n) [] = ⊥
Continues (suc n) (b ∷ bytes) = (128 ≤ b) × (b ≤ 191) × Continues n bytes

-- a byte in these bounds, and then so many later bytes of its character
abbrev pub GoesOn : ℕ → ℕ → ℕ → List ℕ → Type 0
GoesOn low high more [] = ⊥
GoesOn low high more (b ∷ bytes) = (low ≤ b) × (b ≤ high) × Continues more bytes

-- that byte, and then any
abbrev pub BeginsWith : ℕ → List ℕ → Type 0
BeginsWith tag [] = ⊥
BeginsWith tag (b ∷ bytes) = (b ≡ tag) × AllByRecursion IsU8 bytes

-- the bytes may be the rest of the content
abbrev pub Follows : Next → List ℕ → Type 0
Follows Any bytes = AllByRecursion IsU8 bytes
Follows (Exactly tag) bytes = BeginsWith tag bytes
Follows Lead bytes = IsUtf8 bytes
Follows (Within low high more) bytes = GoesOn low high more bytes

-- how many bytes have to come at least
abbrev pub due : Next → ℕ
due Any = 0
due (Exactly tag) = 1
due Lead = 0
due (Within low high more) = more + 1

-- there are bytes that may come
abbrev pub IsOpen : Next → Type 0
IsOpen Any = Unit {0}
IsOpen (Exactly tag) = tag < 256
IsOpen Lead = Unit {0}
IsOpen (Within low high more) = (low ≤ high) × (more ≤ 2)

-- after this byte, next may come; None: the byte may not come
abbrev pub NextAfter : (List ℕ → Type 0) → Option Next → Type 0
NextAfter Rests None = (bytes : List ℕ) → Rests bytes → ⊥
NextAfter Rests (Some next) = IsOpen next × ((bytes : List ℕ) → Rests bytes ↔ Follows next bytes)
