-- The laws of a disk that keeps every moment.
use Rattle.std.specs.Prelude.{ℕ, ◌/◌, List, [], ◌∷◌, length}
use mathlib.Core.Logic.{inl, inr}
use mathlib.Core.Path.{refl}
use Rattle.std.proofs.Math.Nat.{lt_irrefl}
use Rattle.outside.proofs.Same.{torn_written, cut_made, cut_same}
use Rattle.outside.proofs.Remaining.{any_front}
use Rattle.outside_mem.specs.Moments.{Call, seen_of, LeftBy, LeftSince}
use Rattle.outside_mem.specs.declared.crashes.Made.TheVariants.{Wrote, Tore, CutTo, KeptLength, Synced}

-- what reads give is one of the files that a stop may leave
pub seen_left : (first : List ℕ) (made : List Call) → LeftBy first made (seen_of first made)
seen_left first [] = refl
seen_left first ((Wrote place, piece) ∷ before) = (seen_of first before, seen_left first before, torn_written place piece (seen_of first before))
seen_left first ((Tore place, piece) ∷ before) = (seen_of first before, seen_left first before, any_front place (length piece / 2) piece (seen_of first before))
seen_left first ((CutTo n, piece) ∷ before) = (seen_of first before, seen_left first before, cut_made n (seen_of first before))
seen_left first ((KeptLength n, piece) ∷ before) = (seen_of first before, seen_left first before, cut_same n (seen_of first before))
seen_left first ((Synced, piece) ∷ before) = refl

-- this moment is one of those since an earlier one
pub now_since : (first : List ℕ) (made : List Call) (t : ℕ) (file : List ℕ) → LeftBy first made file → LeftSince first made t file
now_since first [] t file left = left
now_since first (call ∷ before) t file left = inl left

-- since this moment there is no other
pub since_now : (first : List ℕ) (made : List Call) (file : List ℕ) → LeftSince first made (length made) file → LeftBy first made file
since_now first [] file left = left
since_now first (call ∷ before) file (inl now) = now
since_now first (call ∷ before) file (inr was) = absurd (lt_irrefl (length before) was.0)
