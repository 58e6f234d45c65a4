-- What one piece does to a decoder: for the inside of this crate.
use Rattle.std.specs.Prelude.{◌≡◌, ◌+◌, ◌<◌, ℕ, List, [], ◌++◌, length, take, Option, None, Some}
use Rattle.mail_frames.specs.declared.frames.Frame.{Frame}
use Rattle.mail_frames.specs.declared.places.Place.{Place}
use Rattle.mail_frames.specs.declared.places.Place.TheVariants.{Start}
use Rattle.mail_frames.specs.declared.places.Scanned.TheVariants.{Open}
use Rattle.mail_frames.specs.Spelling.{IsSpelled}
use Rattle.mail_frames.specs.Streams.{AreFrames, spelling, told, IsFront}
use Rattle.mail_frames.specs.Places.{ScannedAfter}
use Rattle.mail_frames.specs.Decoding.{Decoding}

-- what the decoder keeps of a frame brings it to this place
abbrev pub IsAt : Place → List ℕ → Type 0
IsAt place kept = ScannedAfter (λ bytes. IsSpelled (kept ++ bytes)) (Open place)

-- so many bytes are less than a frame, and with the next one no frame begins so
pub record Breaks (bytes : List ℕ) (count : ℕ) : Type 0 where
  pub within : count < length bytes
  pub good : IsFront (take count bytes)
  pub broken : (more : List ℕ) → IsSpelled (take (count + 1) bytes ++ more) → ⊥

-- the unfinished frame at the end is kept, or it breaks at the place of a byte of the piece, the first of which has the
-- place `from` in the stream
abbrev pub EndsAs : ℕ → List ℕ → List ℕ → Option ℕ → List ℕ → Type 0
EndsAs from piece rest None kept = (kept ≡ rest) × IsFront rest
EndsAs from piece rest (Some place) kept =
    (count : ℕ) × (at_byte : ℕ) × Breaks rest count × (at_byte + length rest ≡ length piece + count)
    × (place ≡ told (from + at_byte))

-- what a good decoder kept and the piece are these frames, and an unfinished one or a broken one
pub record Feeds (old : Decoding) (piece : List ℕ) (frames : List Frame) (bad : Option ℕ) (new : Decoding) : Type 0
  where
    pub rest : List ℕ
    pub each : AreFrames frames
    pub stand : old.rest ++ piece ≡ spelling frames ++ rest
    pub taken : new.taken ≡ told (old.taken + length piece)
    pub says : bad ≡ new.bad
    pub ends : EndsAs old.taken piece rest new.bad new.rest

-- the place of a fault that stands behind so many bytes of the piece
abbrev pub told_behind : ℕ → ℕ → Option ℕ → Option ℕ
told_behind from count None = None
told_behind from count (Some at_byte) = Some (told (from + (count + at_byte)))

-- the same of bytes from the beginning of a frame on
abbrev pub TailIs : List ℕ → List ℕ → Place → List ℕ → Option ℕ → Type 0
TailIs bytes rest place kept None = (kept ≡ rest) × IsAt place rest
TailIs bytes rest place kept (Some at_byte) =
    (kept ≡ []) × (place ≡ Start)
    × ((count : ℕ) × Breaks rest count × (at_byte + length rest ≡ length bytes + count))

pub record Reads (bytes : List ℕ) (old new : List Frame) (place : Place) (kept : List ℕ) (bad : Option ℕ) : Type 0 where
  pub frames : List Frame
  pub rest : List ℕ
  pub each : AreFrames frames
  pub added : new ≡ old ++ frames
  pub stand : bytes ≡ spelling frames ++ rest
  pub ends : TailIs bytes rest place kept bad
