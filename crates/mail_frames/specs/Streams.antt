-- Streams of frames: which bytes begin a list of frames, which frames stand whole in a stream, and where it goes wrong.
use Rattle.std.specs.Prelude.{◌≡◌, ◌<◌, ◌≤◌, ℕ, List, ◌++◌, length, min, flat_map, Option, None, Some}
use Rattle.std.specs.List.{AllByRecursion}
use Rattle.mail_frames.specs.declared.frames.Frame.{Frame}
use Rattle.mail_frames.specs.Spelling.{frame_bytes, IsFrame, FrameBytes}

-- each of them can be sent
abbrev pub AreFrames : List Frame → Type 0
AreFrames frames = AllByRecursion IsFrame frames

-- the bytes of the frames, one behind the other
abbrev pub spelling : List Frame → List ℕ
spelling frames = flat_map frame_bytes frames

-- the bytes begin some list of frames
abbrev pub Begins : List ℕ → Type 0
Begins bytes = (frames : List Frame) × (more : List ℕ) × AreFrames frames × (bytes ++ more ≡ spelling frames)

-- the longest beginning of the stream that begins some list of frames
pub record IsLongest (stream good : List ℕ) : Type 0 where
  pub rest : List ℕ
  pub stands : stream ≡ good ++ rest
  pub begins : Begins good
  pub longest : (longer more : List ℕ) → stream ≡ longer ++ more → Begins longer → length longer ≤ length good

-- these frames stand at the front of the bytes, and behind them no whole one
pub record AreAllWhole (bytes : List ℕ) (frames : List Frame) : Type 0 where
  pub rest : List ℕ
  pub each : AreFrames frames
  pub stand : bytes ≡ spelling frames ++ rest
  pub last : (f : Frame) (more : List ℕ) → IsFrame f → rest ≡ frame_bytes f ++ more → ⊥

-- all whole frames of the longest beginning of the stream that begins some list of frames
abbrev pub AreFramesOf : List ℕ → List Frame → Type 0
AreFramesOf stream frames = (good : List ℕ) × IsLongest stream good × AreAllWhole good frames

-- a place in the stream, or the greatest number of eight bytes where the place is above it
abbrev pub told : ℕ → ℕ
told place = min place 18446744073709551615

-- None: the stream begins some list of frames. Some: it does not, and that is the place of its first byte that no list
-- of frames has there
abbrev pub IsBadAt : List ℕ → Option ℕ → Type 0
IsBadAt stream None = Begins stream
IsBadAt stream (Some place) =
    (Begins stream → ⊥) × (good : List ℕ) × IsLongest stream good × (place ≡ told (length good))

-- less than one whole frame
abbrev pub IsFront : List ℕ → Type 0
IsFront bytes = (f : Frame) × (more : List ℕ) × (0 < length more) × FrameBytes f (bytes ++ more)
