-- What a decoder knows of the stream that it has taken.
use Rattle.std.specs.Prelude.{◌≡◌, ℕ, List, ◌++◌, length, Option, None, Some}
use Rattle.mail_frames.specs.declared.frames.Frame.{Frame}
use Rattle.mail_frames.specs.Streams.{AreFrames, spelling, AreFramesOf, told, IsBadAt, IsFront}

-- the bytes of the unfinished frame, how many bytes were taken in all, and where the stream went wrong
pub record Decoding : Type 0 where
  pub rest : List ℕ
  pub taken : ℕ
  pub bad : Option ℕ

abbrev pub TookBy : Option ℕ → Decoding → List ℕ → List Frame → Type 0
TookBy None d stream given =
    AreFrames given × (stream ≡ spelling given ++ d.rest) × IsFront d.rest × (d.taken ≡ told (length stream))
TookBy (Some place) d stream given = AreFramesOf stream given × IsBadAt stream (Some place)

-- The decoder is as it is once it has taken this stream and given these frames: while the stream is good, it is the
-- frames' bytes and those of an unfinished one; once it is bad, the frames and the place are those of the stream.
abbrev pub Took : Decoding → List ℕ → List Frame → Type 0
Took d stream given = TookBy d.bad d stream given
