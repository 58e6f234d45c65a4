-- What came over each link since it began.
use Rattle.std.specs.Prelude.{[], ℕ, ◌++◌, ◌==◌, ◌≡◌, List, None, Option, Some, find}
use Rattle.mail_frames.specs.declared.frames.Frame.{Frame}
use Rattle.mail_frames.specs.Decoding.{Took}
use Rattle.mail_frames.specs.Streams.{AreFramesOf, IsBadAt}
use Rattle.node_loop.specs.declared.streams.Stream.{Stream}

-- the bytes that came, and the frames that stand whole in them
pub record Heard : Type 0 where
  pub bytes : List ℕ
  pub frames : List Frame

-- nothing came
abbrev pub nothing_heard : Heard
nothing_heard = record { bytes = []; frames = [] }

-- more bytes came, and completed these frames
abbrev pub heard_more : Heard → List ℕ → List Frame → Heard
heard_more heard bytes frames = record { bytes = heard.bytes ++ bytes; frames = heard.frames ++ frames }

-- bytes of a workstation of which this was heard: the frames that they complete, and whether its stream went wrong
pub record Completes (heard : Heard) (bytes : List ℕ) (frames : List Frame) (bad : Option ℕ) : Type 0 where
  pub whole : AreFramesOf (heard.bytes ++ bytes) (heard.frames ++ frames)
  pub wrong : IsBadAt (heard.bytes ++ bytes) bad

-- the decoder of a workstation from which bytes came
abbrev pub stream_of : List Stream → ℕ → Option Stream
stream_of streams x = find (λ (s : Stream). s.ws == x) streams

abbrev pub IsHeardBy : Option Stream → Heard → Type 0
IsHeardBy None heard = heard ≡ nothing_heard
IsHeardBy (Some s) heard = Took s.decoder heard.bytes heard.frames

-- the decoders took what was heard of each workstation
abbrev pub AreHeard : List Stream → (ℕ → Heard) → Type 0
AreHeard streams heard = (x : ℕ) → IsHeardBy (stream_of streams x) (heard x)
