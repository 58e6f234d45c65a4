-- What a workstation said by what came over a link: its bytes, and the first reply among their frames.
use Rattle.std.specs.Prelude.{◌≡◌, ◌==◌, ◌<◌, ℕ, List, [], length, take, flat_map, filter_map, slice_get, if◌then◌else◌, Option, None, Some}
use Rattle.outside.specs.declared.links.Arrival.{Arrival}
use Rattle.outside.specs.declared.links.Arrival.TheVariants.{Bytes}
use Rattle.mail_frames.specs.declared.frames.Frame.{Frame}
use Rattle.mail_frames.specs.declared.frames.Frame.TheVariants.{Reply}
use Rattle.mail_frames.specs.Streams.{AreFramesOf}

-- what came of the workstation with an arrival
abbrev pub bytes_in : ℕ → Arrival → List ℕ
bytes_in ws (Bytes from bytes) = if from == ws then bytes else []
bytes_in ws arrival = []

-- what came of it with all of them: its stream
abbrev pub bytes_of : ℕ → List Arrival → List ℕ
bytes_of ws arrivals = flat_map (bytes_in ws) arrivals

-- the text of a reply
abbrev pub reply_of : Frame → Option (List ℕ)
reply_of (Reply text) = Some text
reply_of frame = None

-- the text of the first reply among frames
abbrev pub first_reply : List Frame → Option (List ℕ)
first_reply frames = slice_get (filter_map reply_of frames) 0

-- The text of the first reply among the whole frames of the workstation's stream, or None where no reply is whole.
-- Behind a fault of the stream there is no frame.
abbrev pub IsFirstReply : ℕ → List Arrival → Option (List ℕ) → Type 0
IsFirstReply ws arrivals reply =
    (frames : List Frame) × AreFramesOf (bytes_of ws arrivals) frames × (first_reply frames ≡ reply)

-- no reply was whole before the last of the arrivals
abbrev pub IsNoneBefore : ℕ → List Arrival → Type 0
IsNoneBefore ws arrivals = (n : ℕ) → n < length arrivals → IsFirstReply ws (take n arrivals) None
