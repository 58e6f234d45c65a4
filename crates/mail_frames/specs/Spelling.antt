-- How a frame is spelled, and which frames there are.
use Rattle.std.specs.Prelude.{◌≡◌, ◌+◌, ◌≤◌, ℕ, List, ◌++◌, length}
use Rattle.std.specs.List.{AllByRecursion}
use Rattle.std.specs.Str.{IsUtf8}
use Rattle.model.specs.Fields.{u8_bytes, u32_bytes}
use Rattle.model.specs.Spelling.{feed_bytes}
use Rattle.model.specs.Ranges.{IsU8, IsU32, FeedInRange}
use Rattle.model.specs.Types.{Feed}
use Rattle.mail_frames.specs.declared.frames.Frame.{Frame}
use Rattle.mail_frames.specs.declared.frames.Frame.TheVariants.{Mail, Ack, Command, Reply}

-- the byte that tells what the frame holds
abbrev pub kind_of : Frame → ℕ
kind_of (Mail entry) = 1
kind_of (Ack feed count) = 2
kind_of (Command text) = 3
kind_of (Reply text) = 4

-- what the frame holds
abbrev pub content_of : Frame → List ℕ
content_of (Mail entry) = entry
content_of (Ack feed count) = feed_bytes feed ++ u32_bytes count
content_of (Command text) = text
content_of (Reply text) = text

-- a length that counts what follows, the kind and the content
abbrev pub frame_bytes : Frame → List ℕ
frame_bytes f = u32_bytes (1 + length (content_of f)) ++ u8_bytes (kind_of f) ++ content_of f

-- the content is no longer than its kind allows
abbrev pub IsSendable : Frame → Type 0
IsSendable (Mail entry) = length entry ≤ 4194304
IsSendable (Ack feed count) = Unit {0}
IsSendable (Command text) = length text ≤ 4096
IsSendable (Reply text) = length text ≤ 1048576

-- numbers are in their ranges, and texts are UTF-8
abbrev pub FrameInRange : Frame → Type 0
FrameInRange (Mail entry) = AllByRecursion IsU8 entry
FrameInRange (Ack feed count) = FeedInRange feed × IsU32 count
FrameInRange (Command text) = IsUtf8 text
FrameInRange (Reply text) = IsUtf8 text

-- a frame that can be sent: the numbers and texts of the program's types, and no longer than its kind allows
abbrev pub IsFrame : Frame → Type 0
IsFrame f = FrameInRange f × IsSendable f

-- the bytes are those of the frame
abbrev pub FrameBytes : Frame → List ℕ → Type 0
FrameBytes f bytes = IsFrame f × (bytes ≡ frame_bytes f)

-- the bytes are those of one frame
abbrev pub IsSpelled : List ℕ → Type 0
IsSpelled bytes = (f : Frame) × FrameBytes f bytes

-- the content of an acknowledgement
abbrev pub IsAckContent : List ℕ → Type 0
IsAckContent bytes =
    (feed : Feed) × (count : ℕ) × FeedInRange feed × IsU32 count × (bytes ≡ feed_bytes feed ++ u32_bytes count)

-- the acknowledgement that has it
abbrev pub IsAckOf : List ℕ → Frame → Type 0
IsAckOf bytes f = (kind_of f ≡ 2) × FrameInRange f × (bytes ≡ content_of f)
