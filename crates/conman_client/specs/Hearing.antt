-- What a decoder has heard of a workstation: for the inside of this crate.
use Rattle.std.specs.Prelude.{◌≡◌, ℕ, List, Option, None}
use Rattle.outside.specs.Calls.{LinkCalls}
use Rattle.outside.specs.declared.links.Arrival.{Arrival}
use Rattle.mail_frames.specs.declared.frames.Frame.{Frame}
use Rattle.mail_frames.specs.Decoding.{Decoding, Took}
use Rattle.mail_frames.specs.Streams.{AreFramesOf}
use Rattle.conman_client.specs.Replies.{bytes_of, first_reply, IsNoneBefore}
use Rattle.conman_client.specs.Asks.{Tells, polled}

-- it took the stream of the workstation, and this is the first reply among the frames that it gave
pub record Heard (decoder : Decoding) (ws : ℕ) (arrivals : List Arrival) (reply : Option (List ℕ)) : Type 0 where
  pub given : List Frame
  pub took : Took decoder (bytes_of ws arrivals) given
  pub frames : AreFramesOf (bytes_of ws arrivals) given
  pub first : first_reply given ≡ reply

-- it was polled, and no reply is whole
pub record Waits (decoder : Decoding) (ws : ℕ) (arrivals : List Arrival) (old new : LinkCalls) : Type 0 where
  pub tells : Tells (polled arrivals) old new
  pub before : IsNoneBefore ws arrivals
  pub heard : Heard decoder ws arrivals None
