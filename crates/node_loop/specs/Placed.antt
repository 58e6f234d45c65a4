-- Where the stream of a workstation stands in a list of streams.
use Rattle.std.specs.Prelude.{ℕ, ◌==◌, ◌≡◌, List, None, Option, Some, false, slice_get, take}
use Rattle.std.specs.List.{list_any}
use Rattle.node_loop.specs.Heard.{stream_of}
use Rattle.node_loop.specs.declared.streams.Stream.{Stream}

-- the first of its workstation is at this place, or there is none
pub record IsFirst (streams : List Stream) (x i : ℕ) : Type 0 where
  pub stream : Stream
  pub there : slice_get streams i ≡ Some stream
  pub its : stream.ws ≡ x
  pub none_before : list_any (λ (s : Stream). s.ws == x) (take i streams) ≡ false

abbrev pub IsPlace : List Stream → ℕ → Option ℕ → Type 0
IsPlace streams x None = stream_of streams x ≡ None
IsPlace streams x (Some i) = IsFirst streams x i
