-- What the row of a stream tells of the events of one workstation.
use Rattle.std.specs.Bool.{then_some}
use Rattle.std.specs.Option.{option_or}
use Rattle.std.specs.Prelude.{ℕ, ◌==◌, ◌||◌, ◌≡◌, List, None, Option}
use Rattle.model.specs.Types.{Body, Obeyed, StreamLimit}
use Rattle.model.specs.Facts.{is_end_of, is_ended, is_release_of, is_released, stream_limit}
use Rattle.owner_rows.specs.declared.streams.StreamRow.{StreamRow}

-- the limit that a body sets for stream s
abbrev pub limit_said : ℕ → Body → Option ℕ
limit_said s (Obeyed a k (StreamLimit t n)) = then_some (s == t) n
limit_said s _ = None

-- the row of stream s tells these events
pub record IsStreamRow (events : List Body) (s : ℕ) (r : StreamRow) : Type 0 where
  pub released : r.released ≡ is_released s events
  pub ended : r.ended ≡ is_ended s events
  pub limit : (written : Option ℕ) → option_or r.limit written ≡ stream_limit s written events

-- the row after one more body
abbrev pub stream_with : ℕ → Body → StreamRow → StreamRow
stream_with s b r = record {
  released = r.released || is_release_of s b;
  ended = r.ended || is_end_of s b;
  limit = option_or (limit_said s b) r.limit;
}
