-- What others wait for.
use Rattle.std.specs.Prelude.{[], ℕ, ◌||◌, Bool, List, None, fold, unwrap_or}
use Rattle.model.specs.Types.{Body, Job, Stream}
use Rattle.model.specs.Words.{has}
use Rattle.model.specs.Catalogue.{members_with}
use Rattle.model.specs.Facts.{is_cancelled, is_ended, is_good, is_released, stream_limit}
use Rattle.counted_facts.specs.declared.streams.StreamTold.{StreamTold}

-- job j is good or cancelled
abbrev pub is_done : ℕ → List Body → Bool
is_done j events = is_good j events || is_cancelled (Job j) events

-- what is told of stream s, and the limit that was set for it
abbrev pub stream_told : ℕ → List Body → StreamTold
stream_told s events =
    record {
      released = is_released s events;
      ended = is_ended s events;
      cancelled = is_cancelled (Stream s) events;
      limit = stream_limit s None events;
    }

-- the last plan among these events or an added stream after it names stream s
abbrev pub is_named : ℕ → List Body → Bool
is_named s events = has (unwrap_or (fold members_with None events) []) s
