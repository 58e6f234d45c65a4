-- What is written of a world, with the room that there is for more, which contracts of the world do not see.
use Rattle.std.specs.Option.{option_map_or}
use Rattle.std.specs.Prelude.{◌≡◌, ◌+◌, ◌++◌, ◌<◌, ◌≤◌, ◌^◌, ℕ, List, Option, Some, count_by, filter_map, length}
use Rattle.model.specs.Types.{Entry, Out}
use Rattle.model.specs.Sizes.{entry_size}
use Rattle.model.specs.World.{Origin, history_with, is_send, start_in}
use Rattle.network_world.specs.Stations.{Journal}
use Rattle.network_world.specs.Refusals.{limit_at}
use Rattle.network_world.specs.declared.journals.Journal as raw
use Rattle.network_world.specs.declared.refusals.StepRefused.{StepRefused}
use Rattle.network_world.specs.declared.refusals.StepRefused.TheVariants.{Limit}

-- a journal as the world sees it
abbrev pub seen : raw.Journal → Journal
seen j =
    record { history = j.history.items; starts = j.starts.items; taken = j.taken; sent = j.sent; kept = j.kept }

-- there is room for an entry and for a start
pub record HasRoom (j : raw.Journal) : Type 0 where
  pub history_ : 1 ≤ j.history.spare
  pub starts_ : 1 ≤ j.starts.spare

-- the limit that is told is the one that these numbers reached
abbrev pub IsLimitDue : ℕ → ℕ → ℕ → StepRefused → Type 0
IsLimitDue taken sent kept (Limit l) = limit_at taken sent kept ≡ Some l
IsLimitDue taken sent kept _ = ⊥

-- one step more of w was written down, with the launches that it started and how many packets it sent
pub record HasStarts (w : ℕ) (outs : List Out) (old new : raw.Journal) : Type 0 where
  pub history_ : new.history ≡ old.history
  pub starts_ : new.starts.items ≡ old.starts.items ++ filter_map (start_in w) outs
  pub taken_ : new.taken ≡ 1 + old.taken
  pub sent_ : new.sent ≡ old.sent + count_by is_send outs
  pub kept_ : new.kept ≡ old.kept

-- a step of w that gave this out and kept this can be written down: there is room, and no count passes its field
pub record CanNote (w : ℕ) (outs : List Out) (made : Option Entry) (j : raw.Journal) : Type 0 where
  pub history_ : 1 ≤ j.history.spare
  pub starts_ : length (filter_map (start_in w) outs) ≤ j.starts.spare
  pub taken_ : j.taken + 1 < 2 ^ 32
  pub sent_ : j.sent + count_by is_send outs < 2 ^ 32
  pub kept_ : j.kept + option_map_or entry_size made 0 < 2 ^ 32
  pub size_ : option_map_or entry_size made 0 ≤ 4194304

-- a step of w that gave this out and kept this was written down; an entry of its own came to the end of the history
pub record HasNoted (o : Origin) (w : ℕ) (outs : List Out) (made : Option Entry) (old new : Journal) : Type 0 where
  pub history_ : new.history ≡ history_with o old.history made
  pub starts_ : new.starts ≡ old.starts ++ filter_map (start_in w) outs
  pub taken_ : new.taken ≡ 1 + old.taken
  pub sent_ : new.sent ≡ old.sent + count_by is_send outs
  pub kept_ : new.kept ≡ old.kept + option_map_or entry_size made 0
