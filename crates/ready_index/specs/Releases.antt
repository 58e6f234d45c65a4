-- Which own members wait for their release, as far as an index knows.
use Rattle.std.specs.Option.{option_map_or}
use Rattle.std.specs.Prelude.{[], ℕ, ◌==◌, ◌∷◌, ◌≡◌, ◌⊎◌, Bool, List, false, not, true}
use Rattle.model.specs.Types.{Events, Stream, StreamDoc}
use Rattle.model.specs.Words.{all_of}
use Rattle.model.specs.History.{View}
use Rattle.model.specs.Catalogue.{is_member, stream}
use Rattle.model.specs.Facts.{is_cancelled, is_released}
use Rattle.ready_index.specs.Awaited.{held_back_by}
use Rattle.ready_index.specs.Lists.{Among}
use Rattle.ready_index.specs.Watched.{waiting_for}
use Rattle.ready_index.specs.declared.releases.Releases.{Releases}
use Rattle.ready_index.specs.declared.targets.Target.{Target}
use Rattle.ready_index.specs.declared.watches.Watches.{Watches}

-- an own member of w that is neither released nor cancelled
abbrev pub waits_in : View → ℕ → StreamDoc → Bool
waits_in V w doc =
    all_of
    ((doc.ws == w)
    ∷ is_member V doc.no
    ∷ not (is_released doc.no (V (Events w)))
    ∷ not (is_cancelled (Stream doc.no) (V (Events w)))
    ∷ [])

-- stream s waits at w for its release
unfoldable pub waits_here : View → ℕ → ℕ → Bool
waits_here V w s = option_map_or (waits_in V w) (stream V s) false

-- a stream watches something that holds it back
pub record IsStreamWatching (V : View) (watches : Watches) (s : ℕ) : Type 0 where
  pub target : Target
  pub watching : Among s (waiting_for watches target)
  pub holds : Among target (held_back_by V (Stream s))

-- a stream is a candidate or watches something that holds it back
abbrev pub IsStreamKnown : View → Releases → ℕ → Type 0
IsStreamKnown V releases s = Among s releases.candidates ⊎ IsStreamWatching V releases.watches s

-- each stream that waits at w is known, but for those of these numbers
pub record KnowsWaitingBut (V : View) (w : ℕ) (numbers : List ℕ) (releases : Releases) : Type 0 where
  pub known : (s : ℕ) → waits_here V w s ≡ true → IsStreamKnown V releases s ⊎ Among s numbers

-- each stream that waits at w is a candidate or watches something that holds it back
abbrev pub KnowsWaiting : View → ℕ → Releases → Type 0
KnowsWaiting V w releases = KnowsWaitingBut V w [] releases

-- the stream of this number, if it waits, is known then, and nobody else gets lost
pub record IsStreamLookedAt (V : View) (w number : ℕ) (old new : Releases) : Type 0 where
  pub candidates : (s : ℕ) → Among s old.candidates → Among s new.candidates
  pub watches :
      (t : Target) (s : ℕ) → Among s (waiting_for old.watches t) → Among s (waiting_for new.watches t)
  pub known : waits_here V w number ≡ true → IsStreamKnown V new number
