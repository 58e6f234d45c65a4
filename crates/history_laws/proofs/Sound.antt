-- Soundness asks nothing of FULLSTATUS.
use Rattle.std.proofs.Common.{◌≡◌, ◌++◌, ◌∷◌, [], ℕ, List, refl, ◌∙◌}
use Rattle.model.specs.Types.{Body, Entry, Feed, Events, Launched, Net, Orders, Released, Start, StreamEnded}
use Rattle.model.specs.Dependencies.{all_satisfied, has_units, is_met, prompt_is_answered}
use Rattle.model.specs.History.{View}
use Rattle.model.specs.OwnMembers.{may_release}
use Rattle.model.specs.Readiness.{is_ready}
use Rattle.model.specs.Sound.{EachFrom, IsSound, OfEvents, StandsOnItsPrefix, seen_view}
use Rattle.history_laws.specs.Printables.{as_printed}

ready_printed : (net : Net) (V : View) (w j : ℕ) → is_ready (as_printed net) V w j ≡ is_ready net V w j
unfolding is_ready all_satisfied is_met has_units prompt_is_answered
ready_printed net V w j = refl

release_printed : (net : Net) (V : View) (w s : ℕ) → may_release (as_printed net) V w s ≡ may_release net V w s
unfolding may_release all_satisfied is_met has_units prompt_is_answered
release_printed net V w s = refl

stands : (net : Net) (before : List Entry) (w : ℕ) (b : Body) → StandsOnItsPrefix net before w b
    → StandsOnItsPrefix (as_printed net) before w b
stands net before w (Launched j n seen) h =
    record { prefix = h.prefix; ready = ready_printed net (seen_view before seen) w j ∙ h.ready; number = h.number }
stands net before w (Released s seen) h =
    record { prefix = h.prefix; ready = release_printed net (seen_view before seen) w s ∙ h.ready }
stands net before w (StreamEnded s seen) h = h
stands net before w b h = tt

stands_in : (net : Net) (before : List Entry) (f : Feed) (n : ℕ) (b : Body)
    → OfEvents (StandsOnItsPrefix net before) (record { feed = f; place = n; body = b })
    → OfEvents (StandsOnItsPrefix (as_printed net) before) (record { feed = f; place = n; body = b })
stands_in net before (Events w) n b h = stands net before w b h
stands_in net before (Orders a w) n b h = tt

each_stands : (net : Net) (before entries : List Entry) → EachFrom (λ before e. OfEvents (StandsOnItsPrefix net before) e) before entries
    → EachFrom (λ before e. OfEvents (StandsOnItsPrefix (as_printed net) before) e) before entries
each_stands net before [] h = tt
each_stands net before (e ∷ entries) h =
    (stands_in net before e.feed e.place e.body h.0, each_stands net (before ++ e ∷ []) entries h.1)

pub sound_printed : (net : Net) (entries : List Entry) (starts : List Start) → IsSound net entries starts
    → IsSound (as_printed net) entries starts
sound_printed net entries starts h =
    record {
      places = h.places;
      prefixes = each_stands net [] entries h.prefixes;
      answers = h.answers;
      ends = h.ends;
      plans = h.plans;
      in_time = h.in_time;
      started = h.started;
    }
