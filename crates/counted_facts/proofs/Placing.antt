-- The place of the last body that says yes, one body further.
use Rattle.std.proofs.Common.{[], ℕ, ◌+◌, ◌++◌, ◌∙◌, ◌∷◌, ◌≡◌, Bool, List, None, Option, Some, ap, arith, false, length}
use Rattle.std.proofs.Common.{sym, true}
use Rattle.std.specs.Bool.{then_some}
use Rattle.std.specs.Prelude.{◌||◌}
use Rattle.model.specs.Types.{Body, Entry, Events, Orders}
use Rattle.model.specs.History.{list_of}
use Rattle.counted_facts.specs.Places.{last_place, place_from, place_with}
use Rattle.counted_facts.specs.Timelines.{AreHalfTold, AreTimelines, TellsPlace}
use Rattle.counted_facts.specs.declared.timelines.Timelines.{Timelines}
use Rattle.counted_facts.proofs.Steps.{all_told, grown}

place_from_with : (say : Body → Option Bool) (passed found : ℕ) (xs : List Body) (b : Body)
    → place_from say passed found (xs ++ b ∷ [])
    ≡ place_with (say b) (passed + length xs + 1) (place_from say passed found xs)
place_from_with say passed found [] b =
    let e : passed + 1 ≡ passed + 0 + 1 = omega arith in
    ap (λ (m : ℕ). place_with (say b) m found) e
place_from_with say passed found (x ∷ xs) b =
    let e : passed + 1 + length xs + 1 ≡ passed + length (x ∷ xs) + 1 = omega arith in
    place_from_with say (passed + 1) (place_with (say x) (passed + 1) found) xs b
    ∙ ap (λ (m : ℕ). place_with (say b) m (place_from say (passed + 1) (place_with (say x) (passed + 1) found) xs)) e

pub place_more : (say : Body → Option Bool) (xs : List Body) (b : Body)
    → last_place say (xs ++ b ∷ []) ≡ place_with (say b) (length xs + 1) (last_place say xs)
place_more say xs b =
    let e : 0 + length xs + 1 ≡ length xs + 1 = omega arith in
    place_from_with say 0 0 xs b ∙ ap (λ (m : ℕ). place_with (say b) m (last_place say xs)) e

module _ (say : ℕ → Body → Option Bool) where
  abbrev pub told : ℕ → List Body → ℕ
  told n events = last_place (say n) events

  -- a body that says nothing
  pub quiet_place : (events : List Body) (b : Body) (n : ℕ) → say n b ≡ None → told n (events ++ b ∷ []) ≡ told n events
  quiet_place events b n h =
      place_more (say n) events b
      ∙ ap (λ (o : Option Bool). place_with o (length events + 1) (told n events)) h

  -- one that says yes
  placed_here : (events : List Body) (b : Body) (n place : ℕ) → say n b ≡ Some true → place ≡ length events + 1
      → told n (events ++ b ∷ []) ≡ place
  placed_here events b n place h next =
      place_more (say n) events b
      ∙ ap (λ (o : Option Bool). place_with o (length events + 1) (told n events)) h ∙ sym next

  -- an entry that says yes of these, and nothing of others
  pub say_tells : (G : List Entry) (e : Entry) (w place : ℕ) (these : ℕ → Bool) → Events w ≡ e.feed
      → place ≡ length (list_of G (Events w)) + 1 → ((n : ℕ) → say n e.body ≡ then_some (these n) true)
      → TellsPlace told G e w place these
  say_tells G e w place these here next says =
      record {
        feed = here;
        next = next;
        value = λ n h. ap (told n) (grown told G e w here)
            ∙ placed_here (list_of G (Events w)) e.body n place
            (says n ∙ ap (λ (b : Bool). then_some b true) h) next;
      }

  pub say_all : (G : List Entry) (e : Entry) (these : ℕ → Bool) (t : Timelines ℕ)
      → ((n : ℕ) → say n e.body ≡ then_some (these n) true) → AreHalfTold told G e (λ m. false || these m) t
      → AreTimelines told (G ++ e ∷ []) t
  say_all G e these t says h =
      all_told told G e these t h
      (λ w n here f. quiet_place (list_of G (Events w)) e.body n
      (says n ∙ ap (λ (b : Bool). then_some b true) f))

  -- orders say nothing
  pub say_orders : (G : List Entry) (e : Entry) (a v : ℕ) (t : Timelines ℕ) → e.feed ≡ Orders a v
      → AreTimelines told G t → AreTimelines told (G ++ e ∷ []) t
  say_orders G e a v t is h =
      all_told told G e (λ m. false) t h (λ w n here f. absurd (apart w (here ∙ is)))
    where
      apart : (w : ℕ) → Events w ≡ Orders a v → ⊥
      apart w k = cc
