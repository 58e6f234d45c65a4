-- A fact of a list at each count of its elements, as the changes of its value.
use Rattle.std.specs.Prelude.{ℕ, ◌+◌, ◌++◌, ◌<◌, ◌∷◌, ◌≡◌, ◌≤◌, [], Bool, List, cond, length, take, true, unwrap_or}
use Rattle.indexmap.specs.IndexMap.{get}
use Rattle.owner_rows.specs.Tables.{keys_meet, same_key}
use Rattle.model.specs.Types.{Body, Entry, Events}
use Rattle.model.specs.History.{list_of}
use Rattle.counted_facts.specs.declared.timelines.Timelines.{Timelines}

-- how many changes of a number there are in the list of a workstation
abbrev pub count_in : {R : Type 0} → Timelines R → ℕ × ℕ → ℕ
count_in t q = unwrap_or (get same_key t.counts q) 0

-- a change by workstation, number and its own number from 1; what is not there holds from the beginning
abbrev pub change_in : {R : Type 0} → Timelines R → ℕ × (ℕ × ℕ) → ℕ × R
change_in t q = unwrap_or (get (keys_meet same_key) t.changes q) (0, t.first)

-- the value of the last change at or before a count
pub record IsValueAt {R : Type 0} (count : ℕ) (change : ℕ → ℕ × R) (n : ℕ) (value : R) : Type 0 where
  pub found : ℕ
  pub within : found ≤ count
  pub here : (change found).0 ≤ n
  pub next : found < count → n < (change (found + 1)).0
  pub is_it : value ≡ (change found).1

-- one change more of a number
pub record HasOneMore {R : Type 0} (k : ℕ × ℕ) (from : ℕ) (value : R) (old new : Timelines R) : Type 0 where
  pub counts : (q : ℕ × ℕ) → count_in new q ≡ cond (same_key k q) (count_in old k + 1) (count_in old q)
  pub changes :
      (q : ℕ × (ℕ × ℕ))
      → change_in new q
      ≡ cond (keys_meet same_key (k.0, (k.1, count_in old k + 1)) q) (from, value) (change_in old q)

-- the changes tell the fact of the first so many elements, for any number of them
pub record IsTimelineOf
    {X : Type 0}
    (fact : List Body → X)
    (count : ℕ)
    (change : ℕ → ℕ × X)
    (events : List Body) : Type 0 where
  pub begins : (change 0).0 ≡ 0
  pub within : (i : ℕ) → i ≤ count → (change i).0 ≤ length events
  pub tells :
      (n i : ℕ) → n ≤ length events → i ≤ count → (change i).0 ≤ n → (i < count → n < (change (i + 1)).0)
      → fact (take n events) ≡ (change i).1

-- the changes of each number tell its fact, in the list of each workstation
abbrev pub AreTimelines : {X : Type 0} → (ℕ → List Body → X) → List Entry → Timelines X → Type 0
AreTimelines fact G t =
    (w n : ℕ)
    → IsTimelineOf (fact n) (count_in t (w, n)) (λ i. change_in t (w, (n, i))) (list_of G (Events w))

-- the same where one entry more is told of these numbers, and not yet of the others
abbrev pub AreHalfTold : {X : Type 0} → (ℕ → List Body → X) → List Entry → Entry → (ℕ → Bool) → Timelines X → Type 0
AreHalfTold fact G e done t =
    (w n : ℕ)
    → IsTimelineOf (fact n) (count_in t (w, n)) (λ i. change_in t (w, (n, i)))
    (list_of (cond (done n) (G ++ e ∷ []) G) (Events w))

-- an entry in the list of w at this place, and that a fact of these numbers is then the place
pub record TellsPlace
    (fact : ℕ → List Body → ℕ)
    (G : List Entry)
    (e : Entry)
    (w place : ℕ)
    (these : ℕ → Bool) : Type 0 where
  pub feed : Events w ≡ e.feed
  pub next : place ≡ length (list_of G (Events w)) + 1
  pub value : (n : ℕ) → these n ≡ true → fact n (list_of (G ++ e ∷ []) (Events w)) ≡ place
