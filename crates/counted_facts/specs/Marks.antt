-- One more launch is counted, or put among others.
use Rattle.std.specs.Prelude.{ℕ, ◌+◌, ◌<◌, ◌^◌, ◌||◌, ◌≡◌, Bool, None, Option, Some, cond, false, nat_eq, unwrap_or}
use Rattle.indexmap.specs.IndexMap.{IndexMap, get}
use Rattle.indexmap.specs.IndexSet.{IndexSet, contains}
use Rattle.model.specs.Words.{some_is}
use Rattle.counted_facts.specs.Keys.{Key, same_key}

-- the count of this job is one more, and all others stay
abbrev pub CountsOne : {S : Type 0} → Option ℕ → IndexMap ℕ ℕ S → IndexMap ℕ ℕ S → Type 0
CountsOne job old new =
    (q : ℕ) → unwrap_or (get nat_eq old q) 0 + 1 < 2 ^ 32
    → unwrap_or (get nat_eq new q) 0 ≡ cond (some_is job q) 1 0 + unwrap_or (get nat_eq old q) 0

-- it is this launch
abbrev pub is_key : Option Key → Key → Bool
is_key None q = false
is_key (Some k) q = same_key k q

-- this launch is among them, and of all others those that were
abbrev pub MarksOne : {S : Type 0} → Option Key → IndexSet Key S → IndexSet Key S → Type 0
MarksOne key old new = (q : Key) → contains same_key new q ≡ (is_key key q || contains same_key old q)
