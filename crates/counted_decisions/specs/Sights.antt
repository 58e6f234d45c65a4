-- What a decision sees: of the entries that were taken those that its counts take in.
use Rattle.std.specs.List.{list_all}
use Rattle.std.specs.Prelude.{ℕ, ◌≡◌, ◌≤◌, Bool, List, length}
use Rattle.model.specs.Types.{Events}
use Rattle.model.specs.Words.{has}
use Rattle.model.specs.History.{Seen, View, count_in, list_of}
use Rattle.model.specs.Sound.{seen_view}
use Rattle.counted_facts.specs.Told.{AreCountedFacts}
use Rattle.counted_decisions.specs.declared.sights.Sight.{Sight}

-- the view of the counted entries
abbrev pub seen_in : Sight → View
seen_in s = seen_view s.owners.now s.seen.now

-- the facts are those of the entries, and of each workstation there are as many events as counted
pub record IsSight (s : Sight) : Type 0 where
  pub told : AreCountedFacts s.owners.now s.facts.now
  pub there : (v : ℕ) → count_in s.seen.now v ≤ length (list_of s.owners.now (Events v))

-- all events of w are counted
abbrev pub CountsAllOf : ℕ → Sight → Type 0
CountsAllOf w s = count_in s.seen.now w ≡ length (list_of s.owners.now (Events w))

-- each workstation that is counted is one of these
abbrev pub counts_only : List ℕ → Seen → Bool
counts_only ws seen = list_all (λ (p : ℕ × ℕ). has ws p.0) seen
