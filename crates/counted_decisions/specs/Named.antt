-- Workstations that may be named.
use Rattle.std.specs.Prelude.{ℕ, ◌==◌, ◌||◌, ◌≡◌, Bool, List, nat_eq}
use Rattle.indexmap.specs.IndexSet.{IndexSet, contains}
use Rattle.model.specs.Words.{has}

-- these are among them, and of all others those that were
abbrev pub AddsAll : {S : Type 0} → List ℕ → IndexSet ℕ S → IndexSet ℕ S → Type 0
AddsAll ws old new = (v : ℕ) → contains nat_eq new v ≡ (has ws v || contains nat_eq old v)

-- it is w, the master or one of these
abbrev pub may_name : {S : Type 0} → IndexSet ℕ S → ℕ → ℕ → Bool
may_name named w v = (w == v) || ((0 == v) || contains nat_eq named v)
