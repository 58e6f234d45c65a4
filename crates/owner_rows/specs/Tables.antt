-- Tables of rows by workstation and number, or by workstation and two numbers.
use Rattle.std.proofs.Math.Dec.{eqb}
use Rattle.std.specs.Prelude.{ℕ, ◌&&◌, ◌==◌, Bool, List, Option, unwrap_or}
use Rattle.indexmap.specs.IndexMap.{get}
use Rattle.model.specs.Types.{Body, Entry, Events}
use Rattle.model.specs.History.{list_of}
use Rattle.owner_rows.specs.declared.tables.PairTable.{PairTable}
use Rattle.owner_rows.specs.declared.tables.Table.{Table}

-- one workstation, and what this tells to be one
abbrev pub keys_meet : {N : Type 0} → (N → N → Bool) → ℕ × N → ℕ × N → Bool
keys_meet one p q = (p.0 == q.0) && one p.1 q.1

-- one workstation and number
abbrev pub same_key : ℕ × ℕ → ℕ × ℕ → Bool
same_key p q = keys_meet eqb p q

-- the row that was put there
abbrev pub has_row : {R : Type 0} → Table R → ℕ × ℕ → Option R
has_row t q = get same_key t.rows q

-- the row that counts there
abbrev pub row_in : {R : Type 0} → Table R → ℕ × ℕ → R
row_in t q = unwrap_or (has_row t q) t.blank

-- the same by two numbers
abbrev pub has_pair_row : {R : Type 0} → PairTable R → ℕ × (ℕ × ℕ) → Option R
has_pair_row t q = get (keys_meet same_key) t.rows q

abbrev pub pair_row_in : {R : Type 0} → PairTable R → ℕ × (ℕ × ℕ) → R
pair_row_in t q = unwrap_or (has_pair_row t q) t.blank

-- each row is that of its two numbers
abbrev pub ArePairRows : {R : Type 0} → (List Body → ℕ × ℕ → R → Type 0) → List Entry → PairTable R → Type 0
ArePairRows Is kept t = (w : ℕ) (n : ℕ × ℕ) → Is (list_of kept (Events w)) n (pair_row_in t (w, n))

-- each row is that of its number, in the events of its workstation
abbrev pub AreRows : {R : Type 0} → (List Body → ℕ → R → Type 0) → List Entry → Table R → Type 0
AreRows Is kept t = (w n : ℕ) → Is (list_of kept (Events w)) n (row_in t (w, n))
