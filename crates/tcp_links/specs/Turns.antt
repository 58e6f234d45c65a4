-- In which order a line tells what comes over it.
use Rattle.std.specs.Prelude.{◌≡◌, ℕ, Bool, true, false}
use Rattle.outside.specs.declared.links.Arrival.{Arrival}
use Rattle.outside.specs.declared.links.Arrival.TheVariants.{Bytes, Up, Down, Client, Nothing, NoMemory}

-- What the line to a workstation may tell, where it was up before and is up after: a beginning where it is down, an end
-- where it is up, bytes where it is up, and never a client.
abbrev pub InTurn : ℕ → Bool → Arrival → Bool → Type 0
InTurn ws before (Up from) after = (from ≡ ws) × (before ≡ false) × (after ≡ true)
InTurn ws before (Down from) after = (from ≡ ws) × (before ≡ true) × (after ≡ false)
InTurn ws before (Bytes from bytes) after = (from ≡ ws) × (before ≡ true) × (after ≡ true)
InTurn ws before (Client bytes) after = ⊥
InTurn ws before Nothing after = after ≡ before
InTurn ws before NoMemory after = after ≡ before
