-- What reading an input to its end, and writing a whole text, did.
use Rattle.std.specs.Prelude.{◌≡◌, ◌≤◌, ◌++◌, ℕ, List, length, Result, Ok, Err}
use Rattle.std.specs.declared.option.Option.{Option}
use Rattle.std.specs.Io.KnownBytes.{Appends}
use Rattle.outside.specs.Causes.{Rose}
use Rattle.outside.specs.Streams.{Stream, Takes}
use Rattle.whole_io.specs.declared.ReadError.{ReadError}
use Rattle.whole_io.specs.declared.ReadError.TheVariants.{Fault, NoMemory, TooLong}

-- so many bytes were taken from the source
abbrev pub TakesCount : ℕ → Option Stream → Option Stream → Type 0
TakesCount count old new = (bytes : List ℕ) × (length bytes ≡ count) × Takes old new bytes

-- no more than so many bytes were taken from the source
abbrev pub TakesAtMost : ℕ → Option Stream → Option Stream → Type 0
TakesAtMost most old new = (bytes : List ℕ) × (length bytes ≤ most) × Takes old new bytes

-- the count of the source's faults rose where the answer is that it failed, and else stayed
abbrev pub FaultShows : {T : Type 0} → ℕ → ℕ → Result T ReadError → Type 0
FaultShows before now (Ok v) = now ≡ before
FaultShows before now (Err Fault) = (before ≤ now) × Rose before now
FaultShows before now (Err NoMemory) = now ≡ before
FaultShows before now (Err TooLong) = now ≡ before

-- what was written is a front of the text
abbrev pub WritesFront : Option (List ℕ) → Option (List ℕ) → List ℕ → Type 0
WritesFront old new text = (front : List ℕ) × (rest : List ℕ) × (text ≡ front ++ rest) × Appends old new front
