-- Reading from left to right. A format is put together from fields, and a fault is the first one from the left.
use Rattle.std.specs.Prelude.{◌≡◌, ◌≢◌, ◌≤◌, ◌<◌, ◌^◌, ◌==◌, ℕ, List, Result, Ok, Err, length, if◌then◌else◌}
use Rattle.entry_codec.specs.declared.EntryFault.{EntryFault}
use Rattle.entry_codec.specs.declared.EntryFault.TheVariants.{TooMuch, NoMemory}

-- what stands in bytes from a place on: a value and the place behind it, or the first fault
abbrev pub Reader : Type 0 → Type 0
Reader X = List ℕ → ℕ → Result (X × ℕ) EntryFault

-- a value or a fault, and what comes of the value
abbrev pub and_then : {A B : Type 0} → Result A EntryFault → (A → Result B EntryFault) → Result B EntryFault
and_then (Ok a) f = f a
and_then (Err fault) f = Err fault

-- a value that takes no bytes
abbrev pub gives : {X : Type 0} → X → Reader X
gives x bytes p = Ok (x, p)

-- one part, and behind it another, whose form may go by the value of the first
unfoldable pub chain : {X Y : Type 0} → Reader X → (X → Reader Y) → Reader Y
chain first next bytes p = and_then (first bytes p) (λ x. next x.0 bytes x.1)

infixl 10 ◌>>=◌
abbrev pub ◌>>=◌ : {X Y : Type 0} → Reader X → (X → Reader Y) → Reader Y
first >>= next = chain first next

-- two parts that stand one behind the other
unfoldable pub pair : {A B : Type 0} → Reader A → Reader B → Reader (A × B)
pair a b = do
  x ← a
  y ← b
  gives (x, y)

-- a value of one part, of two, three or four that stand one behind the other
abbrev pub one : {A X : Type 0} → Reader A → (A → X) → Reader X
one a make = do
  x ← a
  gives (make x)

abbrev pub two : {A B X : Type 0} → Reader A → Reader B → (A → B → X) → Reader X
two {A} {B} a b make = one (pair a b) (λ (x : A × B). make x.0 x.1)

abbrev pub three : {A B C X : Type 0} → Reader A → Reader B → Reader C → (A → B → C → X) → Reader X
three {A} {B} {C} a b c make = one (pair (pair a b) c) (λ (x : (A × B) × C). make x.0.0 x.0.1 x.1)

abbrev pub four : {A B C D X : Type 0} → Reader A → Reader B → Reader C → Reader D → (A → B → C → D → X) → Reader X
four {A} {B} {C} {D} a b c d make =
    one (pair (pair (pair a b) c) d) (λ (x : ((A × B) × C) × D). make x.0.0.0 x.0.0.1 x.0.1 x.1)

-- all of the bytes, with nothing left
abbrev pub all_of : {X : Type 0} → Reader X → List ℕ → Result X EntryFault
all_of whole bytes = and_then (whole bytes 0) (λ x. if x.1 == length bytes then Ok x.0 else Err (TooMuch x.1))

-- what a function answers is what reading gives, unless memory ran out
abbrev pub Gives : {X : Type 0} → Result X EntryFault → Result X EntryFault → Type 0
Gives (Ok x) read = read ≡ Ok x
Gives (Err fault) read = fault ≢ NoMemory → read ≡ Err fault

-- a place of bytes whose places have four bytes
abbrev pub IsPlace : List ℕ → ℕ → Type 0
IsPlace bytes p = (p ≤ length bytes) × (length bytes < 2 ^ 32)
