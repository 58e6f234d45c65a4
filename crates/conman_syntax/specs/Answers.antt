-- Which answer is due: the line, or the fault of its first bad argument, or of a further one.
use Rattle.std.specs.Prelude.{◌≡◌, ◌≢◌, ◌==◌, ℕ, List, length, Option, Some, None, Result, Ok, Err, if◌then◌else◌}
use Rattle.std.specs.Str.{bytes_eq}
use Rattle.conman_syntax.specs.Arguments.{argument_behind, left_behind}
use Rattle.conman_syntax.specs.declared.faults.ArgumentFault.{ArgumentFault}
use Rattle.conman_syntax.specs.declared.faults.ArgumentFault.TheVariants.{BadArgument, TooMany, NoMemory}
use Rattle.conman_syntax.specs.declared.faults.CommandFault.{CommandFault}
use Rattle.conman_syntax.specs.declared.faults.CommandFault.TheVariants as command

-- where argument n has not its form, that is the answer
abbrev pub need : {A B : Type 0} → ℕ → Option A → (A → Result B ArgumentFault) → Result B ArgumentFault
need n None then_ = Err (BadArgument n)
need n (Some a) then_ = then_ a

-- Argument 1, behind the blank that follows the command word, has this form. A missing argument is the empty text,
-- which has no form.
abbrev pub first : {A B : Type 0} → List ℕ → (List ℕ → Option A) → (A → List ℕ → Result B ArgumentFault)
    → Result B ArgumentFault
first left form then_ = need 1 (form (argument_behind 32 left)) (λ a. then_ a (left_behind 32 left))

-- argument n, behind a `;`, has this form
abbrev pub next : {A B : Type 0} → ℕ → List ℕ → (List ℕ → Option A) → (A → List ℕ → Result B ArgumentFault)
    → Result B ArgumentFault
next n left form then_ = need n (form (argument_behind 59 left)) (λ a. then_ a (left_behind 59 left))

-- argument n is this word
abbrev pub next_word : {A : Type 0} → ℕ → List ℕ → List ℕ → (List ℕ → Result A ArgumentFault) → Result A ArgumentFault
next_word n left word then_ =
    if bytes_eq (argument_behind 59 left) word then then_ (left_behind 59 left) else Err (BadArgument n)

-- no further argument follows
abbrev pub ended : {A : Type 0} → List ℕ → A → Result A ArgumentFault
ended left a = if length left == 0 then Ok a else Err TooMany

-- the answer with its value put into a line
abbrev pub within : {A B : Type 0} → (A → B) → Result A ArgumentFault → Result B ArgumentFault
within f (Ok a) = Ok (f a)
within f (Err fault) = Err fault

-- the answer is the one that is due, unless memory ran out
abbrev pub Gives : {A : Type 0} → Result A ArgumentFault → Result A ArgumentFault → Type 0
Gives result due = result ≢ Err NoMemory → result ≡ due

-- the fault of the whole line
abbrev pub fault_of : ArgumentFault → CommandFault
fault_of (BadArgument n) = command.BadArgument n
fault_of TooMany = command.TooMany
fault_of NoMemory = command.NoMemory
