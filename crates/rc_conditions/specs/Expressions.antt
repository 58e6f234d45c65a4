-- A condition as an expression, and its operations in postfix order.
use Rattle.std.specs.Prelude.{◌≡◌, ℕ, ℤ, Bool, ◌&&◌, ◌||◌, not, List, [], ◌∷◌, ◌++◌, FitsSigned}
use Rattle.std.specs.Int.{w32}
use Rattle.model.specs.Types.{Rel, CondOp, Cmp, And, Or, Not}
use Rattle.model.specs.Conditions.{compares}

-- the return code compared with a number, or conditions joined by NOT, AND and OR
pub data Expression : Type 0 where
  compared : Rel → ℤ → Expression
  negated : Expression → Expression
  both : Expression → Expression → Expression
  either : Expression → Expression → Expression

-- the operations, each behind what it joins
abbrev pub postfix : Expression → List CondOp
postfix (compared r n) = Cmp r n ∷ []
postfix (negated e) = postfix e ++ Not ∷ []
postfix (both e f) = postfix e ++ postfix f ++ And ∷ []
postfix (either e f) = postfix e ++ postfix f ++ Or ∷ []

-- how many results an operation joins
abbrev pub arity : CondOp → ℕ
arity (Cmp r n) = 0
arity Not = 1
arity And = 2
arity Or = 2

-- the list is a postfix expression
abbrev pub IsPostfix : List CondOp → Type 0
IsPostfix ops = (e : Expression) × (ops ≡ postfix e)

-- each number has 32 bits
abbrev pub NumbersFit : Expression → Type 0
NumbersFit (compared r n) = FitsSigned w32 n
NumbersFit (negated e) = NumbersFit e
NumbersFit (both e f) = NumbersFit e × NumbersFit f
NumbersFit (either e f) = NumbersFit e × NumbersFit f

-- whether the condition is met by a return code
abbrev pub is_met : Expression → ℤ → Bool
is_met (compared r n) rc = compares r rc n
is_met (negated e) rc = not (is_met e rc)
is_met (both e f) rc = is_met e rc && is_met f rc
is_met (either e f) rc = is_met e rc || is_met f rc
