-- What reading a text answers.
use Rattle.std.specs.Prelude.{◌≡◌, ◌≢◌, ◌⊎◌, ◌≤◌, ◌<◌, ℕ, List, [], ◌∷◌, ◌++◌, length, Result, Err}
use Rattle.model.specs.Types.{CondOp}
use Rattle.rc_conditions.specs.declared.CondFault.{CondFault}
use Rattle.rc_conditions.specs.declared.CondFault.TheVariants.{NoMemory}
use Rattle.rc_conditions.specs.Tokens.{Placed, placed_tokens, tokens_in}
use Rattle.rc_conditions.specs.Grammar.{Disjunction, disjunction_tokens, Reads, Begins, text_tokens}

-- At the place stands a token that nothing in the grammar has behind the tokens before it, while some condition begins
-- with those.
pub record StopsAt (text : List ℕ) (place : ℕ) : Type 0 where
  pub before : List Placed
  pub here : Placed
  pub behind : List Placed
  pub tokens : placed_tokens text ≡ before ++ here ∷ behind
  pub is_here : here.place ≡ place
  pub begins : Begins (tokens_in before)
  pub stops : ¬ (Begins (tokens_in (before ++ here ∷ [])))

-- The place is the end of the text, with whose tokens some condition begins and none ends.
pub record EndsTooSoon (text : List ℕ) (place : ℕ) : Type 0 where
  pub is_end : place ≡ length text
  pub begins : Begins (text_tokens text)
  pub no_end : (d : Disjunction) → text_tokens text ≢ disjunction_tokens d

-- the place of the first fault of a text that is no condition
abbrev pub IsFirstFault : List ℕ → ℕ → Type 0
IsFirstFault text place = StopsAt text place ⊎ EndsTooSoon text place

-- the text is a condition of at most 64 operations
abbrev pub IsCondition : List ℕ → List CondOp → Type 0
IsCondition text ops = Reads text ops × (length ops ≤ 64)

-- the text is a condition of more than 64 operations
abbrev pub IsTooLong : List ℕ → Type 0
IsTooLong text = (ops : List CondOp) × Reads text ops × (64 < length ops)

-- The answer comes only with its cause, and where the cause is there it comes unless memory ran out.
abbrev pub AnswersExactly : Result (List CondOp) CondFault → Result (List CondOp) CondFault → Type 0 → Type 0
AnswersExactly result answer Cause = (result ≡ answer → Cause) × (Cause → (result ≡ answer) ⊎ (result ≡ Err NoMemory))
