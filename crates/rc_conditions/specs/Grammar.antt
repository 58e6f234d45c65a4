-- The grammar of conditions: what each part consists of, its tokens, and the expression that it stands for.
use Rattle.std.specs.Prelude.{◌≡◌, ℕ, ℤ, List, [], ◌∷◌, ◌++◌}
use Rattle.model.specs.Types.{Rel, CondOp}
use Rattle.rc_conditions.specs.declared.tokens.Token.{Token}
use Rattle.rc_conditions.specs.declared.tokens.Token.TheVariants as token
use Rattle.rc_conditions.specs.Expressions.{Expression, compared, negated, both, either, postfix}
use Rattle.rc_conditions.specs.Tokens.{placed_tokens, tokens_in}

-- NOT binds closest, then AND, then OR. What stands to the left of an AND or OR is joined first.
mutual
  -- a condition: one conjunction, or a condition OR a conjunction
  pub data Disjunction : Type 0 where
    one_conjunction : Conjunction → Disjunction
    joined_by_or : Disjunction → Conjunction → Disjunction

  -- one operand, or a conjunction AND an operand
  pub data Conjunction : Type 0 where
    one_operand : Operand → Conjunction
    joined_by_and : Conjunction → Operand → Conjunction

  -- a comparison, a condition in parentheses, or NOT before an operand
  pub data Operand : Type 0 where
    comparison : Rel → ℤ → Operand
    in_parentheses : Disjunction → Operand
    not_operand : Operand → Operand

-- the tokens of each part, in order
abbrev mutual
  pub disjunction_tokens : Disjunction → List Token
  disjunction_tokens (one_conjunction c) = conjunction_tokens c
  disjunction_tokens (joined_by_or d c) = disjunction_tokens d ++ token.Or ∷ conjunction_tokens c

  pub conjunction_tokens : Conjunction → List Token
  conjunction_tokens (one_operand o) = operand_tokens o
  conjunction_tokens (joined_by_and c o) = conjunction_tokens c ++ token.And ∷ operand_tokens o

  pub operand_tokens : Operand → List Token
  operand_tokens (comparison r n) = token.Rc ∷ token.Compare r ∷ token.Number n ∷ []
  operand_tokens (in_parentheses d) = token.Open ∷ disjunction_tokens d ++ token.Close ∷ []
  operand_tokens (not_operand o) = token.Not ∷ operand_tokens o

-- the expression that each part stands for
abbrev mutual
  pub disjunction_meaning : Disjunction → Expression
  disjunction_meaning (one_conjunction c) = conjunction_meaning c
  disjunction_meaning (joined_by_or d c) = either (disjunction_meaning d) (conjunction_meaning c)

  pub conjunction_meaning : Conjunction → Expression
  conjunction_meaning (one_operand o) = operand_meaning o
  conjunction_meaning (joined_by_and c o) = both (conjunction_meaning c) (operand_meaning o)

  pub operand_meaning : Operand → Expression
  operand_meaning (comparison r n) = compared r n
  operand_meaning (in_parentheses d) = disjunction_meaning d
  operand_meaning (not_operand o) = negated (operand_meaning o)

-- the tokens of a text, without their places
abbrev pub text_tokens : List ℕ → List Token
text_tokens text = tokens_in (placed_tokens text)

-- The grammar relates the text to the condition.
pub record Reads (text : List ℕ) (ops : List CondOp) : Type 0 where
  pub condition : Disjunction
  pub spelled : text_tokens text ≡ disjunction_tokens condition
  pub means : ops ≡ postfix (disjunction_meaning condition)

-- Some condition begins with these tokens.
pub record Begins (tokens : List Token) : Type 0 where
  pub rest : List Token
  pub condition : Disjunction
  pub spelled : tokens ++ rest ≡ disjunction_tokens condition
