-- A condition as far as it was read: a part that lacks its last operand. Reading goes from hole to hole.
use Rattle.std.proofs.Common.{List, [], ◌∷◌, ◌++◌, Option, Some, None}
use Rattle.model.specs.Types.{Rel, CondOp}
use Rattle.rc_conditions.specs.declared.tokens.Token.{Token}
use Rattle.rc_conditions.specs.declared.tokens.Token.TheVariants as token
use Rattle.rc_conditions.specs.declared.readers.Pending.{Pending}
use Rattle.rc_conditions.specs.declared.readers.Pending.TheVariants as pending
use Rattle.rc_conditions.specs.declared.readers.Wanted.TheVariants as wanted
use Rattle.rc_conditions.specs.declared.readers.Reader.{Reader}
use Rattle.rc_conditions.specs.Expressions.{postfix}
use Rattle.rc_conditions.specs.Grammar.{Disjunction, one_conjunction, joined_by_or, Conjunction, one_operand}
use Rattle.rc_conditions.specs.Grammar.{joined_by_and, Operand, comparison, in_parentheses, not_operand}
use Rattle.rc_conditions.specs.Grammar.{disjunction_tokens, conjunction_tokens, operand_tokens, disjunction_meaning}
use Rattle.rc_conditions.specs.Grammar.{conjunction_meaning, operand_meaning}
use Rattle.rc_conditions.specs.Machine.{parts, reader}

mutual
  -- where a condition is to come
  pub data DisjunctionHole : Type 0 where
    outermost : DisjunctionHole
    parenthesis : OperandHole → DisjunctionHole

  pub data ConjunctionHole : Type 0 where
    first_conjunction : DisjunctionHole → ConjunctionHole
    after_or : DisjunctionHole → Disjunction → ConjunctionHole

  pub data OperandHole : Type 0 where
    first_operand : ConjunctionHole → OperandHole
    after_and : ConjunctionHole → Conjunction → OperandHole
    after_not : OperandHole → OperandHole

-- the tokens before the hole
abbrev mutual
  pub before_disjunction : DisjunctionHole → List Token
  before_disjunction outermost = []
  before_disjunction (parenthesis h) = before_operand h ++ token.Open ∷ []

  pub before_conjunction : ConjunctionHole → List Token
  before_conjunction (first_conjunction h) = before_disjunction h
  before_conjunction (after_or h d) = before_disjunction h ++ disjunction_tokens d ++ token.Or ∷ []

  pub before_operand : OperandHole → List Token
  before_operand (first_operand h) = before_conjunction h
  before_operand (after_and h c) = before_conjunction h ++ conjunction_tokens c ++ token.And ∷ []
  before_operand (after_not h) = before_operand h ++ token.Not ∷ []

-- what waits at the hole, the newest first
abbrev mutual
  pub disjunction_waiting : DisjunctionHole → List Pending
  disjunction_waiting outermost = []
  disjunction_waiting (parenthesis h) = pending.Open ∷ operand_waiting h

  pub conjunction_waiting : ConjunctionHole → List Pending
  conjunction_waiting (first_conjunction h) = disjunction_waiting h
  conjunction_waiting (after_or h d) = pending.Or ∷ disjunction_waiting h

  pub operand_waiting : OperandHole → List Pending
  operand_waiting (first_operand h) = conjunction_waiting h
  operand_waiting (after_and h c) = pending.And ∷ conjunction_waiting h
  operand_waiting (after_not h) = pending.Not ∷ operand_waiting h

-- the operations of what stands before the hole
abbrev mutual
  pub disjunction_ops : DisjunctionHole → List CondOp
  disjunction_ops outermost = []
  disjunction_ops (parenthesis h) = operand_ops h

  pub conjunction_ops : ConjunctionHole → List CondOp
  conjunction_ops (first_conjunction h) = disjunction_ops h
  conjunction_ops (after_or h d) = disjunction_ops h ++ postfix (disjunction_meaning d)

  pub operand_ops : OperandHole → List CondOp
  operand_ops (first_operand h) = conjunction_ops h
  operand_ops (after_and h c) = conjunction_ops h ++ postfix (conjunction_meaning c)
  operand_ops (after_not h) = operand_ops h

-- a hole with what fills it
pub record FilledConjunction : Type 0 where
  pub hole : ConjunctionHole
  pub part : Conjunction

pub record FilledDisjunction : Type 0 where
  pub hole : DisjunctionHole
  pub part : Disjunction

pub record FilledOperand : Type 0 where
  pub hole : OperandHole
  pub part : Operand

abbrev pub filled_conjunction : ConjunctionHole → Conjunction → FilledConjunction
filled_conjunction h c = record { hole = h; part = c }

abbrev pub filled_disjunction : DisjunctionHole → Disjunction → FilledDisjunction
filled_disjunction h d = record { hole = h; part = d }

abbrev pub filled_operand : OperandHole → Operand → FilledOperand
filled_operand h o = record { hole = h; part = o }

-- the conjunction that ends with the operand
abbrev pub conjunction_at : OperandHole → Operand → FilledConjunction
conjunction_at (first_operand h) o = filled_conjunction h (one_operand o)
conjunction_at (after_and h c) o = filled_conjunction h (joined_by_and c o)
conjunction_at (after_not h) o = conjunction_at h (not_operand o)

-- the condition that ends with the conjunction
abbrev pub disjunction_at : ConjunctionHole → Conjunction → FilledDisjunction
disjunction_at (first_conjunction h) c = filled_disjunction h (one_conjunction c)
disjunction_at (after_or h d) c = filled_disjunction h (joined_by_or d c)

abbrev pub disjunction_of : FilledConjunction → FilledDisjunction
disjunction_of f = disjunction_at f.hole f.part

-- what was read
pub data Read : Type 0 where
  before_an_operand : OperandHole → Read
  behind_rc : OperandHole → Read
  behind_relation : OperandHole → Rel → Read
  behind_operand : OperandHole → Operand → Read

abbrev pub read_tokens : Read → List Token
read_tokens (before_an_operand h) = before_operand h
read_tokens (behind_rc h) = before_operand h ++ token.Rc ∷ []
read_tokens (behind_relation h r) = before_operand h ++ token.Rc ∷ token.Compare r ∷ []
read_tokens (behind_operand h o) = before_operand h ++ operand_tokens o

-- the reader that stands for it
abbrev pub reader_of : Read → Reader
reader_of (before_an_operand h) = reader wanted.Operand (parts (operand_waiting h) (operand_ops h))
reader_of (behind_rc h) = reader wanted.Relation (parts (operand_waiting h) (operand_ops h))
reader_of (behind_relation h r) = reader (wanted.Number r) (parts (operand_waiting h) (operand_ops h))
reader_of (behind_operand h o) =
    reader wanted.Joint (parts (operand_waiting h) (operand_ops h ++ postfix (operand_meaning o)))

abbrev pub empty_hole : OperandHole
empty_hole = first_operand (first_conjunction outermost)

abbrev pub behind_and : FilledConjunction → Read
behind_and f = before_an_operand (after_and f.hole f.part)

abbrev pub behind_or : FilledDisjunction → Read
behind_or f = before_an_operand (first_operand (after_or f.hole f.part))

abbrev pub behind_close_at : DisjunctionHole → Disjunction → Option Read
behind_close_at outermost d = None
behind_close_at (parenthesis h) d = Some (behind_operand h (in_parentheses d))

abbrev pub behind_close : FilledDisjunction → Option Read
behind_close f = behind_close_at f.hole f.part

-- one token more
abbrev pub next : Read → Token → Option Read
next (before_an_operand h) token.Rc = Some (behind_rc h)
next (before_an_operand h) token.Not = Some (before_an_operand (after_not h))
next (before_an_operand h) token.Open =
    Some (before_an_operand (first_operand (first_conjunction (parenthesis h))))
next (behind_rc h) (token.Compare r) = Some (behind_relation h r)
next (behind_relation h r) (token.Number n) = Some (behind_operand h (comparison r n))
next (behind_operand h o) token.And = Some (behind_and (conjunction_at h o))
next (behind_operand h o) token.Or = Some (behind_or (disjunction_of (conjunction_at h o)))
next (behind_operand h o) token.Close = behind_close (disjunction_of (conjunction_at h o))
next s t = None

abbrev pub outermost_part : DisjunctionHole → Disjunction → Option Disjunction
outermost_part outermost d = Some d
outermost_part (parenthesis h) d = None

-- the condition, where it is whole
abbrev pub whole_read : Read → Option Disjunction
whole_read (behind_operand h o) =
    outermost_part (disjunction_of (conjunction_at h o)).hole (disjunction_of (conjunction_at h o)).part
whole_read s = None
