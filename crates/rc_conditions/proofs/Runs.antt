-- Reading goes through the tokens of every condition, and what was read goes on to a condition.
use Rattle.std.proofs.Common.{◌≡◌, pos, List, [], ◌∷◌, ◌++◌, Option, Some, None, IfSome, option_and_then}
use Rattle.std.proofs.Common.{append_assoc, append-nil, refl, ap, sym, ◌∙◌}
use Rattle.model.specs.Types.{Eq}
use Rattle.rc_conditions.specs.declared.tokens.Token.{Token}
use Rattle.rc_conditions.specs.declared.tokens.Token.TheVariants as token
use Rattle.rc_conditions.specs.Grammar.{Disjunction, one_conjunction, joined_by_or, Conjunction, one_operand}
use Rattle.rc_conditions.specs.Grammar.{joined_by_and, Operand, comparison, in_parentheses, not_operand}
use Rattle.rc_conditions.specs.Grammar.{disjunction_tokens, conjunction_tokens, operand_tokens, Begins}
use Rattle.rc_conditions.proofs.Holes.{DisjunctionHole, outermost, parenthesis, ConjunctionHole, first_conjunction}
use Rattle.rc_conditions.proofs.Holes.{after_or, OperandHole, first_operand, after_and, after_not}
use Rattle.rc_conditions.proofs.Holes.{before_disjunction, before_conjunction, before_operand, FilledConjunction}
use Rattle.rc_conditions.proofs.Holes.{FilledOperand, filled_conjunction, filled_disjunction, filled_operand}
use Rattle.rc_conditions.proofs.Holes.{conjunction_at, disjunction_of, Read, before_an_operand, behind_rc}
use Rattle.rc_conditions.proofs.Holes.{behind_relation, behind_operand, read_tokens, behind_and, behind_or}
use Rattle.rc_conditions.proofs.Holes.{behind_close, next, whole_read, outermost_part, empty_hole}
use Rattle.rc_conditions.proofs.Steps.{step_keeps, conjunction_tokens_at, disjunction_tokens_at}
use Rattle.rc_conditions.proofs.Steps.{disjunction_tokens_of}

-- reading several tokens
abbrev pub run : Read → List Token → Option Read
run s [] = Some s
run s (t ∷ ts) = option_and_then (λ more. run more ts) (next s t)

abbrev pub from_start : List Token → Option Read
from_start ts = run (before_an_operand empty_hole) ts

-- where reading stands behind a part
abbrev pub behind : FilledOperand → Read
behind f = behind_operand f.hole f.part

abbrev pub reached : OperandHole → Operand → FilledOperand
reached h (comparison r n) = filled_operand h (comparison r n)
reached h (in_parentheses d) = filled_operand h (in_parentheses d)
reached h (not_operand o) = reached (after_not h) o

abbrev pub conjunction_reached : ConjunctionHole → Conjunction → FilledOperand
conjunction_reached h (one_operand o) = reached (first_operand h) o
conjunction_reached h (joined_by_and c o) = reached (after_and h c) o

abbrev pub disjunction_reached : DisjunctionHole → Disjunction → FilledOperand
disjunction_reached h (one_conjunction c) = conjunction_reached (first_conjunction h) c
disjunction_reached h (joined_by_or d c) = conjunction_reached (after_or h d) c

abbrev conjunction_back : FilledOperand → FilledConjunction
conjunction_back f = conjunction_at f.hole f.part

reached_back : (h : OperandHole) (o : Operand) → conjunction_back (reached h o) ≡ conjunction_at h o
reached_back h (comparison r n) = refl
reached_back h (in_parentheses d) = refl
reached_back h (not_operand o) = reached_back (after_not h) o

conjunction_reached_back : (h : ConjunctionHole) (c : Conjunction)
    → conjunction_back (conjunction_reached h c) ≡ filled_conjunction h c
conjunction_reached_back h (one_operand o) = reached_back (first_operand h) o
conjunction_reached_back h (joined_by_and c o) = reached_back (after_and h c) o

disjunction_reached_back : (h : DisjunctionHole) (d : Disjunction)
    → disjunction_of (conjunction_back (disjunction_reached h d)) ≡ filled_disjunction h d
disjunction_reached_back h (one_conjunction c) = ap disjunction_of (conjunction_reached_back (first_conjunction h) c)
disjunction_reached_back h (joined_by_or d c) = ap disjunction_of (conjunction_reached_back (after_or h d) c)

mutual
  run_disjunction : (d : Disjunction) (h : DisjunctionHole) (rest : List Token)
      → run (before_an_operand (first_operand (first_conjunction h))) (disjunction_tokens d ++ rest)
      ≡ run (behind (disjunction_reached h d)) rest
  run_disjunction (one_conjunction c) h rest = run_conjunction c (first_conjunction h) rest
  run_disjunction (joined_by_or d c) h rest =
      ap (λ ts. run (before_an_operand (first_operand (first_conjunction h))) ts)
      (append_assoc (disjunction_tokens d) (token.Or ∷ conjunction_tokens c) rest)
      ∙ run_disjunction d h (token.Or ∷ (conjunction_tokens c ++ rest))
      ∙ ap (λ f. run (behind_or f) (conjunction_tokens c ++ rest)) (disjunction_reached_back h d)
      ∙ run_conjunction c (after_or h d) rest

  run_conjunction : (c : Conjunction) (h : ConjunctionHole) (rest : List Token)
      → run (before_an_operand (first_operand h)) (conjunction_tokens c ++ rest)
      ≡ run (behind (conjunction_reached h c)) rest
  run_conjunction (one_operand o) h rest = run_operand o (first_operand h) rest
  run_conjunction (joined_by_and c o) h rest =
      ap (λ ts. run (before_an_operand (first_operand h)) ts)
      (append_assoc (conjunction_tokens c) (token.And ∷ operand_tokens o) rest)
      ∙ run_conjunction c h (token.And ∷ (operand_tokens o ++ rest))
      ∙ ap (λ f. run (behind_and f) (operand_tokens o ++ rest)) (conjunction_reached_back h c)
      ∙ run_operand o (after_and h c) rest

  run_operand : (o : Operand) (h : OperandHole) (rest : List Token)
      → run (before_an_operand h) (operand_tokens o ++ rest) ≡ run (behind (reached h o)) rest
  run_operand (comparison r n) h rest = refl
  run_operand (in_parentheses d) h rest =
      ap (λ ts. run (before_an_operand (first_operand (first_conjunction (parenthesis h)))) ts)
      (append_assoc (disjunction_tokens d) (token.Close ∷ []) rest)
      ∙ run_disjunction d (parenthesis h) (token.Close ∷ rest)
      ∙ ap (λ f. option_and_then (λ more. run more rest) (behind_close f)) (disjunction_reached_back (parenthesis h) d)
  run_operand (not_operand o) h rest = run_operand o (after_not h) rest

-- the tokens of a condition are read to it
pub reads_whole : (d : Disjunction)
    → (s : Read) × (from_start (disjunction_tokens d) ≡ Some s) × (whole_read s ≡ Some d)
reads_whole d = (
  behind (disjunction_reached outermost d),
  ap from_start (sym (append-nil (disjunction_tokens d))) ∙ run_disjunction d outermost [],
  ap (λ f. outermost_part f.hole f.part) (disjunction_reached_back outermost d),
)

-- reading keeps its tokens
kept_by_next : (s : Read) (t : Token) (o : Option Read) (ts : List Token) (end : Read)
    → IfSome o (λ more. read_tokens more ≡ read_tokens s ++ t ∷ [])
    → ((more : Read) → run more ts ≡ Some end → read_tokens end ≡ read_tokens more ++ ts)
    → option_and_then (λ more. run more ts) o ≡ Some end → read_tokens end ≡ read_tokens s ++ t ∷ ts
kept_by_next s t None ts end k rec h = cc
kept_by_next s t (Some more) ts end k rec h =
    rec more h ∙ ap (λ xs. xs ++ ts) k ∙ append_assoc (read_tokens s) (t ∷ []) ts

pub run_keeps : (ts : List Token) (s end : Read) → run s ts ≡ Some end → read_tokens end ≡ read_tokens s ++ ts
run_keeps [] s end h = let same : s ≡ end = cc in ap read_tokens (sym same) ∙ sym (append-nil (read_tokens s))
run_keeps (t ∷ ts) s end h = kept_by_next s t (next s t) ts end (step_keeps s t) (λ more. run_keeps ts more end) h

-- a part of what can be read can be read
part_by_next : (o : Option Read) (ts rest : List Token) (end : Read)
    → ((more : Read) → run more (ts ++ rest) ≡ Some end → (s : Read) × (run more ts ≡ Some s))
    → option_and_then (λ more. run more (ts ++ rest)) o ≡ Some end
    → (s : Read) × (option_and_then (λ more. run more ts) o ≡ Some s)
part_by_next None ts rest end rec h = cc
part_by_next (Some more) ts rest end rec h = rec more h

run_part : (ts rest : List Token) (s end : Read) → run s (ts ++ rest) ≡ Some end → (at : Read) × (run s ts ≡ Some at)
run_part [] rest s end h = (s, refl)
run_part (t ∷ ts) rest s end h = part_by_next (next s t) ts rest end (λ more. run_part ts rest more end) h

-- what a condition begins with can be read
pub begins_run : (ts : List Token) → Begins ts → (s : Read) × (from_start ts ≡ Some s)
begins_run ts b =
    let all = reads_whole b.condition in
    run_part ts b.rest (before_an_operand empty_hole) all.0 (ap from_start b.spelled ∙ all.1)

-- a condition begins with what was read
more_begins : (ts us : List Token) → Begins (ts ++ us) → Begins ts
more_begins ts us b =
    record { rest = us ++ b.rest; condition = b.condition; spelled = sym (append_assoc ts us b.rest) ∙ b.spelled }

same_begins : (ts us : List Token) → ts ≡ us → Begins us → Begins ts
same_begins ts us e b =
    record { rest = b.rest; condition = b.condition; spelled = ap (λ xs. xs ++ b.rest) e ∙ b.spelled }

mutual
  fill_disjunction : (h : DisjunctionHole) (d : Disjunction) → Begins (before_disjunction h ++ disjunction_tokens d)
  fill_disjunction outermost d =
      record { rest = []; condition = d; spelled = append-nil (disjunction_tokens d) }
  fill_disjunction (parenthesis h) d =
      more_begins (before_disjunction (parenthesis h) ++ disjunction_tokens d) (token.Close ∷ [])
      (same_begins _ (before_operand h ++ operand_tokens (in_parentheses d))
      (append_assoc (before_operand h ++ token.Open ∷ []) (disjunction_tokens d) (token.Close ∷ [])
      ∙ append_assoc (before_operand h) (token.Open ∷ []) (disjunction_tokens d ++ token.Close ∷ []))
      (fill_operand h (in_parentheses d)))

  fill_conjunction : (h : ConjunctionHole) (c : Conjunction) → Begins (before_conjunction h ++ conjunction_tokens c)
  fill_conjunction (first_conjunction h) c = fill_disjunction h (one_conjunction c)
  fill_conjunction (after_or h d) c =
      same_begins _ (before_disjunction h ++ disjunction_tokens (joined_by_or d c))
      (disjunction_tokens_at (after_or h d) c) (fill_disjunction h (joined_by_or d c))

  fill_operand : (h : OperandHole) (o : Operand) → Begins (before_operand h ++ operand_tokens o)
  fill_operand (first_operand h) o = fill_conjunction h (one_operand o)
  fill_operand (after_and h c) o =
      same_begins _ (before_conjunction h ++ conjunction_tokens (joined_by_and c o))
      (conjunction_tokens_at (after_and h c) o) (fill_conjunction h (joined_by_and c o))
  fill_operand (after_not h) o =
      same_begins _ (before_operand h ++ operand_tokens (not_operand o))
      (append_assoc (before_operand h) (token.Not ∷ []) (operand_tokens o)) (fill_operand h (not_operand o))

pub read_begins : (s : Read) → Begins (read_tokens s)
read_begins (before_an_operand h) =
    more_begins (before_operand h) (operand_tokens (comparison Eq (pos 0))) (fill_operand h (comparison Eq (pos 0)))
read_begins (behind_rc h) =
    more_begins _ (token.Compare Eq ∷ token.Number (pos 0) ∷ [])
    (same_begins _ _ (append_assoc (before_operand h) (token.Rc ∷ []) (token.Compare Eq ∷ token.Number (pos 0) ∷ []))
    (fill_operand h (comparison Eq (pos 0))))
read_begins (behind_relation h r) =
    more_begins _ (token.Number (pos 0) ∷ [])
    (same_begins _ _ (append_assoc (before_operand h) (token.Rc ∷ token.Compare r ∷ []) (token.Number (pos 0) ∷ []))
    (fill_operand h (comparison r (pos 0))))
read_begins (behind_operand h o) = fill_operand h o

whole_part : (h : DisjunctionHole) (d e : Disjunction) → outermost_part h d ≡ Some e
    → before_disjunction h ++ disjunction_tokens d ≡ disjunction_tokens e
whole_part outermost d e h = let same : d ≡ e = cc in ap disjunction_tokens same
whole_part (parenthesis hole) d e h = cc

-- what was read as a whole has the tokens of its condition
pub whole_tokens : (s : Read) (d : Disjunction) → whole_read s ≡ Some d → read_tokens s ≡ disjunction_tokens d
whole_tokens (behind_operand h o) d is =
    disjunction_tokens_of h o
    ∙ whole_part (disjunction_of (conjunction_at h o)).hole (disjunction_of (conjunction_at h o)).part d is
whole_tokens s d is = cc

-- what was read begins a condition
pub begins_read : (ts : List Token) (s : Read) → from_start ts ≡ Some s → Begins ts
begins_read ts s h =
    same_begins ts (read_tokens s) (sym (run_keeps ts (before_an_operand empty_hole) s h)) (read_begins s)

append_by_next : (o : Option Read) (ts us : List Token) (at : Read)
    → ((more : Read) → run more ts ≡ Some at → run more (ts ++ us) ≡ run at us)
    → option_and_then (λ more. run more ts) o ≡ Some at
    → option_and_then (λ more. run more (ts ++ us)) o ≡ run at us
append_by_next None ts us at rec h = cc
append_by_next (Some more) ts us at rec h = rec more h

pub run_append : (ts us : List Token) (s at : Read) → run s ts ≡ Some at → run s (ts ++ us) ≡ run at us
run_append [] us s at h = let same : s ≡ at = cc in ap (λ x. run x us) same
run_append (t ∷ ts) us s at h = append_by_next (next s t) ts us at (λ more. run_append ts us more at) h
