-- A step of reading keeps its tokens, and the reader that stands for it takes the same step.
use Rattle.std.proofs.Common.{◌≡◌, List, [], ◌∷◌, ◌++◌, Some, IfSome, option_map, append_assoc, refl, ap, sym, ◌∙◌}
use Rattle.model.specs.Types.{CondOp, And, Or, Not}
use Rattle.rc_conditions.specs.declared.tokens.Token.{Token}
use Rattle.rc_conditions.specs.declared.tokens.Token.TheVariants as token
use Rattle.rc_conditions.specs.declared.readers.Joint.TheVariants as joint
use Rattle.rc_conditions.specs.declared.readers.Pending.TheVariants as pending
use Rattle.rc_conditions.specs.declared.readers.Wanted.TheVariants as wanted
use Rattle.rc_conditions.specs.Expressions.{postfix}
use Rattle.rc_conditions.specs.Grammar.{Disjunction, joined_by_or, Conjunction, joined_by_and, Operand, not_operand}
use Rattle.rc_conditions.specs.Grammar.{disjunction_tokens, conjunction_tokens, operand_tokens, disjunction_meaning}
use Rattle.rc_conditions.specs.Grammar.{conjunction_meaning, operand_meaning}
use Rattle.rc_conditions.specs.Machine.{Parts, parts, reader, settled, with_pending, step, closed, finished, whole}
use Rattle.rc_conditions.proofs.Holes.{DisjunctionHole, outermost, parenthesis, ConjunctionHole, first_conjunction}
use Rattle.rc_conditions.proofs.Holes.{after_or, OperandHole, first_operand, after_and, after_not}
use Rattle.rc_conditions.proofs.Holes.{before_disjunction, before_conjunction, before_operand, disjunction_waiting}
use Rattle.rc_conditions.proofs.Holes.{conjunction_waiting, operand_waiting, disjunction_ops, conjunction_ops}
use Rattle.rc_conditions.proofs.Holes.{operand_ops, FilledConjunction, FilledDisjunction, conjunction_at}
use Rattle.rc_conditions.proofs.Holes.{disjunction_at, disjunction_of, Read, before_an_operand, behind_rc}
use Rattle.rc_conditions.proofs.Holes.{behind_relation, behind_operand, read_tokens, reader_of, behind_close_at}
use Rattle.rc_conditions.proofs.Holes.{next, whole_read, outermost_part}

-- the tokens up to the end of what fills a hole
abbrev conjunction_end : FilledConjunction → List Token
conjunction_end f = before_conjunction f.hole ++ conjunction_tokens f.part

abbrev disjunction_end : FilledDisjunction → List Token
disjunction_end f = before_disjunction f.hole ++ disjunction_tokens f.part

three : (xs ys : List Token) (t : Token) (zs : List Token) → (xs ++ ys ++ t ∷ []) ++ zs ≡ xs ++ (ys ++ t ∷ zs)
three xs ys t zs = rw (append_assoc (xs ++ ys) (t ∷ []) zs, append_assoc xs ys (t ∷ zs)) refl

pub conjunction_tokens_at : (h : OperandHole) (o : Operand)
    → before_operand h ++ operand_tokens o ≡ conjunction_end (conjunction_at h o)
conjunction_tokens_at (first_operand h) o = refl
conjunction_tokens_at (after_and h c) o =
    three (before_conjunction h) (conjunction_tokens c) token.And (operand_tokens o)
conjunction_tokens_at (after_not h) o =
    append_assoc (before_operand h) (token.Not ∷ []) (operand_tokens o) ∙ conjunction_tokens_at h (not_operand o)

pub disjunction_tokens_at : (h : ConjunctionHole) (c : Conjunction)
    → before_conjunction h ++ conjunction_tokens c ≡ disjunction_end (disjunction_at h c)
disjunction_tokens_at (first_conjunction h) c = refl
disjunction_tokens_at (after_or h d) c =
    three (before_disjunction h) (disjunction_tokens d) token.Or (conjunction_tokens c)

pub disjunction_tokens_of : (h : OperandHole) (o : Operand)
    → before_operand h ++ operand_tokens o ≡ disjunction_end (disjunction_of (conjunction_at h o))
disjunction_tokens_of h o =
    conjunction_tokens_at h o ∙ disjunction_tokens_at (conjunction_at h o).hole (conjunction_at h o).part

-- the parts of a reader at what fills a hole
abbrev conjunction_parts : FilledConjunction → Parts
conjunction_parts f =
    parts (conjunction_waiting f.hole) (conjunction_ops f.hole ++ postfix (conjunction_meaning f.part))

abbrev disjunction_parts : FilledDisjunction → Parts
disjunction_parts f =
    parts (disjunction_waiting f.hole) (disjunction_ops f.hole ++ postfix (disjunction_meaning f.part))

-- an AND settles what binds closer, and nothing else
and_stops : (h : ConjunctionHole) (ops : List CondOp)
    → settled joint.And (conjunction_waiting h) ops ≡ parts (conjunction_waiting h) ops
and_stops (first_conjunction outermost) ops = refl
and_stops (first_conjunction (parenthesis h)) ops = refl
and_stops (after_or h d) ops = refl

four : (xs ys zs us : List CondOp) → ((xs ++ ys) ++ zs) ++ us ≡ xs ++ ((ys ++ zs) ++ us)
four xs ys zs us =
    append_assoc (xs ++ ys) zs us ∙ append_assoc xs ys (zs ++ us)
    ∙ ap (λ rest. xs ++ rest) (sym (append_assoc ys zs us))

and_settles : (h : OperandHole) (o : Operand)
    → settled joint.And (operand_waiting h) (operand_ops h ++ postfix (operand_meaning o))
    ≡ conjunction_parts (conjunction_at h o)
and_settles (first_operand h) o = and_stops h (conjunction_ops h ++ postfix (operand_meaning o))
and_settles (after_and h c) o =
    ap (λ ops. settled joint.And (conjunction_waiting h) ops)
    (four (conjunction_ops h) (postfix (conjunction_meaning c)) (postfix (operand_meaning o)) (And ∷ []))
    ∙ and_stops h (conjunction_ops h ++ postfix (conjunction_meaning (joined_by_and c o)))
and_settles (after_not h) o =
    ap (λ ops. settled joint.And (operand_waiting h) ops)
    (append_assoc (operand_ops h) (postfix (operand_meaning o)) (Not ∷ []))
    ∙ and_settles h (not_operand o)

-- an OR, the end of parentheses and the end of the text settle all up to the parenthesis
or_stops : (h : DisjunctionHole) (ops : List CondOp)
    → settled joint.Or (disjunction_waiting h) ops ≡ parts (disjunction_waiting h) ops
or_stops outermost ops = refl
or_stops (parenthesis h) ops = refl

or_settles_operand : (h : OperandHole) (o : Operand)
    → settled joint.Or (operand_waiting h) (operand_ops h ++ postfix (operand_meaning o))
    ≡ settled joint.Or (conjunction_parts (conjunction_at h o)).waiting (conjunction_parts (conjunction_at h o)).ops
or_settles_operand (first_operand h) o = refl
or_settles_operand (after_and h c) o =
    ap (λ ops. settled joint.Or (conjunction_waiting h) ops)
    (four (conjunction_ops h) (postfix (conjunction_meaning c)) (postfix (operand_meaning o)) (And ∷ []))
or_settles_operand (after_not h) o =
    ap (λ ops. settled joint.Or (operand_waiting h) ops)
    (append_assoc (operand_ops h) (postfix (operand_meaning o)) (Not ∷ []))
    ∙ or_settles_operand h (not_operand o)

or_settles_conjunction : (h : ConjunctionHole) (c : Conjunction)
    → settled joint.Or (conjunction_waiting h) (conjunction_ops h ++ postfix (conjunction_meaning c))
    ≡ disjunction_parts (disjunction_at h c)
or_settles_conjunction (first_conjunction h) c = or_stops h (disjunction_ops h ++ postfix (conjunction_meaning c))
or_settles_conjunction (after_or h d) c =
    ap (λ ops. settled joint.Or (disjunction_waiting h) ops)
    (four (disjunction_ops h) (postfix (disjunction_meaning d)) (postfix (conjunction_meaning c)) (Or ∷ []))
    ∙ or_stops h (disjunction_ops h ++ postfix (disjunction_meaning (joined_by_or d c)))

or_settles : (h : OperandHole) (o : Operand)
    → settled joint.Or (operand_waiting h) (operand_ops h ++ postfix (operand_meaning o))
    ≡ disjunction_parts (disjunction_of (conjunction_at h o))
or_settles h o =
    or_settles_operand h o ∙ or_settles_conjunction (conjunction_at h o).hole (conjunction_at h o).part

closes_at : (h : DisjunctionHole) (d : Disjunction)
    → closed (disjunction_waiting h) (disjunction_ops h ++ postfix (disjunction_meaning d))
    ≡ option_map reader_of (behind_close_at h d)
closes_at outermost d = refl
closes_at (parenthesis h) d = refl

-- the reader takes the same step
pub same_step : (s : Read) (t : Token) → step (reader_of s) t ≡ option_map reader_of (next s t)
same_step (behind_operand h o) token.And =
    ap (λ p. Some (reader wanted.Operand (with_pending pending.And p))) (and_settles h o)
same_step (behind_operand h o) token.Or =
    ap (λ p. Some (reader wanted.Operand (with_pending pending.Or p))) (or_settles h o)
same_step (behind_operand h o) token.Close =
    ap (λ p. closed p.waiting p.ops) (or_settles h o)
    ∙ closes_at (disjunction_of (conjunction_at h o)).hole (disjunction_of (conjunction_at h o)).part
same_step (before_an_operand h) token.Rc = refl
same_step (before_an_operand h) token.Not = refl
same_step (before_an_operand h) token.Open = refl
same_step (behind_rc h) (token.Compare r) = refl
same_step (behind_relation h r) (token.Number n) = refl
same_step s t = refl

abbrev pub ops_of : Disjunction → List CondOp
ops_of d = postfix (disjunction_meaning d)

whole_at : (h : DisjunctionHole) (d : Disjunction)
    → whole (disjunction_waiting h) (disjunction_ops h ++ postfix (disjunction_meaning d))
    ≡ option_map ops_of (outermost_part h d)
whole_at outermost d = refl
whole_at (parenthesis h) d = refl

-- the reader has the same whole condition
pub same_end : (s : Read) → finished (reader_of s) ≡ option_map ops_of (whole_read s)
same_end (before_an_operand h) = refl
same_end (behind_rc h) = refl
same_end (behind_relation h r) = refl
same_end (behind_operand h o) =
    ap (λ p. whole p.waiting p.ops) (or_settles h o)
    ∙ whole_at (disjunction_of (conjunction_at h o)).hole (disjunction_of (conjunction_at h o)).part

close_keeps : (h : DisjunctionHole) (d : Disjunction) (ts : List Token)
    → ts ≡ before_disjunction h ++ disjunction_tokens d
    → IfSome (behind_close_at h d) (λ s. read_tokens s ≡ ts ++ token.Close ∷ [])
close_keeps outermost d ts e = tt
close_keeps (parenthesis h) d ts e =
    sym (ap (λ xs. xs ++ token.Close ∷ []) e
    ∙ append_assoc (before_operand h ++ token.Open ∷ []) (disjunction_tokens d) (token.Close ∷ [])
    ∙ append_assoc (before_operand h) (token.Open ∷ []) (disjunction_tokens d ++ token.Close ∷ []))

-- a step adds its token
pub step_keeps : (s : Read) (t : Token) → IfSome (next s t) (λ more. read_tokens more ≡ read_tokens s ++ t ∷ [])
step_keeps (before_an_operand h) token.Rc = refl
step_keeps (before_an_operand h) token.Not = refl
step_keeps (before_an_operand h) token.Open = refl
step_keeps (behind_rc h) (token.Compare r) =
    sym (append_assoc (before_operand h) (token.Rc ∷ []) (token.Compare r ∷ []))
step_keeps (behind_relation h r) (token.Number n) =
    sym (append_assoc (before_operand h) (token.Rc ∷ token.Compare r ∷ []) (token.Number n ∷ []))
step_keeps (behind_operand h o) token.And =
    ap (λ xs. xs ++ token.And ∷ []) (sym (conjunction_tokens_at h o))
step_keeps (behind_operand h o) token.Or =
    ap (λ xs. xs ++ token.Or ∷ []) (sym (disjunction_tokens_of h o))
step_keeps (behind_operand h o) token.Close =
    close_keeps (disjunction_of (conjunction_at h o)).hole (disjunction_of (conjunction_at h o)).part
    (before_operand h ++ operand_tokens o) (disjunction_tokens_of h o)
step_keeps s t = tt
