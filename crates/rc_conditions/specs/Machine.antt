-- How reading goes, token by token: the way of the private functions that read. No promise of the crate cites it, since
-- `proofs/Readings.antt` ties it to the grammar.
use Rattle.std.specs.Prelude.{ℕ, List, [], ◌∷◌, ◌++◌, length, nat_le, Option, Some, None, Result, Ok, Err}
use Rattle.std.specs.Prelude.{if◌then◌else◌}
use Rattle.std.specs.Option.{option_map_or}
use Rattle.model.specs.Types.{CondOp, Cmp, And, Or, Not}
use Rattle.rc_conditions.specs.declared.CondFault.{CondFault}
use Rattle.rc_conditions.specs.declared.CondFault.TheVariants.{Bad, TooLong}
use Rattle.rc_conditions.specs.declared.tokens.Token.{Token}
use Rattle.rc_conditions.specs.declared.tokens.Token.TheVariants as token
use Rattle.rc_conditions.specs.declared.readers.Joint.{Joint}
use Rattle.rc_conditions.specs.declared.readers.Joint.TheVariants as joint
use Rattle.rc_conditions.specs.declared.readers.Pending.{Pending}
use Rattle.rc_conditions.specs.declared.readers.Pending.TheVariants as pending
use Rattle.rc_conditions.specs.declared.readers.Wanted.{Wanted}
use Rattle.rc_conditions.specs.declared.readers.Wanted.TheVariants as wanted
use Rattle.rc_conditions.specs.declared.readers.Reader.{Reader}
use Rattle.rc_conditions.specs.Tokens.{Placed, placed_tokens}

-- what waits, the newest first, and the operations so far
pub record Parts : Type 0 where
  pub waiting : List Pending
  pub ops : List CondOp

abbrev pub parts : List Pending → List CondOp → Parts
parts ps ops = record { waiting = ps; ops = ops }

abbrev pub reader : Wanted → Parts → Reader
reader w p = record { wanted = w; waiting = p.waiting; ops = p.ops }

-- The operation that a joint lets go first, since it binds at least as closely.
abbrev pub due_before : Joint → Pending → Option CondOp
due_before j pending.Open = None
due_before j pending.Not = Some Not
due_before j pending.And = Some And
due_before joint.And pending.Or = None
due_before joint.Or pending.Or = Some Or

-- All that a joint lets go first is put behind the operations.
abbrev pub settled : Joint → List Pending → List CondOp → Parts
settled j [] ops = parts [] ops
settled j (pending.Open ∷ ps) ops = parts (pending.Open ∷ ps) ops
settled j (pending.Not ∷ ps) ops = settled j ps (ops ++ Not ∷ [])
settled j (pending.And ∷ ps) ops = settled j ps (ops ++ And ∷ [])
settled joint.And (pending.Or ∷ ps) ops = parts (pending.Or ∷ ps) ops
settled joint.Or (pending.Or ∷ ps) ops = settled joint.Or ps (ops ++ Or ∷ [])

abbrev pub with_pending : Pending → Parts → Parts
with_pending p all = parts (p ∷ all.waiting) all.ops

-- the end of the innermost parentheses
abbrev pub closed : List Pending → List CondOp → Option Reader
closed (pending.Open ∷ ps) ops = Some (reader wanted.Joint (parts ps ops))
closed _ ops = None

-- the reader behind one token more, by what it wants
abbrev pub step_at : Wanted → Parts → Token → Option Reader
step_at wanted.Operand p token.Rc = Some (reader wanted.Relation p)
step_at wanted.Operand p token.Not = Some (reader wanted.Operand (with_pending pending.Not p))
step_at wanted.Operand p token.Open = Some (reader wanted.Operand (with_pending pending.Open p))
step_at wanted.Relation p (token.Compare r) = Some (reader (wanted.Number r) p)
step_at (wanted.Number r) p (token.Number n) = Some (reader wanted.Joint (parts p.waiting (p.ops ++ Cmp r n ∷ [])))
step_at wanted.Joint p token.And =
    Some (reader wanted.Operand (with_pending pending.And (settled joint.And p.waiting p.ops)))
step_at wanted.Joint p token.Or =
    Some (reader wanted.Operand (with_pending pending.Or (settled joint.Or p.waiting p.ops)))
step_at wanted.Joint p token.Close =
    closed (settled joint.Or p.waiting p.ops).waiting (settled joint.Or p.waiting p.ops).ops
step_at w p t = None

abbrev pub step : Reader → Token → Option Reader
step r t = step_at r.wanted (parts r.waiting r.ops) t

abbrev pub start : Reader
start = reader wanted.Operand (parts [] [])

-- the whole condition, where nothing waits any more
abbrev pub whole : List Pending → List CondOp → Option (List CondOp)
whole [] ops = Some ops
whole (p ∷ ps) ops = None

-- the condition that the tokens so far are
abbrev pub finished_at : Wanted → Parts → Option (List CondOp)
finished_at wanted.Joint p = whole (settled joint.Or p.waiting p.ops).waiting (settled joint.Or p.waiting p.ops).ops
finished_at w p = None

abbrev pub finished : Reader → Option (List CondOp)
finished r = finished_at r.wanted (parts r.waiting r.ops)

abbrev pub within_limit : List CondOp → Result (List CondOp) CondFault
within_limit ops = if nat_le (length ops) 64 then Ok ops else Err TooLong

abbrev pub or_bad : ℕ → Option (List CondOp) → Result (List CondOp) CondFault
or_bad place None = Err (Bad place)
or_bad place (Some ops) = within_limit ops

-- the answer where the text ends
abbrev pub ended : Reader → ℕ → Result (List CondOp) CondFault
ended r place = or_bad place (finished r)

-- the answer of a reader before these tokens, in a text that ends at a place
abbrev pub read : Reader → List Placed → ℕ → Result (List CondOp) CondFault
read r [] end = ended r end
read r (p ∷ ps) end = option_map_or (λ next. read next ps end) (step r p.kind) (Err (Bad p.place))

abbrev pub read_of : List ℕ → Result (List CondOp) CondFault
read_of text = read start (placed_tokens text) (length text)
