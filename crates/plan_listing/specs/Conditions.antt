-- The canonical text of a condition that stands in postfix order.
use Rattle.std.specs.Prelude.{ℕ, List, [], ◌∷◌, ◌++◌, length, nat_le, codes, Option, Some, None, option_and_then, if◌then◌else◌}
use Rattle.std.specs.Fmt.{signed_decimal}
use Rattle.model.specs.Types.{CondOp, Cmp, And, Or, Not}
use Rattle.rc_conditions.specs.Printing.{mark}

-- the texts of the results so far, the newest first, with one operation more: none where it lacks what it joins
abbrev pub with_op : CondOp → List (List ℕ) → Option (List (List ℕ))
with_op (Cmp r n) texts = Some ((codes "RC " ++ mark r ++ codes " " ++ signed_decimal n) ∷ texts)
with_op Not [] = None
with_op Not (a ∷ texts) = Some ((codes "NOT (" ++ a ++ codes ")") ∷ texts)
with_op And [] = None
with_op And (b ∷ []) = None
with_op And (b ∷ a ∷ texts) = Some ((codes "(" ++ a ++ codes ") AND (" ++ b ++ codes ")") ∷ texts)
with_op Or [] = None
with_op Or (b ∷ []) = None
with_op Or (b ∷ a ∷ texts) = Some ((codes "(" ++ a ++ codes ") OR (" ++ b ++ codes ")") ∷ texts)

abbrev pub texts_of : List CondOp → List (List ℕ) → Option (List (List ℕ))
texts_of [] texts = Some texts
texts_of (op ∷ ops) texts = option_and_then (texts_of ops) (with_op op texts)

-- the one result that is left, and nothing where there is not one
abbrev pub only : Option (List (List ℕ)) → List ℕ
only None = []
only (Some []) = []
only (Some (text ∷ [])) = text
only (Some (a ∷ b ∷ texts)) = []

-- of at most 64 operations; the empty list is the condition that asks for 0
abbrev pub cond_text : List CondOp → List ℕ
cond_text [] = codes "RC = 0"
cond_text (op ∷ ops) = if nat_le (length (op ∷ ops)) 64 then only (texts_of (op ∷ ops) []) else []
