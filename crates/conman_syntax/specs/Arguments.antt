-- A line's command word and its arguments, which stand between the `;` outside quotes.
use Rattle.std.specs.Prelude.{ℕ, ◌+◌, ◌-◌, Bool, false, ◌||◌, List, [], ◌∷◌, take, drop, length, codes, nat_eq, ◌==◌}
use Rattle.std.specs.Prelude.{slice_index, if◌then◌else◌}
use Rattle.std.specs.List.{position_or_len, before_first, ends_with}
use Rattle.conman_syntax.specs.declared.arguments.Quoting.{Quoting}
use Rattle.conman_syntax.specs.declared.arguments.Quoting.TheVariants.{Outside, Inside, Guarded}

-- the text without one `;noask` at its end
abbrev pub without_noask : List ℕ → List ℕ
without_noask text = if ends_with nat_eq text (codes ";noask") then take (length text - 6) text else text

-- a blank or a `;`, which end the command word
abbrev pub ends_word : ℕ → Bool
ends_word b = b == 32 || b == 59

-- the command word
abbrev pub word_of : List ℕ → List ℕ
word_of line = before_first ends_word line

-- what is left of the line behind it: nothing, or what begins with a blank or a `;`
abbrev pub behind_word : List ℕ → List ℕ
behind_word line = drop (position_or_len ends_word line) line

-- where the byte stands behind one that stood there: a quote opens and closes, and within quotes a backslash guards
-- the byte that follows
abbrev pub past : Quoting → ℕ → Quoting
past Outside b = if b == 34 then Inside else Outside
past Inside b = if b == 34 then Outside else (if b == 92 then Guarded else Inside)
past Guarded b = Inside

-- a `;` outside quotes, which ends an argument
abbrev pub ends_argument : Quoting → ℕ → Bool
ends_argument Outside b = b == 59
ends_argument Inside b = false
ends_argument Guarded b = false

-- how many bytes stand before the first `;` outside quotes
abbrev pub argument_length : Quoting → List ℕ → ℕ
argument_length quoting [] = 0
argument_length quoting (b ∷ bs) =
    if ends_argument quoting b then 0 else 1 + argument_length (past quoting b) bs

-- what stands before the first `;` outside quotes, and all from it on
unfoldable pub argument_from : List ℕ → List ℕ
argument_from text = take (argument_length Outside text) text

unfoldable pub left_from : List ℕ → List ℕ
left_from text = drop (argument_length Outside text) text

-- the argument that this mark introduces, and nothing where it does not stand there
unfoldable pub argument_behind : ℕ → List ℕ → List ℕ
argument_behind mark left = if slice_index left 0 == mark then argument_from (drop 1 left) else []

-- what is left of the line behind that argument
unfoldable pub left_behind : ℕ → List ℕ → List ℕ
left_behind mark left = if slice_index left 0 == mark then left_from (drop 1 left) else left
