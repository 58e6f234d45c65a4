-- The lines of refusals and of limits.
use Rattle.std.specs.Prelude.{ℕ, ◌++◌, List, codes}
use Rattle.std.specs.Fmt.{decimal}
use Rattle.base_types.specs.declared.LimitName.{LimitName}
use Rattle.base_types.specs.declared.LimitName.TheVariants as limit

-- what is refused, at which line, and why
abbrev pub refusal_of : List ℕ → ℕ → List ℕ → List ℕ
refusal_of what line kind_ = what ++ codes " refused: line " ++ decimal line ++ codes " " ++ kind_ ++ codes "\n"

-- definitions are refused at a line, and why
abbrev pub definitions_line : ℕ → List ℕ → List ℕ
definitions_line line kind_ = refusal_of (codes "definitions") line kind_

-- a limit by its name
abbrev pub limit_line : List ℕ → ℕ → List ℕ
limit_line name number = codes "limit: " ++ name ++ codes " " ++ decimal number ++ codes "\n"

abbrev pub limit_word : LimitName → List ℕ
limit_word limit.Input = codes "input"
limit_word limit.Steps = codes "steps"
limit_word limit.Packets = codes "packets"
limit_word limit.Bytes = codes "bytes"
limit_word limit.Plan = codes "plan"
limit_word limit.Entry = codes "entry"
limit_word limit.File = codes "file"
limit_word limit.Places = codes "places"
