-- Numbers and words as arguments.
use Rattle.std.specs.Prelude.{ℕ, Bool, true, false, ◌&&◌, not, List, length, map, codes, ◌==◌, nat_lt, Option, Some}
use Rattle.std.specs.Prelude.{None, if◌then◌else◌}
use Rattle.std.specs.List.{list_all}
use Rattle.std.specs.Char.{to_ascii_uppercase}
use Rattle.std.specs.Str.{bytes_eq}
use Rattle.base_types.specs.declared.documents.OnUntil.{OnUntil}
use Rattle.base_types.specs.declared.documents.OnUntil.TheVariants.{Suppr, Cont, Canc}
use Rattle.syntax.specs.Numbers.{number_of}

-- P: `hi`, `go` or a number of 8 bits
unfoldable pub priority_of : List ℕ → Option ℕ
priority_of word =
    if bytes_eq word (codes "hi") then Some 100 else
    if bytes_eq word (codes "go") then Some 101 else number_of 8 word

-- `yes` or `no`
unfoldable pub yes_of : List ℕ → Option Bool
yes_of word =
    if bytes_eq word (codes "yes") then Some true else
    if bytes_eq word (codes "no") then Some false else None

-- what comes when the time of an UNTIL has passed
unfoldable pub passed_of : List ℕ → Option OnUntil
passed_of word =
    if bytes_eq word (codes "suppr") then Some Suppr else
    if bytes_eq word (codes "cont") then Some Cont else
    if bytes_eq word (codes "canc") then Some Canc else None

-- printable ASCII, but no blank, `;` or `"`
abbrev pub is_pattern_byte : ℕ → Bool
is_pattern_byte b = nat_lt 32 b && (nat_lt b 127 && (not (b == 59) && not (b == 34)))

-- PAT, which is one or more of these, in upper case
unfoldable pub pattern_of : List ℕ → Option (List ℕ)
pattern_of word =
    if nat_lt 0 (length word) && list_all is_pattern_byte word then Some (map to_ascii_uppercase word) else None
