-- The canonical text of a condition.
use Rattle.std.specs.Prelude.{ℕ, List, ◌++◌, codes}
use Rattle.std.specs.Fmt.{signed_decimal}
use Rattle.model.specs.Types.{Rel, Eq, Ne, Lt, Le, Gt, Ge}
use Rattle.rc_conditions.specs.Expressions.{Expression, compared, negated, both, either}

abbrev pub mark : Rel → List ℕ
mark Eq = codes "="
mark Ne = codes "!="
mark Lt = codes "<"
mark Le = codes "<="
mark Gt = codes ">"
mark Ge = codes ">="

-- What NOT, AND and OR join stands in parentheses, and nothing else does.
abbrev pub printed : Expression → List ℕ
printed (compared r n) = codes "RC " ++ mark r ++ codes " " ++ signed_decimal n
printed (negated e) = codes "NOT (" ++ printed e ++ codes ")"
printed (both e f) = codes "(" ++ printed e ++ codes ") AND (" ++ printed f ++ codes ")"
printed (either e f) = codes "(" ++ printed e ++ codes ") OR (" ++ printed f ++ codes ")"
