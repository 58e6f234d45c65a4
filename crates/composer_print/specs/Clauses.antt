-- The clauses of streams and of their entries.
use Rattle.std.specs.Prelude.{ℕ, false, ◌==◌, if◌then◌else◌, List, [], ◌++◌, codes, map, flat_map, Option, Some, None}
use Rattle.std.specs.Fmt.{decimal}
use Rattle.base_types.specs.declared.documents.OnUntil.{OnUntil}
use Rattle.base_types.specs.declared.documents.OnUntil.TheVariants.{Suppr, Cont, Canc}
use Rattle.composer_parser.specs.declared.clauses.Clause.{Clause}
use Rattle.composer_parser.specs.declared.clauses.Clause.TheVariants.{At, Until, Deadline, Priority, Limit, CarryForward, Follows, Needs, Prompt, Opens}
use Rattle.composer_parser.specs.declared.clauses.Pred.{Pred}
use Rattle.composer_parser.specs.declared.clauses.PredPart.{PredPart}
use Rattle.composer_parser.specs.declared.clauses.PredPart.TheVariants as part
use Rattle.composer_parser.specs.declared.clauses.Need.{Need}
use Rattle.composer_parser.specs.declared.clauses.PromptItem.{PromptItem}
use Rattle.composer_parser.specs.declared.clauses.PromptItem.TheVariants.{Name, Own}
use Rattle.composer_print.specs.Texts.{texts_from}
use Rattle.syntax.specs.Quotes.{quoted_text}
use Rattle.composer_print.specs.Days.{time_text}

-- [ws#]name
unfoldable pub name_text : Option (List ℕ) → List ℕ → List ℕ
name_text None name = name
name_text (Some w) name = w ++ codes "#" ++ name

-- [+n DAYS]
unfoldable pub plus_text : Option ℕ → List ℕ
plus_text None = []
plus_text (Some n) = codes " +" ++ decimal n ++ codes " DAYS"

-- SUPPR is the default
unfoldable pub until_text : OnUntil → List ℕ
until_text Suppr = []
until_text Cont = codes " ONUNTIL CONT"
until_text Canc = codes " ONUNTIL CANC"

-- number | HI | GO
unfoldable pub priority_text : ℕ → List ℕ
priority_text n = if n == 100 then codes "HI" else if n == 101 then codes "GO" else decimal n

-- what of a stream is followed
unfoldable pub part_text : PredPart → List ℕ
part_text part.Plain = []
part_text part.All = codes ".@"
part_text (part.Job j) = codes "." ++ j

-- [ws#]name, and `.@` or `.name` behind
unfoldable pub pred_text : Pred → List ℕ
pred_text p = name_text p.ws p.name ++ part_text p.part

-- [n] [ws#]name
unfoldable pub units_text : Option ℕ → List ℕ
units_text None = []
units_text (Some n) = decimal n ++ codes " "

unfoldable pub need_text : Need → List ℕ
need_text n = units_text n.units ++ name_text n.ws n.name

-- a prompt by its name, or a text of its own
unfoldable pub prompt_text : PromptItem → List ℕ
prompt_text (Name n) = n
prompt_text (Own v) = quoted_text v

abbrev pub moment_text : ℕ → Option ℕ → List ℕ
moment_text t d = time_text t ++ plus_text d

-- a list behind its keyword
abbrev pub list_text : List ℕ → List (List ℕ) → List ℕ
list_text keyword xs = texts_from (codes ", ") keyword false xs

-- a clause behind what stands before it on its line
unfoldable pub clause_text : Clause → List ℕ
clause_text (At t d) = codes " AT " ++ moment_text t d
clause_text (Until t d u) = codes " UNTIL " ++ moment_text t d ++ until_text u
clause_text (Deadline t d) = codes " DEADLINE " ++ moment_text t d
clause_text (Priority n) = codes " PRIORITY " ++ priority_text n
clause_text (Limit n) = codes " LIMIT " ++ decimal n
clause_text CarryForward = codes " CARRYFORWARD"
clause_text (Follows ps) = list_text (codes " FOLLOWS ") (map pred_text ps)
clause_text (Needs ns) = list_text (codes " NEEDS ") (map need_text ns)
clause_text (Prompt ps) = list_text (codes " PROMPT ") (map prompt_text ps)
clause_text (Opens fs) = list_text (codes " OPENS ") (map quoted_text fs)

unfoldable pub clauses_text : List Clause → List ℕ
clauses_text cs = flat_map clause_text cs
