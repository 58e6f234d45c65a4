-- The clauses of streams and of their entries.
use Rattle.std.specs.Prelude.{ℕ, Bool, true, false, ◌&&◌, ◌||◌, not, List, [], codes, Option, Some, None}
use Rattle.std.specs.List.{list_any}
use Rattle.base_types.specs.declared.documents.OnUntil.{OnUntil}
use Rattle.base_types.specs.declared.documents.OnUntil.TheVariants as until
use Rattle.composer_parser.specs.Kinds.{a_mark, a_scoped, is, keyword, Spelled}
use Rattle.composer_parser.specs.Grammars.{Grammar, one, left_out, many}
use Rattle.composer_parser.specs.Parts.{◌⊛◌, ◌⊲◌, ◌or◌, made, key, name, text, number, time, plus, bytes_of, ws_of, own_of, pred, lined, once, put, comma, with_commas}
use Rattle.composer_parser.specs.declared.definitions.Lined.{Lined}
use Rattle.composer_parser.specs.declared.clauses.Clause.{Clause}
use Rattle.composer_parser.specs.declared.clauses.Clause.TheVariants.{At, Until, Deadline, Priority, Limit, CarryForward, Follows, Needs, Prompt, Opens}
use Rattle.composer_parser.specs.declared.clauses.Pred.{Pred}
use Rattle.composer_parser.specs.declared.clauses.Need.{Need}
use Rattle.composer_parser.specs.declared.clauses.PromptItem.{PromptItem}
use Rattle.composer_parser.specs.declared.clauses.PromptItem.TheVariants as ask

-- [+n DAYS]
unfoldable pub plus_days : Grammar (Option ℕ)
plus_days =
    (made (λ n x. Some n) ⊛ plus ⊛ key (codes "DAYS")) or made None

-- [ONUNTIL (SUPPR|CONT|CANC)]
unfoldable pub until_word : Grammar OnUntil
until_word =
    (made (λ x. until.Suppr) ⊛ key (codes "SUPPR")) or (made (λ x. until.Cont) ⊛ key (codes "CONT"))
    or (made (λ x. until.Canc) ⊛ key (codes "CANC"))

unfoldable pub on_until : Grammar OnUntil
on_until = (made (λ x u. u) ⊛ key (codes "ONUNTIL") ⊛ until_word) or made until.Suppr

-- pred = [ws#]name | [ws#]name.@ | [ws#]name.name | name
unfoldable pub next_pred : Grammar Pred
next_pred = made (λ x p. p) ⊛ comma ⊛ pred

unfoldable pub preds : Grammar (List Pred)
preds = with_commas pred next_pred

-- [n] [ws#]name
abbrev pub need_of : Option ℕ → List ℕ → Need
need_of n w = record { units = n; ws = ws_of w; name = own_of w }

unfoldable pub units : Grammar (Option ℕ)
units = (made Some ⊛ number) or made None

unfoldable pub need : Grammar Need
need = made need_of ⊛ units ⊛ one a_scoped (λ t. bytes_of t.shape)

unfoldable pub next_need : Grammar Need
next_need = made (λ x n. n) ⊛ comma ⊛ need

unfoldable pub needs : Grammar (List Need)
needs = with_commas need next_need

-- a prompt by its name, or a text of its own
unfoldable pub prompt : Grammar PromptItem
prompt = (made ask.Name ⊛ name) or (made ask.Own ⊛ text)

unfoldable pub next_prompt : Grammar PromptItem
next_prompt = made (λ x p. p) ⊛ comma ⊛ prompt

unfoldable pub prompts : Grammar (List PromptItem)
prompts = with_commas prompt next_prompt

-- a file, behind which a `(` is left out
unfoldable pub no_qualifier : Grammar (Unit {0})
no_qualifier = left_out (a_mark 40) or made tt

unfoldable pub file : Grammar (List ℕ)
file = text ⊲ no_qualifier

unfoldable pub next_file : Grammar (List ℕ)
next_file = made (λ x f. f) ⊛ comma ⊛ file

unfoldable pub files : Grammar (List (List ℕ))
files = with_commas file next_file

-- number | HI | GO
unfoldable pub priority : Grammar ℕ
priority = number or (made (λ x. 100) ⊛ key (codes "HI")) or (made (λ x. 101) ⊛ key (codes "GO"))

unfoldable pub at_clause : Grammar (Lined Clause)
at_clause = made (λ l t d. lined l (At t d)) ⊛ key (codes "AT") ⊛ time ⊛ plus_days

unfoldable pub until_clause : Grammar (Lined Clause)
until_clause = made (λ l t d u. lined l (Until t d u)) ⊛ key (codes "UNTIL") ⊛ time ⊛ plus_days ⊛ on_until

unfoldable pub deadline_clause : Grammar (Lined Clause)
deadline_clause = made (λ l t d. lined l (Deadline t d)) ⊛ key (codes "DEADLINE") ⊛ time ⊛ plus_days

unfoldable pub priority_clause : Grammar (Lined Clause)
priority_clause = made (λ l n. lined l (Priority n)) ⊛ key (codes "PRIORITY") ⊛ priority

unfoldable pub limit_clause : Grammar (Lined Clause)
limit_clause = made (λ l n. lined l (Limit n)) ⊛ key (codes "LIMIT") ⊛ number

unfoldable pub carry_clause : Grammar (Lined Clause)
carry_clause = made (λ l. lined l CarryForward) ⊛ key (codes "CARRYFORWARD")

unfoldable pub follows_clause : Grammar (Lined Clause)
follows_clause = made (λ l ps. lined l (Follows ps)) ⊛ key (codes "FOLLOWS") ⊛ preds

unfoldable pub needs_clause : Grammar (Lined Clause)
needs_clause = made (λ l ns. lined l (Needs ns)) ⊛ key (codes "NEEDS") ⊛ needs

unfoldable pub prompt_clause : Grammar (Lined Clause)
prompt_clause = made (λ l ps. lined l (Prompt ps)) ⊛ key (codes "PROMPT") ⊛ prompts

unfoldable pub opens_clause : Grammar (Lined Clause)
opens_clause = made (λ l fs. lined l (Opens fs)) ⊛ key (codes "OPENS") ⊛ files

-- clause = AT time [+n DAYS] | UNTIL time [+n DAYS] [ONUNTIL (SUPPR|CONT|CANC)] | DEADLINE time [+n DAYS]
--        | PRIORITY (number|HI|GO) | LIMIT number | CARRYFORWARD | FOLLOWS pred [, pred]...
--        | NEEDS [n] [ws#]name [, ...same] | PROMPT (name|text) [, (name|text)]... | OPENS text [, text]...
unfoldable pub clause : Grammar (Lined Clause)
clause =
    at_clause or until_clause or deadline_clause or priority_clause or limit_clause or carry_clause or follows_clause
    or needs_clause or prompt_clause or opens_clause

abbrev pub is_at : Clause → Bool
is_at (At t d) = true
is_at c = false

abbrev pub is_until : Clause → Bool
is_until (Until t d u) = true
is_until c = false

abbrev pub is_deadline : Clause → Bool
is_deadline (Deadline t d) = true
is_deadline c = false

abbrev pub is_priority : Clause → Bool
is_priority (Priority n) = true
is_priority c = false

abbrev pub is_limit : Clause → Bool
is_limit (Limit n) = true
is_limit c = false

abbrev pub is_carry : Clause → Bool
is_carry CarryForward = true
is_carry c = false

abbrev pub has_clause : (Clause → Bool) → List (Lined Clause) → Bool
has_clause p cs = list_any (λ c. p c.item) cs

-- AT, UNTIL, DEADLINE, PRIORITY, LIMIT and CARRYFORWARD stand at most once, and the last two on streams alone.
abbrev pub may_clause : Bool → List (Lined Clause) → Spelled → Bool
may_clause stream cs t =
    once (has_clause is_at cs) (codes "AT") t && (once (has_clause is_until cs) (codes "UNTIL") t
    && (once (has_clause is_deadline cs) (codes "DEADLINE") t && (once (has_clause is_priority cs) (codes "PRIORITY") t
    && (once (not stream || has_clause is_limit cs) (codes "LIMIT") t
    && once (not stream || has_clause is_carry cs) (codes "CARRYFORWARD") t))))

-- the token begins one of those
abbrev pub is_single : Spelled → Bool
is_single t =
    is (keyword (codes "AT")) t || (is (keyword (codes "UNTIL")) t || (is (keyword (codes "DEADLINE")) t
    || (is (keyword (codes "PRIORITY")) t || (is (keyword (codes "LIMIT")) t || (is (keyword (codes "CARRYFORWARD")) t || false)))))

-- clause...                                                                            (any order)
unfoldable pub clauses : Bool → Grammar (List (Lined Clause))
clauses stream = many [] put (may_clause stream) clause (λ cs. cs)
