-- What is written of one clause at a time.
use Rattle.std.specs.Prelude.{ℕ, Bool, if◌then◌else◌, List, [], ◌++◌, codes, map, flat_map, Option}
use Rattle.std.specs.List.{list_any}
use Rattle.std.specs.Str.{bytes_eq}
use Rattle.std.specs.Borrow.{Bor}
use Rattle.std.specs.Fmt.{decimal}
use Rattle.composer_parser.specs.declared.definitions.Lined.{Lined}
use Rattle.composer_parser.specs.declared.clauses.Clause.{Clause}
use Rattle.composer_parser.specs.declared.clauses.Clause.TheVariants.{At, Until, Deadline, Priority, Limit, CarryForward, Follows, Needs, Prompt, Opens}
use Rattle.composer_print.specs.declared.kinds.Once.{Once}
use Rattle.composer_print.specs.declared.kinds.Once.TheVariants as once
use Rattle.composer_print.specs.declared.kinds.Joined.{Joined}
use Rattle.composer_print.specs.declared.kinds.Joined.TheVariants as joined
use Rattle.syntax.specs.Quotes.{quoted_text}
use Rattle.composer_print.specs.Clauses.{moment_text, until_text, priority_text, pred_text, need_text, prompt_text, list_text}
use Rattle.composer_print.specs.Scopes.{is_of, normal_pred, normal_need, preds_in, needs_in, prompts_in, files_in}

-- a name is among those of a set
abbrev pub has_key : List (Bor (List ℕ)) → List ℕ → Bool
has_key keys n = list_any (λ k. bytes_eq n k.now) keys

-- a clause that stands once, and nothing of the others
unfoldable pub single_text : Clause → List ℕ
single_text (At t d) = codes " AT " ++ moment_text t d
single_text (Until t d u) = codes " UNTIL " ++ moment_text t d ++ until_text u
single_text (Deadline t d) = codes " DEADLINE " ++ moment_text t d
single_text (Priority n) = codes " PRIORITY " ++ priority_text n
single_text (Limit n) = codes " LIMIT " ++ decimal n
single_text CarryForward = codes " CARRYFORWARD"
single_text (Follows ps) = []
single_text (Needs ns) = []
single_text (Prompt ps) = []
single_text (Opens fs) = []

-- a clause of this kind, and nothing of another
unfoldable pub kind_text : Once → Lined Clause → List ℕ
kind_text k c = if is_of k c.item then single_text c.item else []

-- what a clause adds to the list of a kind
unfoldable pub texts_of : Joined → List (List ℕ) → Option (List ℕ) → Option (List ℕ) → Lined Clause → List (List ℕ)
texts_of joined.Follows names home own c = map (λ p. pred_text (normal_pred names home p)) (preds_in c.item)
texts_of joined.Needs names home own c = map (λ n. need_text (normal_need own n)) (needs_in c.item)
texts_of joined.Prompt names home own c = map prompt_text (prompts_in c.item)
texts_of joined.Opens names home own c = map quoted_text (files_in c.item)

abbrev pub keyword_of : Joined → List ℕ
keyword_of joined.Follows = codes " FOLLOWS "
keyword_of joined.Needs = codes " NEEDS "
keyword_of joined.Prompt = codes " PROMPT "
keyword_of joined.Opens = codes " OPENS "

unfoldable pub joined_text : Joined → List (List ℕ) → Option (List ℕ) → Option (List ℕ) → List (Lined Clause) → List ℕ
joined_text k names home own cs = list_text (keyword_of k) (flat_map (texts_of k names home own) cs)

-- all of them, in the order of the kinds
unfoldable pub all_text : List (List ℕ) → Option (List ℕ) → Option (List ℕ) → List (Lined Clause) → List ℕ
all_text names home own cs =
    flat_map (kind_text once.At) cs ++ flat_map (kind_text once.Until) cs ++ flat_map (kind_text once.Deadline) cs
    ++ flat_map (kind_text once.Priority) cs ++ flat_map (kind_text once.Limit) cs
    ++ flat_map (kind_text once.CarryForward) cs ++ joined_text joined.Follows names home own cs
    ++ joined_text joined.Needs names home own cs ++ joined_text joined.Prompt names home own cs
    ++ joined_text joined.Opens names home own cs
