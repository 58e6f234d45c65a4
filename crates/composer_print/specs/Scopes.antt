-- Clauses in normal form: the workstations that names get, one clause of a kind, and their order.
use Rattle.std.specs.Prelude.{ℕ, Bool, true, false, ◌&&◌, not, ◌==◌, if◌then◌else◌, List, [], ◌∷◌, ◌++◌, map, filter, flat_map, Option, Some, None, is_none}
use Rattle.std.specs.List.{list_any}
use Rattle.std.specs.Str.{bytes_eq}
use Rattle.composer_parser.specs.declared.clauses.Clause.{Clause}
use Rattle.composer_parser.specs.declared.clauses.Clause.TheVariants.{Priority, Follows, Needs, Prompt, Opens}
use Rattle.composer_parser.specs.Clauses.{is_at, is_until, is_deadline, is_limit, is_carry}
use Rattle.composer_parser.specs.declared.clauses.Pred.{Pred}
use Rattle.composer_parser.specs.declared.clauses.PredPart.{PredPart}
use Rattle.composer_parser.specs.declared.clauses.PredPart.TheVariants as part
use Rattle.composer_parser.specs.declared.clauses.Need.{Need}
use Rattle.composer_parser.specs.declared.clauses.PromptItem.{PromptItem}
use Rattle.composer_print.specs.Texts.{unless}
use Rattle.composer_print.specs.declared.kinds.Once.{Once}
use Rattle.composer_print.specs.declared.kinds.Once.TheVariants as once

-- the workstation that is written, and another one where none is
abbrev pub or_home : Option (List ℕ) → Option (List ℕ) → Option (List ℕ)
or_home (Some w) home = Some w
or_home None home = home

abbrev pub has_name : List (List ℕ) → List ℕ → Bool
has_name names n = list_any (λ k. bytes_eq n k) names

-- One name alone means a job of the same stream, where there is one. The names are those of the stream's jobs; in the
-- header of a stream there are none.
abbrev pub is_plain : PredPart → Bool
is_plain part.Plain = true
is_plain part.All = false
is_plain (part.Job j) = false

abbrev pub is_own : List (List ℕ) → Pred → Bool
is_own names p = is_plain p.part && (is_none p.ws && has_name names p.name)

-- a job of the same stream gets no workstation, and any other name without one is on the stream's
abbrev pub pred_ws : List (List ℕ) → Option (List ℕ) → Pred → Option (List ℕ)
pred_ws names home p = if is_own names p then p.ws else or_home p.ws home

-- a stream with its workstation is the whole stream without `.@`
abbrev pub whole_part : PredPart → Option (List ℕ) → PredPart
whole_part part.Plain ws = part.Plain
whole_part part.All None = part.All
whole_part part.All (Some w) = part.Plain
whole_part (part.Job j) ws = part.Job j

unfoldable pub normal_pred : List (List ℕ) → Option (List ℕ) → Pred → Pred
normal_pred names home p = record {
  ws = pred_ws names home p;
  name = p.name;
  part = whole_part p.part (pred_ws names home p);
}

-- one unit is the default, and a resource without a workstation is on the object's
unfoldable pub normal_need : Option (List ℕ) → Need → Need
normal_need own n = record { units = unless 1 n.units; ws = or_home n.ws own; name = n.name }

-- the clauses that stand once, without the default of PRIORITY
abbrev pub is_own_priority : Clause → Bool
is_own_priority (Priority n) = not (n == 10)
is_own_priority c = false

unfoldable pub is_of : Once → Clause → Bool
is_of once.At c = is_at c
is_of once.Until c = is_until c
is_of once.Deadline c = is_deadline c
is_of once.Priority c = is_own_priority c
is_of once.Limit c = is_limit c
is_of once.CarryForward c = is_carry c

abbrev pub those : Once → List Clause → List Clause
those k cs = filter (is_of k) cs

-- what the clauses of the other kinds name, all of one kind together
unfoldable pub preds_in : Clause → List Pred
preds_in (Follows ps) = ps
preds_in c = []

unfoldable pub needs_in : Clause → List Need
needs_in (Needs ns) = ns
needs_in c = []

unfoldable pub prompts_in : Clause → List PromptItem
prompts_in (Prompt ps) = ps
prompts_in c = []

unfoldable pub files_in : Clause → List (List ℕ)
files_in (Opens fs) = fs
files_in c = []

-- a clause with all of them, where there is one
abbrev pub follows_of : List Pred → List Clause
follows_of [] = []
follows_of (p ∷ ps) = Follows (p ∷ ps) ∷ []

abbrev pub needs_of : List Need → List Clause
needs_of [] = []
needs_of (n ∷ ns) = Needs (n ∷ ns) ∷ []

abbrev pub prompt_of : List PromptItem → List Clause
prompt_of [] = []
prompt_of (p ∷ ps) = Prompt (p ∷ ps) ∷ []

abbrev pub opens_of : List (List ℕ) → List Clause
opens_of [] = []
opens_of (f ∷ fs) = Opens (f ∷ fs) ∷ []

-- the clauses of an object on a workstation, which belongs to a stream on a workstation with jobs of these names
unfoldable pub normal_clauses : List (List ℕ) → Option (List ℕ) → Option (List ℕ) → List Clause → List Clause
normal_clauses names home own cs =
    those once.At cs ++ (those once.Until cs ++ (those once.Deadline cs ++ (those once.Priority cs
    ++ (those once.Limit cs ++ (those once.CarryForward cs
    ++ (follows_of (map (normal_pred names home) (flat_map preds_in cs))
    ++ (needs_of (map (normal_need own) (flat_map needs_in cs))
    ++ (prompt_of (flat_map prompts_in cs) ++ opens_of (flat_map files_in cs)))))))))
