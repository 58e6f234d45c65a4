-- The lines of dependencies: what each is without its line feed, and which row it is.
use Rattle.std.proofs.Common.{◌≡◌, ◌≤◌, ◌<◌, ◌^◌, ℕ, true, false, not, eqb, List, [], ◌∷◌, ◌++◌}
use Rattle.std.proofs.Common.{Option, Some, None, length, refl, ap, ◌∙◌, arith, codes, option_map, slice_index}
use Rattle.std.specs.Fmt.{decimal}
use Rattle.std.specs.List.{list_all}
use Rattle.lemmas.proofs.Booleans.{not_holds}
use Rattle.lemmas.proofs.Texts.{text_itself}
use Rattle.conman_syntax.specs.Values.{passed_of}
use Rattle.model.specs.Types.{Net, OnUntil, Suppr, Cont, Canc, DraftDep}
use Rattle.model.specs.Types.{FollowsJob, FollowsStream, Needs, Prompt, At, Until, Outside, Deadline, Global, Own, Follows, Plain}
use Rattle.plan_listing.specs.Dependencies.{dep_line, draft_dep_line, prompt_name, resource_name, until_word}
use Rattle.record_rows.specs.Plans.{ask_of, dep_of, follows_of, needs_of, part_of, until_of}
use Rattle.record_rows.specs.Rows.{◌else_◌, network_row, plan_row, row_of}
use Rattle.record_rows.specs.Steps.{step_of}
use Rattle.record_rows.specs.Words.{sized, text_of}
use Rattle.record_rows.specs.declared.rows.DepRow.{DepRow}
use Rattle.record_rows.specs.declared.rows.DepRow.TheVariants as dep
use Rattle.record_rows.specs.declared.rows.Row.{Row}
use Rattle.record_rows.specs.declared.rows.Row.TheVariants as row
use Rattle.record_rows.specs.declared.rows.Ranged.TheVariants.{Within}
use Rattle.report_text.specs.Names.{name_of}
use Rattle.syntax.specs.Quotes.{quoted_text}
use Rattle.history_laws.specs.Printables.{IsKeptName, IsLineText}
use Rattle.history_laws.proofs.Lines.{Lacks, after_here, before_here, lacks_append, lacks_by, left_four, left_six}
use Rattle.history_laws.proofs.Words.{name_lacks_feed, number_lacks_feed, number_lacks_space, plain_first, plain_lacks_feed}
use Rattle.history_laws.proofs.Words.{text_back, text_lacks_feed, total_back}
use Rattle.listing_laws.proofs.Spelled.{Spells, spells_as, spells_line}
use Rattle.listing_laws.proofs.Words.{before_none, form_in, front_is_other, line_by, name_lacks_hash, name_lacks_point}
use Rattle.listing_laws.proofs.Words.{name_lacks_quote, sized_64, wide}

-- What each is.

abbrev pub dep_text : Net → DraftDep → List ℕ
dep_text net (Follows w s None) = codes "follows " ++ (name_of net w ++ (codes "#" ++ s))
dep_text net (Follows w s (Some j)) = codes "follows " ++ (name_of net w ++ (codes "#" ++ (s ++ (codes "." ++ j))))
dep_text net (Plain (FollowsJob j)) = []
dep_text net (Plain (FollowsStream s)) = []
dep_text net (Plain (Needs r n)) = codes "needs " ++ (decimal n ++ (codes " " ++ resource_name net r))
dep_text net (Plain (Prompt (Global p))) = codes "ask " ++ prompt_name net p
dep_text net (Plain (Prompt (Own t))) = codes "ask " ++ quoted_text t
dep_text net (Plain (At t)) = codes "at " ++ decimal t
dep_text net (Plain (Until t then_)) = codes "until " ++ (decimal t ++ (codes " " ++ until_word then_))
dep_text net (Plain (Outside path)) = codes "opens " ++ quoted_text path
dep_text net (Plain (Deadline t)) = codes "deadline " ++ decimal t

abbrev pub dep_part : Net → DraftDep → DepRow
dep_part net (Follows w s None) = dep.FollowsStream (name_of net w) s
dep_part net (Follows w s (Some j)) = dep.FollowsJob (name_of net w) s j
dep_part net (Plain (FollowsJob j)) = dep.FollowsOwn []
dep_part net (Plain (FollowsStream s)) = dep.FollowsOwn []
dep_part net (Plain (Needs r n)) = dep.Needs (Within n) (resource_name net r)
dep_part net (Plain (Prompt (Global p))) = dep.AskGlobal (prompt_name net p)
dep_part net (Plain (Prompt (Own t))) = dep.AskOwn (Within t)
dep_part net (Plain (At t)) = dep.At (Within t)
dep_part net (Plain (Until t then_)) = dep.Until (Within t) then_
dep_part net (Plain (Outside path)) = dep.Opens (Within path)
dep_part net (Plain (Deadline t)) = dep.Deadline (Within t)

abbrev pub dep_row : Net → DraftDep → Row
dep_row net d = row.Dep (dep_part net d)

-- what each has that is a line; dependencies by number have none
abbrev pub IsDepLine : Net → DraftDep → Type 0
IsDepLine net (Follows w s None) = IsKeptName (name_of net w) × IsKeptName s
IsDepLine net (Follows w s (Some j)) = IsKeptName (name_of net w) × IsKeptName s × IsKeptName j
IsDepLine net (Plain (FollowsJob j)) = ⊥
IsDepLine net (Plain (FollowsStream s)) = ⊥
IsDepLine net (Plain (Needs r n)) = IsKeptName (resource_name net r) × (n ≤ 1024)
IsDepLine net (Plain (Prompt (Global p))) = IsKeptName (prompt_name net p)
IsDepLine net (Plain (Prompt (Own t))) = IsLineText t
IsDepLine net (Plain (At t)) = t < 2 ^ 64
IsDepLine net (Plain (Until t then_)) = t < 2 ^ 64
IsDepLine net (Plain (Outside path)) = IsLineText path
IsDepLine net (Plain (Deadline t)) = t < 2 ^ 64

-- The line feed behind it.

pub dep_line_is : (net : Net) (d : DraftDep) → IsDepLine net d → draft_dep_line net d ≡ dep_text net d ++ 10 ∷ []
unfolding draft_dep_line dep_line
dep_line_is net (Follows w s None) h =
    ap (λ l. l ++ 10 ∷ []) (left_four (codes "follows ") (name_of net w) (codes "#") s)
dep_line_is net (Follows w s (Some j)) h =
    ap (λ l. l ++ 10 ∷ []) (left_six (codes "follows ") (name_of net w) (codes "#") s (codes ".") j)
dep_line_is net (Plain (FollowsJob j)) h = absurd h
dep_line_is net (Plain (FollowsStream s)) h = absurd h
dep_line_is net (Plain (Needs r n)) h =
    ap (λ l. l ++ 10 ∷ []) (left_four (codes "needs ") (decimal n) (codes " ") (resource_name net r))
dep_line_is net (Plain (Prompt (Global p))) h = refl
dep_line_is net (Plain (Prompt (Own t))) h = refl
dep_line_is net (Plain (At t)) h = refl
dep_line_is net (Plain (Until t then_)) h =
    ap (λ l. l ++ 10 ∷ []) (left_four (codes "until ") (decimal t) (codes " ") (until_word then_))
dep_line_is net (Plain (Outside path)) h = refl
dep_line_is net (Plain (Deadline t)) h = refl

until_lacks_feed : (o : OnUntil) → Lacks 10 (until_word o)
until_lacks_feed Suppr = plain_lacks_feed (codes "suppr") refl
until_lacks_feed Cont = plain_lacks_feed (codes "cont") refl
until_lacks_feed Canc = plain_lacks_feed (codes "canc") refl

dep_lacks_feed : (net : Net) (d : DraftDep) → IsDepLine net d → Lacks 10 (dep_text net d)
dep_lacks_feed net (Follows w s None) h =
    plain_first (codes "follows ") (name_of net w ++ (codes "#" ++ s)) refl
    (lacks_append 10 (name_of net w) (codes "#" ++ s) (name_lacks_feed (name_of net w) h.0)
    (plain_first (codes "#") s refl (name_lacks_feed s h.1)))
dep_lacks_feed net (Follows w s (Some j)) h =
    plain_first (codes "follows ") (name_of net w ++ (codes "#" ++ (s ++ (codes "." ++ j)))) refl
    (lacks_append 10 (name_of net w) (codes "#" ++ (s ++ (codes "." ++ j))) (name_lacks_feed (name_of net w) h.0)
    (plain_first (codes "#") (s ++ (codes "." ++ j)) refl
    (lacks_append 10 s (codes "." ++ j) (name_lacks_feed s h.1) (plain_first (codes ".") j refl (name_lacks_feed j h.2)))))
dep_lacks_feed net (Plain (FollowsJob j)) h = absurd h
dep_lacks_feed net (Plain (FollowsStream s)) h = absurd h
dep_lacks_feed net (Plain (Needs r n)) h =
    plain_first (codes "needs ") (decimal n ++ (codes " " ++ resource_name net r)) refl
    (lacks_append 10 (decimal n) (codes " " ++ resource_name net r) (number_lacks_feed n (wide n 1024 h.1 (omega arith)))
    (plain_first (codes " ") (resource_name net r) refl (name_lacks_feed (resource_name net r) h.0)))
dep_lacks_feed net (Plain (Prompt (Global p))) h =
    plain_first (codes "ask ") (prompt_name net p) refl (name_lacks_feed (prompt_name net p) h)
dep_lacks_feed net (Plain (Prompt (Own t))) h = plain_first (codes "ask ") (quoted_text t) refl (text_lacks_feed t h)
dep_lacks_feed net (Plain (At t)) h = plain_first (codes "at ") (decimal t) refl (number_lacks_feed t h)
dep_lacks_feed net (Plain (Until t then_)) h =
    plain_first (codes "until ") (decimal t ++ (codes " " ++ until_word then_)) refl
    (lacks_append 10 (decimal t) (codes " " ++ until_word then_) (number_lacks_feed t h)
    (plain_first (codes " ") (until_word then_) refl (until_lacks_feed then_)))
dep_lacks_feed net (Plain (Outside path)) h =
    plain_first (codes "opens ") (quoted_text path) refl (text_lacks_feed path h)
dep_lacks_feed net (Plain (Deadline t)) h = plain_first (codes "deadline ") (decimal t) refl (number_lacks_feed t h)

-- What stands behind the first word.

passed_back : (o : OnUntil) → passed_of (until_word o) ≡ Some o
unfolding passed_of
passed_back Suppr = refl
passed_back Cont = refl
passed_back Canc = refl

until_back : (t : ℕ) (o : OnUntil) → t < 2 ^ 64
    → until_of (decimal t ++ 32 ∷ until_word o) ≡ Some (dep.Until (Within t) o)
unfolding until_of
until_back t o h =
    let free = number_lacks_space t h in
    rw (before_here 32 (decimal t) (until_word o) free, sized_64 t h, after_here 32 (decimal t) (until_word o) free, passed_back o) refl

needs_back : (n : ℕ) (name : List ℕ) → n ≤ 1024 → IsKeptName name
    → needs_of (decimal n ++ 32 ∷ name) ≡ Some (dep.Needs (Within n) name)
unfolding needs_of
needs_back n name low kept =
    let free = number_lacks_space n (wide n 1024 low (omega arith)) in
    rw (before_here 32 (decimal n) name free, total_back n 1024 low (wide n 1024 low (omega arith)), after_here 32 (decimal n) name free, kept) refl

stream_back : (w s : List ℕ) → IsKeptName w → IsKeptName s → follows_of (w ++ 35 ∷ s) ≡ Some (dep.FollowsStream w s)
unfolding follows_of
stream_back w s first second =
    let free = name_lacks_hash w first in
    rw (
      before_here 35 w s free,
      front_is_other w s 35,
      first,
      after_here 35 w s free,
      before_none 46 s (name_lacks_point s second),
      second,
      text_itself s,
    ) refl

job_back : (w s j : List ℕ) → IsKeptName w → IsKeptName s → IsKeptName j
    → follows_of (w ++ 35 ∷ (s ++ 46 ∷ j)) ≡ Some (dep.FollowsJob w s j)
unfolding follows_of
job_back w s j first second third =
    let free = name_lacks_hash w first in
    let point = name_lacks_point s second in
    rw (
      before_here 35 w (s ++ 46 ∷ j) free,
      front_is_other w (s ++ 46 ∷ j) 35,
      first,
      after_here 35 w (s ++ 46 ∷ j) free,
      before_here 46 s j point,
      second,
      front_is_other s j 46,
      after_here 46 s j point,
      third,
    ) refl

no_quote_first : (n : List ℕ) → Lacks 34 n → eqb (slice_index n 0) 34 ≡ false
no_quote_first [] h = refl
no_quote_first (c ∷ n) h = h.0

name_asked : (n : List ℕ) → IsKeptName n → ask_of n ≡ Some (dep.AskGlobal n)
unfolding ask_of
name_asked n kept = rw (no_quote_first n (name_lacks_quote n kept), kept) refl

quote_first : (t : List ℕ) → eqb (slice_index (quoted_text t) 0) 34 ≡ true
unfolding quoted_text
quote_first t = refl

text_asked : (t : List ℕ) → length t ≤ 4096 → ask_of (quoted_text t) ≡ Some (dep.AskOwn (Within t))
unfolding ask_of
text_asked t room = rw (quote_first t, text_back t room) refl

-- Their forms.

at_form : (rest text : List ℕ) → form_in (codes "at") rest text
    ≡ (option_map row.Dep (option_map dep.At (sized 64 rest)) else_ option_map row.Step (step_of text))
unfolding network_row plan_row part_of dep_of
at_form rest text = refl

until_form : (rest text : List ℕ) → form_in (codes "until") rest text
    ≡ (option_map row.Dep (until_of rest) else_ option_map row.Step (step_of text))
unfolding network_row plan_row part_of dep_of
until_form rest text = refl

deadline_form : (rest text : List ℕ) → form_in (codes "deadline") rest text
    ≡ (option_map row.Dep (option_map dep.Deadline (sized 64 rest)) else_ option_map row.Step (step_of text))
unfolding network_row plan_row part_of dep_of
deadline_form rest text = refl

follows_form : (rest text : List ℕ) → form_in (codes "follows") rest text
    ≡ (option_map row.Dep (follows_of rest) else_ option_map row.Step (step_of text))
unfolding network_row plan_row part_of dep_of
follows_form rest text = refl

needs_form : (rest text : List ℕ) → form_in (codes "needs") rest text
    ≡ (option_map row.Dep (needs_of rest) else_ option_map row.Step (step_of text))
unfolding network_row plan_row part_of dep_of
needs_form rest text = refl

ask_form : (rest text : List ℕ) → form_in (codes "ask") rest text
    ≡ (option_map row.Dep (ask_of rest) else_ option_map row.Step (step_of text))
unfolding network_row plan_row part_of dep_of
ask_form rest text = refl

opens_form : (rest text : List ℕ) → form_in (codes "opens") rest text
    ≡ (option_map row.Dep (option_map dep.Opens (text_of rest)) else_ option_map row.Step (step_of text))
unfolding network_row plan_row part_of dep_of
opens_form rest text = refl

-- a word without a blank
pub plain_word : (w : List ℕ) → list_all (λ b. not (eqb b 32)) w ≡ true → Lacks 32 w
plain_word w e = lacks_by 32 (λ b. not (eqb b 32)) (λ b h. not_holds (eqb b 32) h) w e

-- the form by what the dependency is
found : (o : Option DepRow) (d : DepRow) (text : List ℕ) → o ≡ Some d
    → (option_map row.Dep o else_ option_map row.Step (step_of text)) ≡ Some (row.Dep d)
found o d text is = ap (λ x. option_map row.Dep x else_ option_map row.Step (step_of text)) is

dep_row_is : (net : Net) (d : DraftDep) → IsDepLine net d → row_of (dep_text net d) ≡ dep_row net d
dep_row_is net (Follows w s None) h =
    line_by 102 (codes "ollows") (name_of net w ++ 35 ∷ s) (dep_row net (Follows w s None)) refl refl
    (plain_word (codes "follows") refl)
    (λ text. follows_form (name_of net w ++ 35 ∷ s) text
    ∙ found (follows_of (name_of net w ++ 35 ∷ s)) (dep.FollowsStream (name_of net w) s) text
    (stream_back (name_of net w) s h.0 h.1))
dep_row_is net (Follows w s (Some j)) h =
    line_by 102 (codes "ollows") (name_of net w ++ 35 ∷ (s ++ 46 ∷ j)) (dep_row net (Follows w s (Some j))) refl refl
    (plain_word (codes "follows") refl)
    (λ text. follows_form (name_of net w ++ 35 ∷ (s ++ 46 ∷ j)) text
    ∙ found (follows_of (name_of net w ++ 35 ∷ (s ++ 46 ∷ j))) (dep.FollowsJob (name_of net w) s j) text
    (job_back (name_of net w) s j h.0 h.1 h.2))
dep_row_is net (Plain (FollowsJob j)) h = absurd h
dep_row_is net (Plain (FollowsStream s)) h = absurd h
dep_row_is net (Plain (Needs r n)) h =
    line_by 110 (codes "eeds") (decimal n ++ 32 ∷ resource_name net r) (dep_row net (Plain (Needs r n))) refl refl
    (plain_word (codes "needs") refl)
    (λ text. needs_form (decimal n ++ 32 ∷ resource_name net r) text
    ∙ found (needs_of (decimal n ++ 32 ∷ resource_name net r)) (dep.Needs (Within n) (resource_name net r)) text
    (needs_back n (resource_name net r) h.1 h.0))
dep_row_is net (Plain (Prompt (Global p))) h =
    line_by 97 (codes "sk") (prompt_name net p) (dep_row net (Plain (Prompt (Global p)))) refl refl
    (plain_word (codes "ask") refl)
    (λ text. ask_form (prompt_name net p) text
    ∙ found (ask_of (prompt_name net p)) (dep.AskGlobal (prompt_name net p)) text (name_asked (prompt_name net p) h))
dep_row_is net (Plain (Prompt (Own t))) h =
    line_by 97 (codes "sk") (quoted_text t) (dep_row net (Plain (Prompt (Own t)))) refl refl
    (plain_word (codes "ask") refl)
    (λ text. ask_form (quoted_text t) text
    ∙ found (ask_of (quoted_text t)) (dep.AskOwn (Within t)) text (text_asked t h.room))
dep_row_is net (Plain (At t)) h =
    line_by 97 (codes "t") (decimal t) (dep_row net (Plain (At t))) refl refl (plain_word (codes "at") refl)
    (λ text. at_form (decimal t) text
    ∙ found (option_map dep.At (sized 64 (decimal t))) (dep.At (Within t)) text (ap (option_map dep.At) (sized_64 t h)))
dep_row_is net (Plain (Until t then_)) h =
    line_by 117 (codes "ntil") (decimal t ++ 32 ∷ until_word then_) (dep_row net (Plain (Until t then_))) refl refl
    (plain_word (codes "until") refl)
    (λ text. until_form (decimal t ++ 32 ∷ until_word then_) text
    ∙ found (until_of (decimal t ++ 32 ∷ until_word then_)) (dep.Until (Within t) then_) text (until_back t then_ h))
dep_row_is net (Plain (Outside path)) h =
    line_by 111 (codes "pens") (quoted_text path) (dep_row net (Plain (Outside path))) refl refl
    (plain_word (codes "opens") refl)
    (λ text. opens_form (quoted_text path) text
    ∙ found (option_map dep.Opens (text_of (quoted_text path))) (dep.Opens (Within path)) text
    (ap (option_map dep.Opens) (text_back path h.room)))
dep_row_is net (Plain (Deadline t)) h =
    line_by 100 (codes "eadline") (decimal t) (dep_row net (Plain (Deadline t))) refl refl
    (plain_word (codes "deadline") refl)
    (λ text. deadline_form (decimal t) text
    ∙ found (option_map dep.Deadline (sized 64 (decimal t))) (dep.Deadline (Within t)) text
    (ap (option_map dep.Deadline) (sized_64 t h)))

-- the line of a dependency is its row
pub dep_spelled : (net : Net) (d : DraftDep) → IsDepLine net d → Spells (draft_dep_line net d) (dep_row net d ∷ [])
dep_spelled net d h =
    spells_as (draft_dep_line net d) (dep_text net d ++ 10 ∷ []) (dep_row net d ∷ []) (dep_line_is net d h)
    (spells_line (dep_text net d) (dep_row net d) (dep_lacks_feed net d h) (dep_row_is net d h))
