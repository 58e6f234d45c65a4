-- How many items the lists of definitions have, at most as many as their text has bytes.
use Rattle.std.proofs.Common.{◌≤◌, ◌+◌, ℕ, Bool, true, false, inl, List, [], ◌∷◌, length, Ok, sym, arith}
use Rattle.std.specs.List.{sum_by}
use Rattle.std.proofs.lemmas.List.{length-map}
use Rattle.std.proofs.lemmas.List.Sums.{sum_by_push}
use Rattle.base_types.specs.declared.Token.{Token}
use Rattle.composer_lexer.specs.Places.{AreTokens}
use Rattle.composer_lexer.proofs.Places.{slices}
use Rattle.composer_parser.specs.declared.Lined.{Lined}
use Rattle.composer_parser.specs.declared.Clause.{Clause}
use Rattle.composer_parser.specs.declared.Clause.TheVariants as clause
use Rattle.composer_parser.specs.declared.EntryDef.{EntryDef}
use Rattle.composer_parser.specs.declared.ScheduleDef.{ScheduleDef}
use Rattle.composer_parser.specs.declared.Defs.{Defs}
use Rattle.composer_parser.specs.Clauses as grammar
use Rattle.composer_parser.specs.Composer as whole
use Rattle.composer_parser.specs.Faults.{last_line_of}
use Rattle.composer_parser.specs.Parts.{key}
use Rattle.composer_parser.specs.Schedules as streams
use Rattle.composer_parser.specs.Tokens.{all_spelled, spelled}
use Rattle.definition_texts.specs.Refusals.{AreDefinitions}
use Rattle.draft_laws.proofs.Sized.{Sized, sized_any, sized_made, sized_one, sized_app, sized_both, sized_skip, sized_or, sized_many, sized_list, sized_commas}

-- how many dependencies come of a clause at most
abbrev pub clause_weight : Clause → ℕ
clause_weight (clause.Follows ps) = length ps
clause_weight (clause.Needs ns) = length ns
clause_weight (clause.Prompt ps) = length ps
clause_weight (clause.Opens paths) = length paths
clause_weight (clause.At minute days) = 1
clause_weight (clause.Until minute days u) = 1
clause_weight (clause.Deadline minute days) = 1
clause_weight (clause.Priority n) = 0
clause_weight (clause.Limit n) = 0
clause_weight clause.CarryForward = 0

abbrev pub lined_weight : Lined Clause → ℕ
lined_weight l = clause_weight l.item

-- an entry and its dependencies
abbrev pub entry_weight : Lined EntryDef → ℕ
entry_weight e = 1 + sum_by lined_weight e.item.clauses

-- a stream, its dependencies and its entries
abbrev pub stream_weight : Lined ScheduleDef → ℕ
stream_weight s = 1 + sum_by lined_weight s.item.clauses + sum_by entry_weight s.item.entries

abbrev pub weight : Defs → ℕ
weight d = sum_by stream_weight d.schedules

-- clauses
some_key : (k : List ℕ) → Sized (key k) (λ x n. 1 ≤ n)
some_key k = sized_one (λ t. omega arith)

sized_preds : Sized grammar.preds (λ ps n. length ps ≤ n)
unfolding grammar.preds
sized_preds = sized_commas (sized_one (λ t. omega arith))

sized_needs : Sized grammar.needs (λ ns n. length ns ≤ n)
unfolding grammar.needs grammar.need
sized_needs =
    sized_commas
    (sized_app {P = λ w n. 1 ≤ n} (sized_app (sized_made (λ u m a w n some. omega (arith, some))) sized_any)
    (sized_one (λ t. omega arith)))

sized_prompts : Sized grammar.prompts (λ ps n. length ps ≤ n)
unfolding grammar.prompts grammar.prompt
sized_prompts =
    sized_commas
    (sized_or (sized_app {P = λ w n. 1 ≤ n} (sized_made (λ w n some. omega (arith, some))) (sized_one (λ t. omega arith)))
    (sized_app {P = λ w n. 1 ≤ n} (sized_made (λ w n some. omega (arith, some))) (sized_one (λ t. omega arith))))

sized_files : Sized grammar.files (λ fs n. length fs ≤ n)
unfolding grammar.files grammar.file
sized_files =
    sized_commas
    (sized_skip {P = λ f n. 1 ≤ n} (sized_one (λ t. omega arith)) (λ f m n some. omega (arith, some)))

sized_at : Sized grammar.at_clause (λ l n. lined_weight l ≤ n)
unfolding grammar.at_clause
sized_at =
    sized_app (sized_app (sized_app (sized_made (λ l i some t j a days k b. omega (arith, some))) (some_key _)) sized_any)
    sized_any

sized_until : Sized grammar.until_clause (λ l n. lined_weight l ≤ n)
unfolding grammar.until_clause
sized_until =
    sized_app
    (sized_app
    (sized_app (sized_app (sized_made (λ l i some t j a days k b u m e. omega (arith, some))) (some_key _)) sized_any)
    sized_any)
    sized_any

sized_deadline : Sized grammar.deadline_clause (λ l n. lined_weight l ≤ n)
unfolding grammar.deadline_clause
sized_deadline =
    sized_app (sized_app (sized_app (sized_made (λ l i some t j a days k b. omega (arith, some))) (some_key _)) sized_any)
    sized_any

sized_priority : Sized grammar.priority_clause (λ l n. lined_weight l ≤ n)
unfolding grammar.priority_clause
sized_priority = sized_app (sized_app (sized_made (λ l i a p j b. omega arith)) sized_any) sized_any

sized_limit : Sized grammar.limit_clause (λ l n. lined_weight l ≤ n)
unfolding grammar.limit_clause
sized_limit = sized_app (sized_app (sized_made (λ l i a p j b. omega arith)) sized_any) sized_any

sized_carry : Sized grammar.carry_clause (λ l n. lined_weight l ≤ n)
unfolding grammar.carry_clause
sized_carry = sized_app (sized_made (λ l i a. omega arith)) sized_any

sized_follows : Sized grammar.follows_clause (λ l n. lined_weight l ≤ n)
unfolding grammar.follows_clause
sized_follows = sized_app (sized_app (sized_made (λ l i a ps j few. omega (arith, few))) sized_any) sized_preds

sized_needs_clause : Sized grammar.needs_clause (λ l n. lined_weight l ≤ n)
unfolding grammar.needs_clause
sized_needs_clause = sized_app (sized_app (sized_made (λ l i a ns j few. omega (arith, few))) sized_any) sized_needs

sized_prompt_clause : Sized grammar.prompt_clause (λ l n. lined_weight l ≤ n)
unfolding grammar.prompt_clause
sized_prompt_clause = sized_app (sized_app (sized_made (λ l i a ps j few. omega (arith, few))) sized_any) sized_prompts

sized_opens : Sized grammar.opens_clause (λ l n. lined_weight l ≤ n)
unfolding grammar.opens_clause
sized_opens = sized_app (sized_app (sized_made (λ l i a fs j few. omega (arith, few))) sized_any) sized_files

sized_clause : Sized grammar.clause (λ l n. lined_weight l ≤ n)
unfolding grammar.clause
sized_clause =
    sized_or sized_at
    (sized_or sized_until
    (sized_or sized_deadline
    (sized_or sized_priority
    (sized_or sized_limit
    (sized_or sized_carry
    (sized_or sized_follows (sized_or sized_needs_clause (sized_or sized_prompt_clause sized_opens))))))))

sized_clauses : (stream : Bool) → Sized (grammar.clauses stream) (λ cs n. sum_by lined_weight cs ≤ n)
unfolding grammar.clauses
sized_clauses stream =
    sized_many [] (λ cs. cs) (λ cs n. sum_by lined_weight cs ≤ n) (omega arith) sized_clause
    (λ cs m l n h k some. omega (arith, h, k, sum_by_push lined_weight cs l)) (λ cs n h. h)

-- streams
sized_entry : Sized streams.entry (λ e n. entry_weight e ≤ n)
unfolding streams.entry
sized_entry =
    sized_app
    (sized_app
    (sized_app {P = λ t n. 1 ≤ n} (sized_made (λ t i some w j a cs k few. omega (arith, some, few))) (sized_one (λ t. omega arith)))
    sized_any)
    (sized_clauses false)

sized_entries : Sized streams.entries (λ es n. sum_by entry_weight es ≤ n)
unfolding streams.entries
sized_entries = sized_list entry_weight sized_entry

sized_header : Sized streams.header (λ s n. sum_by lined_weight s.item.clauses ≤ n)
unfolding streams.header
sized_header =
    sized_skip {P = λ s n. sum_by lined_weight s.item.clauses ≤ n}
    (sized_app (sized_app (sized_app (sized_made (λ t i a os j b cs k few. omega (arith, few))) sized_any) sized_any)
    (sized_clauses true))
    (λ s m n few. omega (arith, few))

abbrev Behind : Lined ScheduleDef → ℕ → Type 0
Behind s n = sum_by lined_weight s.item.clauses + sum_by entry_weight s.item.entries ≤ n

sized_schedule : Sized streams.schedule (λ s n. stream_weight s ≤ n)
unfolding streams.schedule
sized_schedule =
    sized_both {P = Behind} {Q = λ x n. 1 ≤ n}
    (sized_app (sized_app (sized_made (λ s i head es j few. omega (arith, head, few))) sized_header) sized_entries)
    (some_key _) (λ s m x n few some. omega (arith, few, some))

-- one statement more
sized_statement : Sized whole.statement (λ s n. (d : Defs) → weight (whole.after_statement d s) ≤ weight d + n)
unfolding whole.statement whole.cpu_statement whole.domain_statement whole.calendar_group whole.prompt_group whole.resource_group whole.job_group whole.schedule_statement
sized_statement =
    sized_or (sized_app (sized_made (λ x n a d. omega arith)) sized_any)
    (sized_or (sized_app (sized_made (λ x n a d. omega arith)) sized_any)
    (sized_or (sized_app (sized_app (sized_made (λ x m a xs n b d. omega arith)) sized_any) sized_any)
    (sized_or (sized_app (sized_app (sized_made (λ x m a xs n b d. omega arith)) sized_any) sized_any)
    (sized_or (sized_app (sized_app (sized_made (λ x m a xs n b d. omega arith)) sized_any) sized_any)
    (sized_or (sized_app (sized_app (sized_made (λ x m a xs n b d. omega arith)) sized_any) sized_any)
    (sized_app
    (sized_made (λ s n few d. omega (arith, few, sum_by_push stream_weight d.schedules s))) sized_schedule))))))

sized_defs : (last : ℕ) → Sized (whole.defs last) (λ d n. weight d ≤ n)
unfolding whole.defs whole.statements
sized_defs last =
    sized_app (sized_app (sized_made (λ o i a d j few. omega (arith, few))) sized_any)
    (sized_many (whole.no_defs last) (λ d. d) (λ d n. weight d ≤ n) (omega arith) sized_statement
    (λ d m s n few more some. omega (arith, few, more d)) (λ d n few. few))

-- each token has a byte of its own
tokens_few : (text : List ℕ) (place : ℕ) (ts : List Token) → AreTokens text place ts → place ≤ length text
    → place + length ts ≤ length text
tokens_few text place [] h within = omega (arith, within)
tokens_few text place (t ∷ ts) h within =
    let here = h.1 in
    let more = tokens_few text t.end ts h.2 here.within in
    let first = h.0 in
    let some = here.some in
    omega (arith, first, some, more)

pub weight_few : (text : List ℕ) (d : Defs) → AreDefinitions text d → weight d ≤ length text
weight_few text d h =
    let few = (sized_defs (last_line_of text)).holds (all_spelled text h.tokens) d h.spelled in
    let tokens = tokens_few text 0 h.tokens (slices text (Ok h.tokens) (inl (sym h.has.are))) (omega arith) in
    let same = length-map h.tokens (spelled text) in
    omega (arith, few, tokens, same)
