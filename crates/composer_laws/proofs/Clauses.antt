-- Clauses that are read back.
use Rattle.std.proofs.Common.{◌≡◌, ℕ, Bool, true, false, not, ◌&&◌, ◌||◌, cond, eqb, List, [], ◌∷◌, ◌++◌, map, flat_map, codes, arith, Option, Some, None, refl, ap, sym, ◌∙◌, append_assoc, append-nil}
use Rattle.std.specs.Fmt.{decimal}
use Rattle.std.specs.List.{list_any}
use Rattle.std.proofs.lemmas.List.{map-append}
use Rattle.std.proofs.lemmas.Bool.Decides.{nat_tests}
use Rattle.base_types.specs.declared.documents.OnUntil.{OnUntil}
use Rattle.base_types.specs.declared.documents.OnUntil.TheVariants as until
use Rattle.composer_parser.specs.declared.definitions.Lined.{Lined}
use Rattle.composer_parser.specs.declared.clauses.Clause.{Clause}
use Rattle.composer_parser.specs.declared.clauses.Clause.TheVariants.{At, Until, Deadline, Priority, Limit, CarryForward, Follows, Needs, Prompt, Opens as Files}
use Rattle.composer_parser.specs.declared.clauses.Pred.{Pred}
use Rattle.composer_parser.specs.declared.clauses.Need.{Need}
use Rattle.composer_parser.specs.declared.clauses.PromptItem.{PromptItem}
use Rattle.composer_parser.specs.declared.clauses.PromptItem.TheVariants as ask
use Rattle.composer_parser.specs.Kinds.{word}
use Rattle.composer_parser.specs.Parts.{put}
use Rattle.composer_parser.specs.Clauses as grammar
use Rattle.syntax.specs.Quotes.{quoted_text}
use Rattle.composer_print.specs.Clauses.{plus_text, until_text, priority_text, name_text, pred_text, units_text, need_text, prompt_text, clause_text, clauses_text}
use Rattle.composer_print.specs.Streams.{items}
use Rattle.composer_laws.specs.Written.{IsText, IsName, IsNumber, WhenGiven, IsList, IsPred, IsNeed, IsPromptItem, IsClause, Stands, AreClauses}
use Rattle.composer_laws.proofs.Readings.{Reads, Opens, Runs, made_reads, app, skip, left_reads, right_reads, app_opens, left_opens, right_opens, many_reads, no_runs, one_run, more_runs, runs_to, as_text}
use Rattle.composer_laws.proofs.Words.{Any, key_reads, key_opens, name_reads, text_reads, number_reads, time_reads, plus_reads}
use Rattle.composer_laws.proofs.Scopes.{scope_bytes_reads, pred_reads}
use Rattle.composer_laws.proofs.Lists.{other, comma_reads, commas_reads, behind_blank}

-- parts of clauses
plus_days_reads : (d : Option ℕ) → WhenGiven IsNumber d → Reads false false grammar.plus_days (plus_text d) (λ x. x ≡ d)
unfolding grammar.plus_days plus_text
plus_days_reads None h = right_reads (made_reads false refl)
plus_days_reads (Some n) h =
    left_reads (app (app (made_reads false (λ m e x a. ap Some e)) (plus_reads n h)) (key_reads (codes "DAYS") refl))

until_reads : (u : OnUntil) → Reads false false grammar.on_until (until_text u) (λ x. x ≡ u)
unfolding grammar.on_until grammar.until_word until_text
until_reads until.Suppr = right_reads (made_reads false refl)
until_reads until.Cont =
    left_reads
    (app (app (made_reads false (λ x a v e. e)) (key_reads (codes "ONUNTIL") refl))
    (right_reads (left_reads (app (made_reads false (λ x a. refl)) (key_reads (codes "CONT") refl)))))
until_reads until.Canc =
    left_reads
    (app (app (made_reads false (λ x a v e. e)) (key_reads (codes "ONUNTIL") refl))
    (right_reads (right_reads (app (made_reads false (λ x a. refl)) (key_reads (codes "CANC") refl)))))

priority_by : (n : ℕ) (a b : Bool) → eqb n 100 ≡ a → eqb n 101 ≡ b → IsNumber n
    → Reads false false grammar.priority (32 ∷ cond a (codes "HI") (cond b (codes "GO") (decimal n))) (λ x. x ≡ n)
unfolding grammar.priority
priority_by n true b p q h =
    let same : 100 ≡ n = grind (arith, nat_tests) in
    right_reads (left_reads (app (made_reads false (λ x a. same)) (key_reads (codes "HI") refl)))
priority_by n false true p q h =
    let same : 101 ≡ n = grind (arith, nat_tests) in
    right_reads (right_reads (app (made_reads false (λ x a. same)) (key_reads (codes "GO") refl)))
priority_by n false false p q h = left_reads (number_reads n h)

priority_reads : (n : ℕ) → IsNumber n → Reads false false grammar.priority (32 ∷ priority_text n) (λ x. x ≡ n)
unfolding priority_text
priority_reads n h = priority_by n (eqb n 100) (eqb n 101) refl refl h

-- the items of lists
next_pred_reads : (p : Pred) → IsPred p → Reads false false grammar.next_pred (44 ∷ 32 ∷ pred_text p) (λ x. x ≡ p)
unfolding grammar.next_pred
next_pred_reads p h = app (app (made_reads false (λ u a v e. e)) comma_reads) (pred_reads p h)

no_units : Reads false false grammar.units [] (λ x. x ≡ None)
unfolding grammar.units
no_units = right_reads (made_reads false refl)

some_units : (m : ℕ) → IsNumber m → Reads false false grammar.units (32 ∷ decimal m) (λ x. x ≡ Some m)
unfolding grammar.units
some_units m h = left_reads (app (made_reads false (λ v e. ap Some e)) (number_reads m h))

units_reads : (u : Option ℕ) (ws : Option (List ℕ)) (n : List ℕ) → WhenGiven IsNumber u → WhenGiven IsName ws → IsName n
    → Reads false false grammar.need (32 ∷ (units_text u ++ name_text ws n)) (λ x. x ≡ record { units = u; ws = ws; name = n })
unfolding grammar.need units_text
units_reads None ws n h k l =
    app (app (made_reads false (λ u e x a i. record { units = e i; ws = a.0 i; name = a.1 i })) no_units)
    (scope_bytes_reads ws n k l)
units_reads (Some m) ws n h k l =
    as_text
    (app (app (made_reads false (λ u e x a i. record { units = e i; ws = a.0 i; name = a.1 i }))
    (some_units m h))
    (scope_bytes_reads ws n k l))
    (ap (λ t. 32 ∷ t) (sym (append_assoc (decimal m) (32 ∷ []) (name_text ws n))))

need_reads : (n : Need) → IsNeed n → Reads false false grammar.need (32 ∷ need_text n) (λ x. x ≡ n)
unfolding need_text
need_reads n h = units_reads n.units n.ws n.name h.units h.ws h.name

next_need_reads : (n : Need) → IsNeed n → Reads false false grammar.next_need (44 ∷ 32 ∷ need_text n) (λ x. x ≡ n)
unfolding grammar.next_need
next_need_reads n h = app (app (made_reads false (λ u a v e. e)) comma_reads) (need_reads n h)

prompt_reads : (p : PromptItem) → IsPromptItem p → Reads false false grammar.prompt (32 ∷ prompt_text p) (λ x. x ≡ p)
unfolding grammar.prompt prompt_text
prompt_reads (ask.Name n) h = left_reads (app (made_reads false (λ x e. ap ask.Name e)) (name_reads n h))
prompt_reads (ask.Own v) h = right_reads (app (made_reads false (λ x e. ap ask.Own e)) (text_reads v h))

next_prompt_reads : (p : PromptItem) → IsPromptItem p → Reads false false grammar.next_prompt (44 ∷ 32 ∷ prompt_text p) (λ x. x ≡ p)
unfolding grammar.next_prompt
next_prompt_reads p h = app (app (made_reads false (λ u a v e. e)) comma_reads) (prompt_reads p h)

file_reads : (v : List ℕ) → IsText v → Reads false false grammar.file (32 ∷ quoted_text v) (λ x. x ≡ v)
unfolding grammar.file grammar.no_qualifier
file_reads v h = as_text (skip (text_reads v h) (right_reads (made_reads {Is = Any} false tt))) (append-nil (32 ∷ quoted_text v))

next_file_reads : (v : List ℕ) → IsText v → Reads false false grammar.next_file (44 ∷ 32 ∷ quoted_text v) (λ x. x ≡ v)
unfolding grammar.next_file
next_file_reads v h = app (app (made_reads false (λ u a x e. e)) comma_reads) (file_reads v h)

preds_reads : (ps : List Pred) → IsList IsPred ps → Reads false false grammar.preds (behind_blank (codes " FOLLOWS ") (map pred_text ps)) (λ x. x ≡ ps)
unfolding grammar.preds grammar.next_pred
preds_reads ps h = commas_reads (codes " FOLLOWS ") pred_text _ _ IsPred pred_reads next_pred_reads refl ps h

needs_reads : (ns : List Need) → IsList IsNeed ns → Reads false false grammar.needs (behind_blank (codes " NEEDS ") (map need_text ns)) (λ x. x ≡ ns)
unfolding grammar.needs grammar.next_need
needs_reads ns h = commas_reads (codes " NEEDS ") need_text _ _ IsNeed need_reads next_need_reads refl ns h

prompts_reads : (ps : List PromptItem) → IsList IsPromptItem ps
    → Reads false false grammar.prompts (behind_blank (codes " PROMPT ") (map prompt_text ps)) (λ x. x ≡ ps)
unfolding grammar.prompts grammar.next_prompt
prompts_reads ps h = commas_reads (codes " PROMPT ") prompt_text _ _ IsPromptItem prompt_reads next_prompt_reads refl ps h

files_reads : (fs : List (List ℕ)) → IsList IsText fs → Reads false false grammar.files (behind_blank (codes " OPENS ") (map quoted_text fs)) (λ x. x ≡ fs)
unfolding grammar.files grammar.next_file
files_reads fs h = commas_reads (codes " OPENS ") quoted_text _ _ IsText file_reads next_file_reads refl fs h

-- a clause, with its keyword
abbrev pub key_of : Clause → List ℕ
key_of (At t d) = codes "AT"
key_of (Until t d u) = codes "UNTIL"
key_of (Deadline t d) = codes "DEADLINE"
key_of (Priority n) = codes "PRIORITY"
key_of (Limit n) = codes "LIMIT"
key_of CarryForward = codes "CARRYFORWARD"
key_of (Follows ps) = codes "FOLLOWS"
key_of (Needs ns) = codes "NEEDS"
key_of (Prompt ps) = codes "PROMPT"
key_of (Files fs) = codes "OPENS"

abbrev OfClause : Clause → Type 0
OfClause c = Opens false false grammar.clause (clause_text c) (word (key_of c)) (λ x. x.item ≡ c)

clause_opens : (c : Clause) → IsClause c → OfClause c
unfolding grammar.clause grammar.at_clause grammar.until_clause grammar.deadline_clause grammar.priority_clause grammar.limit_clause grammar.carry_clause grammar.follows_clause grammar.needs_clause grammar.prompt_clause grammar.opens_clause clause_text
clause_opens (At t d) h =
    left_opens
    (app_opens (app_opens (key_opens (codes "AT") refl (λ line u e v f i. At (e i) (f i))) (time_reads t h.0)) (plus_days_reads d h.1))
clause_opens (Until t d u) h =
    right_opens (left_opens
    (app_opens
    (app_opens (app_opens (key_opens (codes "UNTIL") refl (λ line x e v f w g i. Until (e i) (f i) (g i))) (time_reads t h.0)) (plus_days_reads d h.1))
    (until_reads u)))
clause_opens (Deadline t d) h =
    right_opens (right_opens (left_opens
    (app_opens (app_opens (key_opens (codes "DEADLINE") refl (λ line u e v f i. Deadline (e i) (f i))) (time_reads t h.0)) (plus_days_reads d h.1))))
clause_opens (Priority n) h =
    right_opens (right_opens (right_opens (left_opens
    (app_opens (key_opens (codes "PRIORITY") refl (λ line u e. ap Priority e)) (priority_reads n h)))))
clause_opens (Limit n) h =
    right_opens (right_opens (right_opens (right_opens (left_opens
    (app_opens (key_opens (codes "LIMIT") refl (λ line u e. ap Limit e)) (number_reads n h))))))
clause_opens CarryForward h =
    right_opens (right_opens (right_opens (right_opens (right_opens (left_opens
    (key_opens (codes "CARRYFORWARD") refl (λ line. refl)))))))
clause_opens (Follows []) h = absurd h
clause_opens (Follows (p ∷ ps)) h =
    right_opens (right_opens (right_opens (right_opens (right_opens (right_opens (left_opens
    (app_opens (key_opens (codes "FOLLOWS") refl (λ line u e. ap Follows e)) (preds_reads (p ∷ ps) h))))))))
clause_opens (Needs []) h = absurd h
clause_opens (Needs (n ∷ ns)) h =
    right_opens (right_opens (right_opens (right_opens (right_opens (right_opens (right_opens (left_opens
    (app_opens (key_opens (codes "NEEDS") refl (λ line u e. ap Needs e)) (needs_reads (n ∷ ns) h)))))))))
clause_opens (Prompt []) h = absurd h
clause_opens (Prompt (p ∷ ps)) h =
    right_opens (right_opens (right_opens (right_opens (right_opens (right_opens (right_opens (right_opens (left_opens
    (app_opens (key_opens (codes "PROMPT") refl (λ line u e. ap Prompt e)) (prompts_reads (p ∷ ps) h))))))))))
clause_opens (Files []) h = absurd h
clause_opens (Files (f ∷ fs)) h =
    right_opens (right_opens (right_opens (right_opens (right_opens (right_opens (right_opens (right_opens (right_opens
    (app_opens (key_opens (codes "OPENS") refl (λ line u e. ap Files e)) (files_reads (f ∷ fs) h))))))))))

-- whether a kind stands so far
pub any_items : (p : Clause → Bool) (cs : List (Lined Clause)) → list_any (λ c. p c.item) cs ≡ list_any p (items cs)
any_items p [] = refl
any_items p (c ∷ cs) = ap (λ b. p c.item || b) (any_items p cs)

stands_not : (p : Clause → Bool) (cs : List (Lined Clause)) (done : List Clause) → items cs ≡ done
    → list_any p done ≡ false → grammar.has_clause p cs ≡ false
stands_not p cs done e h = any_items p cs ∙ ap (λ xs. list_any p xs) e ∙ h

fresh : (a : Bool) → a ≡ false → not (a && true) ≡ true
fresh a h = rw h refl

fresh_stream : (stream a : Bool) → stream ≡ true → a ≡ false → not ((not stream || a) && true) ≡ true
fresh_stream stream a h k = rw (h, k) refl

six : (a b c d e f : Bool) → a ≡ true → b ≡ true → c ≡ true → d ≡ true → e ≡ true → f ≡ true
    → (a && (b && (c && (d && (e && f))))) ≡ true
six a b c d e f p q r s t u = rw (p, q, r, s, t, u) refl

may : (stream : Bool) (done : List Clause) (c : Clause) (st : List (Lined Clause)) (line : ℕ) → Stands stream done c
    → items st ≡ done → grammar.may_clause stream st (record { line = line; shape = word (key_of c) }) ≡ true
may stream done (At t d) st line h e =
    let a = grammar.has_clause grammar.is_at st in
    let b = grammar.has_clause grammar.is_until st in
    let c = grammar.has_clause grammar.is_deadline st in
    let d1 = grammar.has_clause grammar.is_priority st in
    let l = not stream || grammar.has_clause grammar.is_limit st in
    let f = not stream || grammar.has_clause grammar.is_carry st in
    six (not (a && true)) (not (b && false)) (not (c && false)) (not (d1 && false)) (not (l && false)) (not (f && false))
    (fresh a (stands_not grammar.is_at st done e h)) (other b) (other c)
    (other d1) (other l) (other f)
may stream done (Until t d u) st line h e =
    let a = grammar.has_clause grammar.is_at st in
    let b = grammar.has_clause grammar.is_until st in
    let c = grammar.has_clause grammar.is_deadline st in
    let d1 = grammar.has_clause grammar.is_priority st in
    let l = not stream || grammar.has_clause grammar.is_limit st in
    let f = not stream || grammar.has_clause grammar.is_carry st in
    six (not (a && false)) (not (b && true)) (not (c && false)) (not (d1 && false)) (not (l && false)) (not (f && false))
    (other a) (fresh b (stands_not grammar.is_until st done e h)) (other c)
    (other d1) (other l) (other f)
may stream done (Deadline t d) st line h e =
    let a = grammar.has_clause grammar.is_at st in
    let b = grammar.has_clause grammar.is_until st in
    let c = grammar.has_clause grammar.is_deadline st in
    let d1 = grammar.has_clause grammar.is_priority st in
    let l = not stream || grammar.has_clause grammar.is_limit st in
    let f = not stream || grammar.has_clause grammar.is_carry st in
    six (not (a && false)) (not (b && false)) (not (c && true)) (not (d1 && false)) (not (l && false)) (not (f && false))
    (other a) (other b) (fresh c (stands_not grammar.is_deadline st done e h))
    (other d1) (other l) (other f)
may stream done (Priority n) st line h e =
    let a = grammar.has_clause grammar.is_at st in
    let b = grammar.has_clause grammar.is_until st in
    let c = grammar.has_clause grammar.is_deadline st in
    let d1 = grammar.has_clause grammar.is_priority st in
    let l = not stream || grammar.has_clause grammar.is_limit st in
    let f = not stream || grammar.has_clause grammar.is_carry st in
    six (not (a && false)) (not (b && false)) (not (c && false)) (not (d1 && true)) (not (l && false)) (not (f && false))
    (other a) (other b) (other c)
    (fresh d1 (stands_not grammar.is_priority st done e h)) (other l) (other f)
may stream done (Limit n) st line h e =
    let a = grammar.has_clause grammar.is_at st in
    let b = grammar.has_clause grammar.is_until st in
    let c = grammar.has_clause grammar.is_deadline st in
    let d1 = grammar.has_clause grammar.is_priority st in
    let l = not stream || grammar.has_clause grammar.is_limit st in
    let f = not stream || grammar.has_clause grammar.is_carry st in
    six (not (a && false)) (not (b && false)) (not (c && false)) (not (d1 && false)) (not (l && true)) (not (f && false))
    (other a) (other b) (other c)
    (other d1) (fresh_stream stream (grammar.has_clause grammar.is_limit st) h.0 (stands_not grammar.is_limit st done e h.1)) (other f)
may stream done CarryForward st line h e =
    let a = grammar.has_clause grammar.is_at st in
    let b = grammar.has_clause grammar.is_until st in
    let c = grammar.has_clause grammar.is_deadline st in
    let d1 = grammar.has_clause grammar.is_priority st in
    let l = not stream || grammar.has_clause grammar.is_limit st in
    let f = not stream || grammar.has_clause grammar.is_carry st in
    six (not (a && false)) (not (b && false)) (not (c && false)) (not (d1 && false)) (not (l && false)) (not (f && true))
    (other a) (other b) (other c)
    (other d1) (other l) (fresh_stream stream (grammar.has_clause grammar.is_carry st) h.0 (stands_not grammar.is_carry st done e h.1))
may stream done (Follows ps) st line h e =
    let a = grammar.has_clause grammar.is_at st in
    let b = grammar.has_clause grammar.is_until st in
    let c = grammar.has_clause grammar.is_deadline st in
    let d1 = grammar.has_clause grammar.is_priority st in
    let l = not stream || grammar.has_clause grammar.is_limit st in
    let f = not stream || grammar.has_clause grammar.is_carry st in
    six (not (a && false)) (not (b && false)) (not (c && false)) (not (d1 && false)) (not (l && false)) (not (f && false))
    (other a) (other b) (other c)
    (other d1) (other l) (other f)
may stream done (Needs ns) st line h e =
    let a = grammar.has_clause grammar.is_at st in
    let b = grammar.has_clause grammar.is_until st in
    let c = grammar.has_clause grammar.is_deadline st in
    let d1 = grammar.has_clause grammar.is_priority st in
    let l = not stream || grammar.has_clause grammar.is_limit st in
    let f = not stream || grammar.has_clause grammar.is_carry st in
    six (not (a && false)) (not (b && false)) (not (c && false)) (not (d1 && false)) (not (l && false)) (not (f && false))
    (other a) (other b) (other c)
    (other d1) (other l) (other f)
may stream done (Prompt ps) st line h e =
    let a = grammar.has_clause grammar.is_at st in
    let b = grammar.has_clause grammar.is_until st in
    let c = grammar.has_clause grammar.is_deadline st in
    let d1 = grammar.has_clause grammar.is_priority st in
    let l = not stream || grammar.has_clause grammar.is_limit st in
    let f = not stream || grammar.has_clause grammar.is_carry st in
    six (not (a && false)) (not (b && false)) (not (c && false)) (not (d1 && false)) (not (l && false)) (not (f && false))
    (other a) (other b) (other c)
    (other d1) (other l) (other f)
may stream done (Files fs) st line h e =
    let a = grammar.has_clause grammar.is_at st in
    let b = grammar.has_clause grammar.is_until st in
    let c = grammar.has_clause grammar.is_deadline st in
    let d1 = grammar.has_clause grammar.is_priority st in
    let l = not stream || grammar.has_clause grammar.is_limit st in
    let f = not stream || grammar.has_clause grammar.is_carry st in
    six (not (a && false)) (not (b && false)) (not (c && false)) (not (d1 && false)) (not (l && false)) (not (f && false))
    (other a) (other b) (other c)
    (other d1) (other l) (other f)

clauses_run : (stream : Bool) (done cs : List Clause) → AreClauses stream done cs
    → Runs false false put (grammar.may_clause stream) grammar.clause (λ st. items st ≡ done) (flat_map clause_text cs) (λ st. items st ≡ done ++ cs)
clauses_run stream done [] h = runs_to no_runs (λ st e. e ∙ sym (append-nil done))
clauses_run stream done (c ∷ cs) h =
    more_runs
    (one_run (clause_opens c h.0) (λ st v e r. map-append (λ (l : Lined Clause). l.item) st (v ∷ []) ∙ (λ i. e i ++ r i ∷ []))
    (λ st line e. may stream done c st line h.1 e))
    (runs_to (clauses_run stream (done ++ c ∷ []) cs h.2) (λ st e. e ∙ append_assoc done (c ∷ []) cs))

pub clauses_reads : (stream : Bool) (cs : List Clause) → AreClauses stream [] cs
    → Reads false false (grammar.clauses stream) (clauses_text cs) (λ x. items x ≡ cs)
unfolding grammar.clauses clauses_text
clauses_reads stream cs h = many_reads [] _ (clauses_run stream [] cs h) refl (λ last e. e)
