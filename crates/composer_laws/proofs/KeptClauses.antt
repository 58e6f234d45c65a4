-- What is known of clauses that are read.
use Rattle.std.proofs.Common.{◌≡◌, inl, inr, ℕ, Bool, true, false, not, ◌&&◌, ◌||◌, List, [], ◌∷◌, ◌++◌, refl, ap, sym, subst, ◌∙◌, codes, append_assoc, append-nil, arith}
use Rattle.std.specs.List.{list_any}
use Rattle.std.proofs.lemmas.List.{map-append}
use Rattle.lemmas.proofs.Booleans.{and_parts}
use Rattle.composer_parser.specs.declared.definitions.Lined.{Lined}
use Rattle.composer_parser.specs.declared.clauses.Clause.{Clause}
use Rattle.composer_parser.specs.declared.clauses.Clause.TheVariants.{At, Until, Deadline, Priority, Limit, CarryForward, Follows, Needs, Prompt, Opens as Files}
use Rattle.composer_parser.specs.Kinds.{Spelled, keyword, is}
use Rattle.composer_parser.specs.Grammars.{Grammar, Spells}
use Rattle.composer_parser.specs.Reading.{is_any, tries}
use Rattle.composer_parser.proofs.Firsts.{tries_sentence}
use Rattle.composer_parser.specs.Parts.{once}
use Rattle.composer_parser.specs.Clauses as grammar
use Rattle.composer_print.specs.Streams.{items}
use Rattle.composer_laws.specs.Written.{IsText, IsNumber, WhenGiven, Each, IsList, IsPred, IsNeed, IsPromptItem, IsClause, Stands, AreClauses}
use Rattle.composer_laws.proofs.Good.{Good}
use Rattle.composer_laws.proofs.Keeps.{Keeps, kept_made, kept_any, kept_app, kept_skip, kept_or, kept_many_by, kept_commas}
use Rattle.composer_laws.proofs.Leaves.{kept_name, kept_text, kept_number, kept_time, kept_plus, kept_scoped, kept_pred}
use Rattle.composer_laws.proofs.Clauses.{key_of, any_items}

kept_plus_days : Keeps grammar.plus_days (λ d. WhenGiven IsNumber d)
unfolding grammar.plus_days
kept_plus_days = kept_or (kept_app (kept_app (kept_made (λ n h x a. h)) kept_plus) kept_any) (kept_made tt)

kept_next_pred : Keeps grammar.next_pred (λ p. IsPred p)
unfolding grammar.next_pred
kept_next_pred = kept_app (kept_app (kept_made (λ x a p h. h)) kept_any) kept_pred

kept_preds : Keeps grammar.preds (λ ps. IsList IsPred ps)
unfolding grammar.preds
kept_preds = kept_commas IsPred kept_pred kept_next_pred

kept_units : Keeps grammar.units (λ n. WhenGiven IsNumber n)
unfolding grammar.units
kept_units = kept_or (kept_app (kept_made (λ n h. h)) kept_number) (kept_made tt)

kept_need : Keeps grammar.need (λ n. IsNeed n)
unfolding grammar.need
kept_need = kept_app (kept_app (kept_made (λ u h w k. record { units = h; ws = k.0; name = k.1 })) kept_units) kept_scoped

kept_next_need : Keeps grammar.next_need (λ n. IsNeed n)
unfolding grammar.next_need
kept_next_need = kept_app (kept_app (kept_made (λ x a n h. h)) kept_any) kept_need

kept_needs : Keeps grammar.needs (λ ns. IsList IsNeed ns)
unfolding grammar.needs
kept_needs = kept_commas IsNeed kept_need kept_next_need

kept_item : Keeps grammar.prompt (λ p. IsPromptItem p)
unfolding grammar.prompt
kept_item = kept_or (kept_app (kept_made (λ n h. h)) kept_name) (kept_app (kept_made (λ v h. h)) kept_text)

kept_next_item : Keeps grammar.next_prompt (λ p. IsPromptItem p)
unfolding grammar.next_prompt
kept_next_item = kept_app (kept_app (kept_made (λ x a p h. h)) kept_any) kept_item

kept_prompts : Keeps grammar.prompts (λ ps. IsList IsPromptItem ps)
unfolding grammar.prompts
kept_prompts = kept_commas IsPromptItem kept_item kept_next_item

kept_file : Keeps grammar.file (λ f. IsText f)
unfolding grammar.file
kept_file = kept_skip kept_text

kept_next_file : Keeps grammar.next_file (λ f. IsText f)
unfolding grammar.next_file
kept_next_file = kept_app (kept_app (kept_made (λ x a f h. h)) kept_any) kept_file

kept_files : Keeps grammar.files (λ fs. IsList IsText fs)
unfolding grammar.files
kept_files = kept_commas IsText kept_file kept_next_file

kept_priority : Keeps grammar.priority (λ n. IsNumber n)
unfolding grammar.priority
kept_priority =
    kept_or kept_number (kept_or (kept_app (kept_made (λ x a. omega arith)) kept_any) (kept_app (kept_made (λ x a. omega arith)) kept_any))

-- a clause, and the keyword with which its tokens begin
abbrev IsOne : List ℕ → Lined Clause → Type 0
IsOne k l = IsClause l.item × (key_of l.item ≡ k)

kept_at : Keeps grammar.at_clause (λ l. IsOne (codes "AT") l)
unfolding grammar.at_clause
kept_at = kept_app (kept_app (kept_app (kept_made (λ l a t h d k. ((h, k), refl))) kept_any) kept_time) kept_plus_days

kept_until : Keeps grammar.until_clause (λ l. IsOne (codes "UNTIL") l)
unfolding grammar.until_clause
kept_until =
    kept_app (kept_app (kept_app (kept_app (kept_made (λ l a t h d k u b. ((h, k), refl))) kept_any) kept_time) kept_plus_days) kept_any

kept_deadline : Keeps grammar.deadline_clause (λ l. IsOne (codes "DEADLINE") l)
unfolding grammar.deadline_clause
kept_deadline = kept_app (kept_app (kept_app (kept_made (λ l a t h d k. ((h, k), refl))) kept_any) kept_time) kept_plus_days

kept_priority_clause : Keeps grammar.priority_clause (λ l. IsOne (codes "PRIORITY") l)
unfolding grammar.priority_clause
kept_priority_clause = kept_app (kept_app (kept_made (λ l a n h. (h, refl))) kept_any) kept_priority

kept_limit : Keeps grammar.limit_clause (λ l. IsOne (codes "LIMIT") l)
unfolding grammar.limit_clause
kept_limit = kept_app (kept_app (kept_made (λ l a n h. (h, refl))) kept_any) kept_number

kept_carry : Keeps grammar.carry_clause (λ l. IsOne (codes "CARRYFORWARD") l)
unfolding grammar.carry_clause
kept_carry = kept_app (kept_made (λ l a. (tt, refl))) kept_any

kept_follows : Keeps grammar.follows_clause (λ l. IsOne (codes "FOLLOWS") l)
unfolding grammar.follows_clause
kept_follows = kept_app (kept_app (kept_made (λ l a ps h. (h, refl))) kept_any) kept_preds

kept_needs_clause : Keeps grammar.needs_clause (λ l. IsOne (codes "NEEDS") l)
unfolding grammar.needs_clause
kept_needs_clause = kept_app (kept_app (kept_made (λ l a ns h. (h, refl))) kept_any) kept_needs

kept_prompt_clause : Keeps grammar.prompt_clause (λ l. IsOne (codes "PROMPT") l)
unfolding grammar.prompt_clause
kept_prompt_clause = kept_app (kept_app (kept_made (λ l a ps h. (h, refl))) kept_any) kept_prompts

kept_opens : Keeps grammar.opens_clause (λ l. IsOne (codes "OPENS") l)
unfolding grammar.opens_clause
kept_opens = kept_app (kept_app (kept_made (λ l a fs h. (h, refl))) kept_any) kept_files

or_false : (b : Bool) → (b || false) ≡ true → b ≡ true
or_false true h = refl
or_false false h = h

abbrev Led : Spelled → Lined Clause → Type 0
Led t l = IsClause l.item × (is (keyword (key_of l.item)) t ≡ true)

led : (g : Grammar (Lined Clause)) (k : List ℕ) → Keeps g (λ l. IsOne k l)
    → ((u : Spelled) → is_any (tries g) u ≡ is_any (keyword k ∷ []) u)
    → (t : Spelled) (xs : List Spelled) (l : Lined Clause) → Each Good (t ∷ xs) → Spells g (t ∷ xs) l → Led t l
led g k kept same t xs l good s =
    let one = kept.holds (t ∷ xs) good l s in
    let first = or_false (is (keyword k) t) (sym (same t) ∙ tries_sentence g (t ∷ xs) t xs l refl s) in
    (one.0, ap (λ w. is (keyword w) t) one.1 ∙ first)

clause_led : (t : Spelled) (xs : List Spelled) (l : Lined Clause) → Each Good (t ∷ xs) → Spells grammar.clause (t ∷ xs) l → Led t l
unfolding grammar.clause grammar.at_clause grammar.until_clause grammar.deadline_clause grammar.priority_clause grammar.limit_clause grammar.carry_clause grammar.follows_clause grammar.needs_clause grammar.prompt_clause grammar.opens_clause
clause_led t xs l good (inl s) = led grammar.at_clause (codes "AT") kept_at (λ u. refl) t xs l good s
clause_led t xs l good (inr (inl s)) = led grammar.until_clause (codes "UNTIL") kept_until (λ u. refl) t xs l good s
clause_led t xs l good (inr (inr (inl s))) = led grammar.deadline_clause (codes "DEADLINE") kept_deadline (λ u. refl) t xs l good s
clause_led t xs l good (inr (inr (inr (inl s)))) =
    led grammar.priority_clause (codes "PRIORITY") kept_priority_clause (λ u. refl) t xs l good s
clause_led t xs l good (inr (inr (inr (inr (inl s))))) = led grammar.limit_clause (codes "LIMIT") kept_limit (λ u. refl) t xs l good s
clause_led t xs l good (inr (inr (inr (inr (inr (inl s)))))) =
    led grammar.carry_clause (codes "CARRYFORWARD") kept_carry (λ u. refl) t xs l good s
clause_led t xs l good (inr (inr (inr (inr (inr (inr (inl s))))))) =
    led grammar.follows_clause (codes "FOLLOWS") kept_follows (λ u. refl) t xs l good s
clause_led t xs l good (inr (inr (inr (inr (inr (inr (inr (inl s)))))))) =
    led grammar.needs_clause (codes "NEEDS") kept_needs_clause (λ u. refl) t xs l good s
clause_led t xs l good (inr (inr (inr (inr (inr (inr (inr (inr (inl s))))))))) =
    led grammar.prompt_clause (codes "PROMPT") kept_prompt_clause (λ u. refl) t xs l good s
clause_led t xs l good (inr (inr (inr (inr (inr (inr (inr (inr (inr s))))))))) =
    led grammar.opens_clause (codes "OPENS") kept_opens (λ u. refl) t xs l good s

-- a clause that may stand
not_here : (a b : Bool) → not (a && b) ≡ true → b ≡ true → a ≡ false
not_here false b h k = refl
not_here true true h k = cc
not_here true false h k = cc

of_stream : (stream a b : Bool) → not ((not stream || a) && b) ≡ true → b ≡ true → (stream ≡ true) × (a ≡ false)
of_stream true false b h k = (refl, refl)
of_stream true true true h k = cc
of_stream true true false h k = cc
of_stream false a true h k = cc
of_stream false a false h k = cc

by_items : (p : Clause → Bool) (st : List (Lined Clause)) → grammar.has_clause p st ≡ false → list_any p (items st) ≡ false
by_items p st h = sym (any_items p st) ∙ h

six_of : (a b c d e f : Bool) → (a && (b && (c && (d && (e && f))))) ≡ true
    → (a ≡ true) × (b ≡ true) × (c ≡ true) × (d ≡ true) × (e ≡ true) × (f ≡ true)
six_of a b c d e f h =
    let p1 = and_parts a (b && (c && (d && (e && f)))) h in
    let p2 = and_parts b (c && (d && (e && f))) p1.1 in
    let p3 = and_parts c (d && (e && f)) p2.1 in
    let p4 = and_parts d (e && f) p3.1 in
    let p5 = and_parts e f p4.1 in
    (p1.0, p2.0, p3.0, p4.0, p5.0, p5.1)

abbrev Six : Bool → List (Lined Clause) → Spelled → Type 0
Six stream st t =
    (once (grammar.has_clause grammar.is_at st) (codes "AT") t ≡ true)
    × (once (grammar.has_clause grammar.is_until st) (codes "UNTIL") t ≡ true)
    × (once (grammar.has_clause grammar.is_deadline st) (codes "DEADLINE") t ≡ true)
    × (once (grammar.has_clause grammar.is_priority st) (codes "PRIORITY") t ≡ true)
    × (once (not stream || grammar.has_clause grammar.is_limit st) (codes "LIMIT") t ≡ true)
    × (once (not stream || grammar.has_clause grammar.is_carry st) (codes "CARRYFORWARD") t ≡ true)

tests : (stream : Bool) (st : List (Lined Clause)) (t : Spelled) → grammar.may_clause stream st t ≡ true → Six stream st t
tests stream st t h =
    six_of (once (grammar.has_clause grammar.is_at st) (codes "AT") t)
    (once (grammar.has_clause grammar.is_until st) (codes "UNTIL") t)
    (once (grammar.has_clause grammar.is_deadline st) (codes "DEADLINE") t)
    (once (grammar.has_clause grammar.is_priority st) (codes "PRIORITY") t)
    (once (not stream || grammar.has_clause grammar.is_limit st) (codes "LIMIT") t)
    (once (not stream || grammar.has_clause grammar.is_carry st) (codes "CARRYFORWARD") t) h

stands : (stream : Bool) (st : List (Lined Clause)) (t : Spelled) (c : Clause) → Six stream st t
    → is (keyword (key_of c)) t ≡ true → Stands stream (items st) c
stands stream st t (At x d) h k =
    by_items grammar.is_at st (not_here (grammar.has_clause grammar.is_at st) (is (keyword (codes "AT")) t) h.0 k)
stands stream st t (Until x d u) h k =
    by_items grammar.is_until st (not_here (grammar.has_clause grammar.is_until st) (is (keyword (codes "UNTIL")) t) h.1 k)
stands stream st t (Deadline x d) h k =
    by_items grammar.is_deadline st (not_here (grammar.has_clause grammar.is_deadline st) (is (keyword (codes "DEADLINE")) t) h.2 k)
stands stream st t (Priority n) h k =
    by_items grammar.is_priority st (not_here (grammar.has_clause grammar.is_priority st) (is (keyword (codes "PRIORITY")) t) h.3 k)
stands stream st t (Limit n) h k =
    let q = of_stream stream (grammar.has_clause grammar.is_limit st) (is (keyword (codes "LIMIT")) t) h.4 k in
    (q.0, by_items grammar.is_limit st q.1)
stands stream st t CarryForward h k =
    let q = of_stream stream (grammar.has_clause grammar.is_carry st) (is (keyword (codes "CARRYFORWARD")) t) h.5 k in
    (q.0, by_items grammar.is_carry st q.1)
stands stream st t (Follows ps) h k = tt
stands stream st t (Needs ns) h k = tt
stands stream st t (Prompt ps) h k = tt
stands stream st t (Files fs) h k = tt

clauses_put : (stream : Bool) (done cs : List Clause) (c : Clause) → AreClauses stream done cs → IsClause c
    → Stands stream (done ++ cs) c → AreClauses stream done (cs ++ c ∷ [])
clauses_put stream done [] c h k l =
    (k, subst (λ (xs : List Clause). Stands stream xs c) (append-nil done) l, tt)
clauses_put stream done (x ∷ cs) c h k l = (
  h.0,
  h.1,
  clauses_put stream (done ++ x ∷ []) cs c h.2 k
      (subst (λ (xs : List Clause). Stands stream xs c) (sym (append_assoc done (x ∷ []) cs)) l),
)

pub kept_clauses : (stream : Bool) → Keeps (grammar.clauses stream) (λ cs. AreClauses stream [] (items cs))
unfolding grammar.clauses
kept_clauses stream =
    kept_many_by [] _ (λ st. AreClauses stream [] (items st)) tt
    (λ st t xs l h ok good s.
    let one = clause_led t xs l good s in
    subst (λ (cs : List Clause). AreClauses stream [] cs) (sym (map-append (λ (z : Lined Clause). z.item) st (l ∷ [])))
    (clauses_put stream [] (items st) l.item h one.0 (stands stream st t l.item (tests stream st t ok) one.1)))
    (λ st h. h)
