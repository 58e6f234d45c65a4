-- What reading a text answers, against the grammar.
use Rattle.std.proofs.Common.{◌≡◌, ◌≢◌, ◌≤◌, ◌<◌, ◌⊎◌, inl, inr, ℕ, Bool, true, false, leb, cond, List, [], ◌∷◌}
use Rattle.std.proofs.Common.{◌++◌, length, Option, Some, None, option_map, option_and_then, Result, Ok, Err}
use Rattle.std.proofs.Common.{append_assoc, append-nil, refl, ap, sym, subst, ◌∙◌, arith}
use Rattle.std.specs.Option.{option_map_or}
use Rattle.std.proofs.lemmas.Bool.Decides.{nat_tests}
use Rattle.std.proofs.lemmas.List.{map-append}
use Rattle.model.specs.Types.{CondOp}
use Rattle.rc_conditions.specs.declared.CondFault.{CondFault}
use Rattle.rc_conditions.specs.declared.CondFault.TheVariants.{Bad, TooLong, NoMemory}
use Rattle.rc_conditions.specs.declared.tokens.Token.{Token}
use Rattle.rc_conditions.specs.Tokens.{Placed, placed_tokens, tokens_in}
use Rattle.rc_conditions.specs.Grammar.{Disjunction, disjunction_tokens, Begins, Reads, text_tokens}
use Rattle.rc_conditions.specs.Machine.{read, read_of, or_bad, within_limit, start}
use Rattle.rc_conditions.specs.Answers.{StopsAt, EndsTooSoon, IsFirstFault, IsCondition, IsTooLong}
use Rattle.rc_conditions.specs.Answers.{AnswersExactly}
use Rattle.rc_conditions.proofs.Holes.{Read, before_an_operand, empty_hole, reader_of, next, whole_read}
use Rattle.rc_conditions.proofs.Steps.{same_step, same_end, ops_of}
use Rattle.rc_conditions.proofs.Runs.{run, from_start, run_keeps, reads_whole, run_append, begins_run, begins_read}
use Rattle.rc_conditions.proofs.Runs.{whole_tokens}

-- why an answer comes
abbrev pub Cause : List ℕ → Result (List CondOp) CondFault → Type 0
Cause text (Ok ops) = IsCondition text ops
Cause text (Err (Bad place)) = IsFirstFault text place
Cause text (Err TooLong) = IsTooLong text
Cause text (Err NoMemory) = ⊥

-- the answer by what was read
read_step : (s : Read) (p : Placed) (ps : List Placed) (end : ℕ) (o : Option Read) → next s p.kind ≡ o
    → read (reader_of s) (p ∷ ps) end ≡ option_map_or (λ more. read (reader_of more) ps end) o (Err (Bad p.place))
read_step s p ps end None is =
    ap (λ o. option_map_or (λ more. read more ps end) o (Err (Bad p.place)))
    (same_step s p.kind ∙ ap (λ o. option_map reader_of o) is)
read_step s p ps end (Some more) is =
    ap (λ o. option_map_or (λ more. read more ps end) o (Err (Bad p.place)))
    (same_step s p.kind ∙ ap (λ o. option_map reader_of o) is)

read_end : (s : Read) (end : ℕ) (o : Option Disjunction) → whole_read s ≡ o
    → read (reader_of s) [] end ≡ or_bad end (option_map ops_of o)
read_end s end o is = ap (λ found. or_bad end found) (same_end s ∙ ap (λ found. option_map ops_of found) is)

tokens_more : (before : List Placed) (p : Placed) → tokens_in (before ++ p ∷ []) ≡ tokens_in before ++ p.kind ∷ []
tokens_more before p = map-append (λ (q : Placed). q.kind) before (p ∷ [])

-- the answer at a whole condition, by its length
by_length : (text : List ℕ) (ops : List CondOp) (b : Bool) → leb (length ops) 64 ≡ b → Reads text ops
    → Cause text (cond b (Ok ops) (Err TooLong))
by_length text ops true is r = (r, grind (arith, nat_tests))
by_length text ops false is r = (ops, r, grind (arith, nat_tests))

reads_to : (text : List ℕ) (s : Read) (d : Disjunction) → from_start (text_tokens text) ≡ Some s
    → whole_read s ≡ Some d → text_tokens text ≡ disjunction_tokens d
reads_to text s d h is =
    sym (run_keeps (text_tokens text) (before_an_operand empty_hole) s h) ∙ whole_tokens s d is

one_read : (o : Option Read) (s t : Read) → o ≡ Some s → o ≡ Some t → s ≡ t
one_read o s t h k = cc

-- no condition is read to a state that is no whole
not_whole : (ts : List Token) (s : Read) (d : Disjunction) → from_start ts ≡ Some s → whole_read s ≡ None
    → ts ≢ disjunction_tokens d
not_whole ts s d h is e =
    let all = reads_whole d in
    let same : all.0 ≡ s = one_read (from_start (disjunction_tokens d)) all.0 s all.1 (ap from_start (sym e) ∙ h) in
    let both : Some d ≡ None = sym all.2 ∙ ap whole_read same ∙ is in cc

at_end : (text : List ℕ) (s : Read) (o : Option Disjunction) → whole_read s ≡ o
    → from_start (text_tokens text) ≡ Some s → Cause text (or_bad (length text) (option_map ops_of o))
at_end text s None is h =
    inr (record {
      is_end = refl;
      begins = begins_read (text_tokens text) s h;
      no_end = λ d. not_whole (text_tokens text) s d h is;
    })
at_end text s (Some d) is h =
    by_length text (ops_of d) (leb (length (ops_of d)) 64) refl
    (record { condition = d; spelled = reads_to text s d h is; means = refl })

-- the tokens up to the next
next_run : (before : List Placed) (p : Placed) (s : Read) (o : Option Read) → next s p.kind ≡ o
    → from_start (tokens_in before) ≡ Some s → from_start (tokens_in (before ++ p ∷ [])) ≡ o
next_run before p s o is h =
    ap from_start (tokens_more before p)
    ∙ run_append (tokens_in before) (p.kind ∷ []) (before_an_operand empty_hole) s h ∙ last (next s p.kind) ∙ is
  where
    last : (found : Option Read) → option_and_then (λ more. run more []) found ≡ found
    last None = refl
    last (Some more) = refl

one_more : (text : List ℕ) (before : List Placed) (p : Placed) (ps : List Placed) (s : Read) (o : Option Read)
    → next s p.kind ≡ o → placed_tokens text ≡ before ++ p ∷ ps → from_start (tokens_in before) ≡ Some s
    → ((more : Read) → placed_tokens text ≡ (before ++ p ∷ []) ++ ps
    → from_start (tokens_in (before ++ p ∷ [])) ≡ Some more
    → Cause text (read (reader_of more) ps (length text)))
    → Cause text (option_map_or (λ more. read (reader_of more) ps (length text)) o (Err (Bad p.place)))
one_more text before p ps s None is all h rec =
    inl (record {
      before = before;
      here = p;
      behind = ps;
      tokens = all;
      is_here = refl;
      begins = begins_read (tokens_in before) s h;
      stops = λ b.
          let on = begins_run (tokens_in (before ++ p ∷ [])) b in
          let both : None ≡ Some on.0 = sym (next_run before p s None is h) ∙ on.1 in cc;
    })
one_more text before p ps s (Some more) is all h rec =
    rec more (all ∙ sym (append_assoc before (p ∷ []) ps)) (next_run before p s (Some more) is h)

sound : (ps before : List Placed) (text : List ℕ) (s : Read) → placed_tokens text ≡ before ++ ps
    → from_start (tokens_in before) ≡ Some s → Cause text (read (reader_of s) ps (length text))
sound [] before text s all h =
    let P : Result (List CondOp) CondFault → Type 0 = λ r. Cause text r in
    let same : placed_tokens text ≡ before = all ∙ append-nil before in
    subst P (sym (read_end s (length text) (whole_read s) refl))
    (at_end text s (whole_read s) refl (ap (λ ps. from_start (tokens_in ps)) same ∙ h))
sound (p ∷ ps) before text s all h =
    let P : Result (List CondOp) CondFault → Type 0 = λ r. Cause text r in
    subst P (sym (read_step s p ps (length text) (next s p.kind) refl))
    (one_more text before p ps s (next s p.kind) refl all h (λ more. sound ps (before ++ p ∷ []) text more))

-- the answer has its cause
pub read_has_cause : (text : List ℕ) → Cause text (read_of text)
read_has_cause text = sound (placed_tokens text) [] text (before_an_operand empty_hole) refl refl

run_by_next : (p : Placed) (ps qs : List Placed) (s at : Read) (end : ℕ) (o : Option Read) → next s p.kind ≡ o
    → ((more : Read) → run more (tokens_in ps) ≡ Some at
    → read (reader_of more) (ps ++ qs) end ≡ read (reader_of at) qs end)
    → option_and_then (λ more. run more (tokens_in ps)) o ≡ Some at
    → option_map_or (λ more. read (reader_of more) (ps ++ qs) end) o (Err (Bad p.place)) ≡ read (reader_of at) qs end
run_by_next p ps qs s at end None is rec h = cc
run_by_next p ps qs s at end (Some more) is rec h = rec more h

-- reading goes on behind what was read
read_run : (ps qs : List Placed) (s at : Read) (end : ℕ) → run s (tokens_in ps) ≡ Some at
    → read (reader_of s) (ps ++ qs) end ≡ read (reader_of at) qs end
read_run [] qs s at end h = let same : s ≡ at = cc in ap (λ x. read (reader_of x) qs end) same
read_run (p ∷ ps) qs s at end h =
    read_step s p (ps ++ qs) end (next s p.kind) refl
    ∙ run_by_next p ps qs s at end (next s p.kind) refl (λ more. read_run ps qs more at end) h

read_all : (text : List ℕ) (s : Read) → from_start (text_tokens text) ≡ Some s
    → read_of text ≡ or_bad (length text) (option_map ops_of (whole_read s))
read_all text s h =
    ap (λ ps. read start ps (length text)) (sym (append-nil (placed_tokens text)))
    ∙ read_run (placed_tokens text) [] (before_an_operand empty_hole) s (length text) h
    ∙ read_end s (length text) (whole_read s) refl

read_condition : (text : List ℕ) (ops : List CondOp) → Reads text ops → read_of text ≡ within_limit ops
read_condition text ops r =
    let all = reads_whole r.condition in
    read_all text all.0 (ap from_start r.spelled ∙ all.1)
    ∙ ap (λ o. or_bad (length text) (option_map ops_of o)) all.2 ∙ ap within_limit (sym r.means)

short_enough : (ops : List CondOp) → length ops ≤ 64 → within_limit ops ≡ Ok ops
short_enough ops h = let is : leb (length ops) 64 ≡ true = grind (arith, nat_tests) in rw is refl

longer : (ops : List CondOp) → 64 < length ops → within_limit ops ≡ Err TooLong
longer ops h = let is : leb (length ops) 64 ≡ false = grind (arith, nat_tests) in rw is refl

-- no state follows where nothing in the grammar does
nothing_next : (before : List Placed) (p : Placed) (s : Read) (o : Option Read) → next s p.kind ≡ o
    → from_start (tokens_in before) ≡ Some s → ¬ (Begins (tokens_in (before ++ p ∷ []))) → o ≡ None
nothing_next before p s None is h stops = refl
nothing_next before p s (Some more) is h stops =
    absurd (stops (begins_read (tokens_in (before ++ p ∷ [])) more (next_run before p s (Some more) is h)))

stops_there : (text : List ℕ) (place : ℕ) → StopsAt text place → read_of text ≡ Err (Bad place)
stops_there text place f =
    let at = begins_run (tokens_in f.before) f.begins in
    let end : next at.0 f.here.kind ≡ None =
    nothing_next f.before f.here at.0 (next at.0 f.here.kind) refl at.1 f.stops in
    ap (λ ps. read start ps (length text)) f.tokens
    ∙ read_run f.before (f.here ∷ f.behind) (before_an_operand empty_hole) at.0 (length text) at.1
    ∙ read_step at.0 f.here f.behind (length text) None end ∙ ap (λ n. Err (Bad n)) f.is_here

no_whole : (text : List ℕ) (s : Read) (o : Option Disjunction) → whole_read s ≡ o
    → from_start (text_tokens text) ≡ Some s → ((d : Disjunction) → text_tokens text ≢ disjunction_tokens d)
    → o ≡ None
no_whole text s None is h no_end = refl
no_whole text s (Some d) is h no_end = absurd (no_end d (reads_to text s d h is))

ends_there : (text : List ℕ) (place : ℕ) → EndsTooSoon text place → read_of text ≡ Err (Bad place)
ends_there text place f =
    let at = begins_run (text_tokens text) f.begins in
    let none : whole_read at.0 ≡ None = no_whole text at.0 (whole_read at.0) refl at.1 f.no_end in
    read_all text at.0 at.1 ∙ ap (λ o. or_bad (length text) (option_map ops_of o)) none
    ∙ ap (λ n. Err (Bad n)) (sym f.is_end)

-- where the cause is there, the answer comes
pub cause_is_read : (text : List ℕ) (answer : Result (List CondOp) CondFault) → Cause text answer
    → read_of text ≡ answer
cause_is_read text (Ok ops) (r, short) = read_condition text ops r ∙ short_enough ops short
cause_is_read text (Err (Bad place)) (inl f) = stops_there text place f
cause_is_read text (Err (Bad place)) (inr f) = ends_there text place f
cause_is_read text (Err TooLong) (ops, r, long) = read_condition text ops r ∙ longer ops long
cause_is_read text (Err NoMemory) h = absurd h

-- the same of a result that may lack memory
pub answers_exactly : (text : List ℕ) (result answer : Result (List CondOp) CondFault)
    → (result ≡ read_of text) ⊎ (result ≡ Err NoMemory) → answer ≢ Err NoMemory
    → AnswersExactly result answer (Cause text answer)
answers_exactly text result answer (inl is) other =
    let P : Result (List CondOp) CondFault → Type 0 = λ r. Cause text r in
    (λ e. subst P (sym is ∙ e) (read_has_cause text), λ h. inl (is ∙ cause_is_read text answer h))
answers_exactly text result answer (inr lacks) other =
    (λ e. absurd (other (sym e ∙ lacks)), λ h. inr lacks)

pub of_bytes : (bytes text : List ℕ) (result : Result (List CondOp) CondFault) → bytes ≡ text
    → (result ≡ read_of bytes) ⊎ (result ≡ Err NoMemory) → (result ≡ read_of text) ⊎ (result ≡ Err NoMemory)
of_bytes bytes text result e h =
    let P : List ℕ → Type 0 = λ bs. (result ≡ read_of bs) ⊎ (result ≡ Err NoMemory) in subst P e h

-- the tokens of two conditions are those of one
one_condition : (a b : Disjunction) → disjunction_tokens a ≡ disjunction_tokens b → a ≡ b
one_condition a b same =
    let first = reads_whole a in
    let second = reads_whole b in
    let at : first.0 ≡ second.0 =
    one_read (from_start (disjunction_tokens b)) first.0 second.0 (ap from_start (sym same) ∙ first.1) second.1 in
    one_whole (sym first.2 ∙ ap whole_read at ∙ second.2)
  where
    one_whole : {x y : Disjunction} → Some x ≡ Some y → x ≡ y
    one_whole h = cc

pub one_reading : (text : List ℕ) (a b : List CondOp) → Reads text a → Reads text b → a ≡ b
one_reading text a b r s =
    r.means ∙ ap ops_of (one_condition r.condition s.condition (sym r.spelled ∙ s.spelled)) ∙ sym s.means
