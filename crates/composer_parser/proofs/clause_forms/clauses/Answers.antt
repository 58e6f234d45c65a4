use Rattle.std.proofs.Common.{◌≡◌, ◌∙◌, ◌&&◌, cond, ap, refl, sym, Bool, true, false, List, [], ◌∷◌, ℕ, zero, suc, length}
use Rattle.composer_parser.specs.Kinds.{Spelled}
use Rattle.composer_parser.specs.Grammars.{Grammar, many}
use Rattle.composer_parser.specs.Parts.{put}
use Rattle.composer_parser.specs.Clauses.{clause, clauses, may_clause}
use Rattle.composer_parser.specs.Reading.{Outcome, done, stuck, and_then, is_any, tries, read, repeat}
use Rattle.composer_parser.specs.Tokens.{all_spelled}
use Rattle.composer_parser.specs.declared.definitions.Lined.{Lined}
use Rattle.composer_parser.specs.declared.clauses.Clause.{Clause}
use Rattle.composer_parser.specs.declared.clause_forms.ClauseList.{ClauseList}
use Rattle.composer_parser.proofs.Loops.{answers_err, stop_goes_on}
use Rattle.composer_parser.proofs.clause_forms.clauses.Goals as goal

abbrev next : ClauseList → Lined Clause → ClauseList
next s c = record s { all = put s.all c }

abbrev may : ClauseList → Spelled → Bool
may s t = may_clause s.stream s.all t

-- pieces that are put into a list behind a flag are those of the list alone
alone : (g : Grammar (Lined Clause)) (n : ℕ) (s : ClauseList) (ts : List Spelled)
    → repeat put (λ x t. is_any (tries g) t && may_clause s.stream x t) (λ us. read g us) n s.all ts
    ≡ and_then (repeat next (λ x t. is_any (tries g) t && may x t) (λ us. read g us) n s ts) (λ x last. done x.all last)
alone g zero s ts = refl
alone g (suc n) s [] = refl
alone g (suc n) s (t ∷ ts) =
    by_test (is_any (tries g) t && may s t) (read g (t ∷ ts)) (λ a rest. alone g n (next s a) rest)
  where
    by_test : (b : Bool) (o : Outcome (Lined Clause))
        → ((a : Lined Clause) (rest : List Spelled)
        → repeat put (λ x u. is_any (tries g) u && may_clause s.stream x u) (λ us. read g us) n (put s.all a) rest
        ≡ and_then (repeat next (λ x u. is_any (tries g) u && may x u) (λ us. read g us) n (next s a) rest) (λ x last. done x.all last))
        → cond b (and_then o (λ a rest. repeat put (λ x u. is_any (tries g) u && may_clause s.stream x u) (λ us. read g us) n (put s.all a) rest)) (done s.all (t ∷ ts))
        ≡ and_then (cond b (and_then o (λ a rest. repeat next (λ x u. is_any (tries g) u && may x u) (λ us. read g us) n (next s a) rest)) (done s (t ∷ ts))) (λ x last. done x.all last)
    by_test false o rec = refl
    by_test true (stuck w us) rec = refl
    by_test true (done a rest) rec = rec a rest

abbrev gathered : Bool → List (Lined Clause) → Grammar ClauseList
gathered stream cs = many (record { stream = stream; all = cs }) next may clause (λ s. s)

same : (stream : Bool) (cs : List (Lined Clause)) (ts : List Spelled) → cs ≡ []
    → read (clauses stream) ts ≡ and_then (read (gathered stream cs) ts) (λ s last. done s.all last)
unfolding clauses
same stream cs ts none =
    ap (λ xs. read (many xs put (may_clause stream) clause (λ ys. ys)) ts) (sym none)
    ∙ ap (λ o. and_then o (λ x last. done x last)) (alone clause (length ts) (record { stream = stream; all = cs }) ts)
    ∙ by_end (repeat next (λ x t. is_any (tries clause) t && may x t) (λ us. read clause us) (length ts) (record { stream = stream; all = cs }) ts)
  where
    by_end : (o : Outcome ClauseList)
        → and_then (and_then o (λ s last. done s.all last)) (λ x last. done x last)
        ≡ and_then (and_then o (λ x last. done x last)) (λ s last. done s.all last)
    by_end (done s last) = refl
    by_end (stuck w last) = refl

pub returns : goal.returns
returns c =
    same c.args.stream c.new-all.result (all_spelled c.args.text.now c.args.rest.now) c.new-all.ensures
    ∙ ap (λ o. and_then o (λ s last. done s.all last)) c.in_ok-found.ensures

pub returns-in_err-found : goal.returns-in_err-found
returns-in_err-found c =
    let ts = all_spelled c.args.text.now c.args.rest.now in
    answers_err c.args.text.now c.in_err-found.field-0.0 c.from_residual.result (read (clauses c.args.stream) ts)
    c.from_residual.ensures.1
    (stop_goes_on c.args.text.now c.in_err-found.field-0.0 (read (gathered c.args.stream c.new-all.result) ts)
    (read (clauses c.args.stream) ts) c.in_err-found.ensures
    (λ w rest h. same c.args.stream c.new-all.result ts c.new-all.ensures ∙ ap (λ o. and_then o (λ s last. done s.all last)) h))
