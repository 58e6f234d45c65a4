-- The tokens and the fault of a text, by their places.
use Rattle.std.proofs.Common.{◌≡◌, ◌≤◌, ◌<◌, ◌+◌, ◌-◌, ◌&&◌, ◌==◌, not, cond, ℕ, zero, suc, Bool, true, false, List, [], ◌∷◌, ◌++◌, length, take, drop, get_or}
use Rattle.std.proofs.Common.{Result, Ok, Err, ◌⊎◌, IfOk, refl, ap, sym, subst, ◌∙◌, inl, inr, arith, length-drop}
use Rattle.std.specs.List.{list_all, count_by}
use Rattle.std.proofs.Math.Seq.{take-add}
use Rattle.std.proofs.lemmas.Bool.Decides.{eqb_tells}
use Rattle.std.proofs.lemmas.List.{drop-drop, drop_all, get_or-drop, get_or-take, length-take-le}
use Rattle.std.proofs.lemmas.List.Folds.{list_all_at}
use Rattle.std.proofs.lemmas.List.Sums.{sum_by-append}
use Rattle.base_types.specs.declared.reports.Token.{Token}
use Rattle.base_types.specs.declared.reports.TokenKind.{TokenKind}
use Rattle.composer_lexer.specs.declared.fronts.Front.{Front}
use Rattle.composer_lexer.specs.declared.fronts.Front.TheVariants.{LineEnd, Space, Piece, Bad}
use Rattle.composer_lexer.specs.declared.fronts.Trouble.{Trouble}
use Rattle.composer_lexer.specs.declared.fronts.Trouble.TheVariants as trouble
use Rattle.composer_lexer.specs.declared.faults.LexFault.{LexFault}
use Rattle.composer_lexer.specs.declared.faults.LexFault.TheVariants as fault
use Rattle.composer_lexer.specs.Tokens.{front, fault_at, before, token, tokens_from, tokens_of}
use Rattle.composer_lexer.specs.Places.{begins_line, line_of, HasForm, IsToken, AreTokens, Begins}
use Rattle.composer_lexer.proofs.Forms.{is_no_feed, Runs, IsFront, front_form}
use Rattle.composer_lexer.proofs.Walks.{at_line_end, at_space, at_piece, at_bad}

feeds_two : (xs ys : List ℕ) → count_by (λ b. b == 10) (xs ++ ys) ≡ count_by (λ b. b == 10) xs + count_by (λ b. b == 10) ys
feeds_two xs ys = sum_by-append (λ b. cond (b == 10) 1 0) xs ys

no_feeds : (xs : List ℕ) → list_all is_no_feed xs ≡ true → count_by (λ b. b == 10) xs ≡ 0
no_feeds [] h = refl
no_feeds (x ∷ xs) h = by_first (x == 10) refl h (λ k. no_feeds xs k)
  where
    by_first : (b : Bool) → (x == 10) ≡ b → (not (x == 10) && list_all is_no_feed xs) ≡ true
        → (list_all is_no_feed xs ≡ true → count_by (λ c. c == 10) xs ≡ 0) → count_by (λ c. c == 10) (x ∷ xs) ≡ 0
    by_first true e k rec = let no : (not (x == 10) && list_all is_no_feed xs) ≡ false = rw e refl in cc
    by_first false e k rec =
        let rest : list_all is_no_feed xs ≡ true = rw e at k in rw e (rec rest)

-- the line of a place further on
line_further : (text : List ℕ) (place w : ℕ) → list_all is_no_feed (take w (drop place text)) ≡ true
    → line_of text place ≡ line_of text (place + w)
line_further text place w h =
    let cut = ap (λ zs. count_by (λ b. b == 10) zs) (take-add place w text)
    ∙ feeds_two (take place text) (take w (drop place text)) in
    omega (arith, cut, no_feeds (take w (drop place text)) h)

next_line : (text : List ℕ) (place : ℕ) (b : ℕ) (bs : List ℕ) → drop place text ≡ b ∷ bs → b ≡ 10
    → line_of text place + 1 ≡ line_of text (place + 1)
next_line text place b bs cut is =
    let all = ap (λ zs. count_by (λ c. c == 10) zs) (take-add place 1 text)
    ∙ feeds_two (take place text) (take 1 (drop place text)) in
    let one : count_by (λ c. c == 10) (take 1 (drop place text)) ≡ 1 =
    ap (λ zs. count_by (λ c. c == 10) (take 1 zs)) cut ∙ rw is refl in
    omega (arith, all, one)

byte_at : (text : List ℕ) (place w : ℕ) → 1 ≤ w → get_or (drop place text) (w - 1) 0 ≡ get_or text (place + w - 1) 0
byte_at text place w some =
    let e : place + (w - 1) ≡ place + w - 1 = omega arith in
    get_or-drop place text (w - 1) 0 ∙ ap (λ k. get_or text k 0) e

not_zero : (n : ℕ) → 1 ≤ n → (n == 0) ≡ false
not_zero n h = elim (eqb_tells n 0) [ inl e ↦ absurd (omega (arith, e.1)) | inr e ↦ e.0 ]

last_no_feed : (bs : List ℕ) (w : ℕ) → Runs w bs → (get_or bs (w - 1) 0 == 10) ≡ false
last_no_feed bs w (some, within, feeds) = by_byte (get_or bs (w - 1) 0 == 10) refl
  where
    by_byte : (b : Bool) → (get_or bs (w - 1) 0 == 10) ≡ b → b ≡ false
    by_byte false e = refl
    by_byte true e =
        let same = get_or-take w bs (w - 1) 0 (omega arith) in
        let bad : is_no_feed (get_or (take w bs) (w - 1) 0) ≡ false = ap is_no_feed same ∙ ap not e in
        let small : w - 1 < length (take w bs) = omega (arith, length-take-le w bs within) in
        let no = list_all_at is_no_feed (take w bs) (w - 1) 0 small bad in cc

-- behind what has no line feed no line begins
no_line : (text : List ℕ) (place w : ℕ) → Runs w (drop place text) → false ≡ begins_line text (place + w)
no_line text place w runs =
    let some = runs.0 in
    sym (rw (not_zero (place + w) (omega (arith, some)), sym (byte_at text place w some)) (last_no_feed (drop place text) w runs))

line_begins : (text : List ℕ) (place b : ℕ) (bs : List ℕ) → drop place text ≡ b ∷ bs → b ≡ 10
    → true ≡ begins_line text (place + 1)
line_begins text place b bs cut is =
    let here : get_or text (place + 1 - 1) 0 ≡ 10 =
    sym (byte_at text place 1 (omega arith)) ∙ ap (λ zs. get_or zs 0 0) cut ∙ is in
    sym (rw (not_zero (place + 1) (omega arith), here) refl)

-- what the answer from a place on tells
abbrev pub Told : List ℕ → ℕ → Result (List Token) LexFault → Type 0
Told text place (Ok ts) = AreTokens text place ts
Told text place (Err (fault.BadChar line)) = Begins trouble.Char text line
Told text place (Err (fault.OpenText line)) = Begins trouble.Open text line
Told text place (Err (fault.TooLong line)) = Begins trouble.Long text line
Told text place (Err fault.NoMemory) = ⊥

in_order : (text : List ℕ) (place further : ℕ) (ts : List Token) → place ≤ further → AreTokens text further ts
    → AreTokens text place ts
in_order text place further [] h told = tt
in_order text place further (t ∷ ts) h (start, is, more) = (omega (arith, start, h), is, more)

earlier : (text : List ℕ) (place further : ℕ) (r : Result (List Token) LexFault) → place ≤ further
    → Told text further r → Told text place r
earlier text place further (Ok ts) h told = in_order text place further ts h told
earlier text place further (Err (fault.BadChar line)) h told = told
earlier text place further (Err (fault.OpenText line)) h told = told
earlier text place further (Err (fault.TooLong line)) h told = told
earlier text place further (Err fault.NoMemory) h told = told

put_before : (text : List ℕ) (place : ℕ) (t : Token) (r : Result (List Token) LexFault) → place ≤ t.start
    → IsToken text t → Told text t.end r → Told text place (before t r)
put_before text place t (Ok ts) h is told = (h, is, told)
put_before text place t (Err (fault.BadChar line)) h is told = told
put_before text place t (Err (fault.OpenText line)) h is told = told
put_before text place t (Err (fault.TooLong line)) h is told = told
put_before text place t (Err fault.NoMemory) h is told = told

bad_told : (text : List ℕ) (place line : ℕ) (t : Trouble) → Begins t text line → Told text place (Err (fault_at t line))
bad_told text place line trouble.Char h = h
bad_told text place line trouble.Open h = h
bad_told text place line trouble.Long h = h

abbrev pub Later : ℕ → List ℕ → Type 0
Later n text =
    (place line : ℕ) (first : Bool) → length text ≤ place + n → line ≡ line_of text place
    → first ≡ begins_line text place → Told text place (tokens_from 0 line first place (drop place text))

told_piece : (n : ℕ) (text : List ℕ) (place line : ℕ) (first : Bool) (b : ℕ) (bs : List ℕ) (w : ℕ) (k : TokenKind)
    → length text ≤ place + suc n → line ≡ line_of text place → first ≡ begins_line text place
    → drop place text ≡ b ∷ bs → front first (drop place text) ≡ Piece k w → IsFront (drop place text) (Piece k w)
    → Later n text → Told text place (tokens_from 0 line first place (drop place text))
told_piece n text place line first b bs w k enough is_line is_first cut is (runs, form) later =
    let P : Result (List Token) LexFault → Type 0 = λ r. Told text place r in
    let long = length-drop place text in
    let further : Told text (place + w) (tokens_from 0 line false (place + w) (drop (place + w) text)) =
    later (place + w) line false (omega (arith, enough, runs.0)) (is_line ∙ line_further text place w runs.2)
    (no_line text place w runs) in
    let Q : List ℕ → Type 0 = λ zs. Told text (place + w) (tokens_from 0 line false (place + w) zs) in
    let here = subst Q (sym (drop-drop w place text)) further in
    let width : place + w - place ≡ w = omega arith in
    let S : ℕ → Type 0 = λ m. HasForm k (take m (drop place text)) in
    let F : ℕ → Type 0 = λ m. front (begins_line text place) (drop place text) ≡ Piece k m in
    let token_is : IsToken text (token k line place w) = record {
      some = omega (arith, runs.0);
      within = omega (arith, long, runs.1, runs.0);
      slice = subst S (sym width) form;
      whole = subst F (sym width) (ap (λ x. front x (drop place text)) (sym is_first) ∙ is);
      line = is_line;
    } in
    subst P (sym (at_piece line first place w k (drop place text) runs.0 runs.1 is))
    (put_before text place (token k line place w) (tokens_from 0 line false (place + w) (drop w (drop place text)))
    (omega arith) token_is here)

told_space : (n : ℕ) (text : List ℕ) (place line : ℕ) (first : Bool) (w : ℕ)
    → length text ≤ place + suc n → line ≡ line_of text place
    → front first (drop place text) ≡ Space w → IsFront (drop place text) (Space w)
    → Later n text → Told text place (tokens_from 0 line first place (drop place text))
told_space n text place line first w enough is_line is runs later =
    let P : Result (List Token) LexFault → Type 0 = λ r. Told text place r in
    let further : Told text (place + w) (tokens_from 0 line false (place + w) (drop (place + w) text)) =
    later (place + w) line false (omega (arith, enough, runs.0)) (is_line ∙ line_further text place w runs.2)
    (no_line text place w runs) in
    let Q : List ℕ → Type 0 = λ zs. Told text (place + w) (tokens_from 0 line false (place + w) zs) in
    let here = subst Q (sym (drop-drop w place text)) further in
    subst P (sym (at_space line first place w (drop place text) runs.0 runs.1 is))
    (earlier text place (place + w) (tokens_from 0 line false (place + w) (drop w (drop place text))) (omega arith) here)

told_line : (n : ℕ) (text : List ℕ) (place line : ℕ) (first : Bool) (b : ℕ) (bs : List ℕ)
    → length text ≤ place + suc n → line ≡ line_of text place → drop place text ≡ b ∷ bs
    → front first (drop place text) ≡ LineEnd → b ≡ 10
    → Later n text → Told text place (tokens_from 0 line first place (drop place text))
told_line n text place line first b bs enough is_line cut is feed later =
    let P : Result (List Token) LexFault → Type 0 = λ r. Told text place r in
    let further : Told text (place + 1) (tokens_from 0 (line + 1) true (place + 1) (drop (place + 1) text)) =
    later (place + 1) (line + 1) true (omega (arith, enough))
    (ap (λ x. x + 1) is_line ∙ next_line text place b bs cut feed) (line_begins text place b bs cut feed) in
    let Q : List ℕ → Type 0 = λ zs. Told text (place + 1) (tokens_from 0 (line + 1) true (place + 1) zs) in
    let here = subst Q (sym (drop-drop 1 place text)) further in
    let some : 0 < length (drop place text) = omega (arith, ap (λ (zs : List ℕ). length zs) cut) in
    subst P (sym (at_line_end line first place (drop place text) some is))
    (earlier text place (place + 1) (tokens_from 0 (line + 1) true (place + 1) (drop 1 (drop place text))) (omega arith) here)

told_bad : (text : List ℕ) (place line : ℕ) (first : Bool) (b : ℕ) (bs : List ℕ) (t : Trouble)
    → line ≡ line_of text place → first ≡ begins_line text place → drop place text ≡ b ∷ bs
    → front first (drop place text) ≡ Bad t → Told text place (tokens_from 0 line first place (drop place text))
told_bad text place line first b bs t is_line is_first cut is =
    let P : Result (List Token) LexFault → Type 0 = λ r. Told text place r in
    let long = ap (λ (zs : List ℕ). length zs) cut in
    let some : 0 < length (drop place text) = omega (arith, long) in
    subst P (sym (at_bad line first place t (drop place text) some is))
    (bad_told text place line t (
      place,
      omega (arith, some, length-drop place text),
      ap (λ x. front x (drop place text)) (sym is_first) ∙ is,
      is_line,
    ))

told_from : (n : ℕ) (text : List ℕ) → Later n text
told_from zero text place line first enough is_line is_first =
    let none : drop place text ≡ [] = drop_all place text (omega (arith, enough)) in
    let Q : List ℕ → Type 0 = λ zs. Told text place (tokens_from 0 line first place zs) in subst Q (sym none) tt
told_from (suc n) text place line first enough is_line is_first =
    by_rest (drop place text) refl (told_from n text)
  where
    by_front : (b : ℕ) (bs : List ℕ) → drop place text ≡ b ∷ bs → (f : Front) → front first (drop place text) ≡ f
        → IsFront (drop place text) f → Later n text → Told text place (tokens_from 0 line first place (drop place text))
    by_front b bs cut LineEnd is form later =
        told_line n text place line first b bs enough is_line cut is (ap (λ zs. get_or zs 0 0) (sym cut) ∙ form) later
    by_front b bs cut (Space w) is form later = told_space n text place line first w enough is_line is form later
    by_front b bs cut (Piece k w) is form later =
        told_piece n text place line first b bs w k enough is_line is_first cut is form later
    by_front b bs cut (Bad t) is form later = told_bad text place line first b bs t is_line is_first cut is

    by_rest : (bs : List ℕ) → drop place text ≡ bs → Later n text
        → Told text place (tokens_from 0 line first place (drop place text))
    by_rest [] cut later =
        let Q : List ℕ → Type 0 = λ zs. Told text place (tokens_from 0 line first place zs) in subst Q (sym cut) tt
    by_rest (b ∷ bs) cut later =
        let P : List ℕ → Type 0 = λ zs. IsFront zs (front first zs) in
        by_front b bs cut (front first (drop place text)) refl (subst P (sym cut) (front_form first b bs)) later

told : (text : List ℕ) → Told text 0 (tokens_of text)
unfolding tokens_of
told text = told_from (length text) text 0 1 true (omega arith) refl refl

-- the same of an answer
abbrev pub Answered : List ℕ → Result (List Token) LexFault → Type 0
Answered text r = (r ≡ tokens_of text) ⊎ (r ≡ Err fault.NoMemory)

pub slices : (text : List ℕ) (r : Result (List Token) LexFault) → Answered text r
    → IfOk r (λ found. AreTokens text 0 found)
slices text (Ok found) (inl is) =
    let P : Result (List Token) LexFault → Type 0 = λ x. Told text 0 x in subst P (sym is) (told text)
slices text (Ok found) (inr is) = cc
slices text (Err e) h = tt

abbrev pub Causes : List ℕ → LexFault → Type 0
Causes text e = Told text 0 (Err e)

pub causes : (text : List ℕ) (r : Result (List Token) LexFault) (e : LexFault) → Answered text r → r ≡ Err e
    → (e ≡ fault.NoMemory → ⊥) → Causes text e
causes text r e (inl is) h room =
    let P : Result (List Token) LexFault → Type 0 = λ x. Told text 0 x in subst P (sym is ∙ h) (told text)
causes text r e (inr is) h room = absurd (room (let same : Err e ≡ Err fault.NoMemory = sym h ∙ is in cc))
