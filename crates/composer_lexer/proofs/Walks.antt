-- The tokens of a text from a place on.
use Rattle.std.proofs.Common.{◌≡◌, ◌≤◌, ◌<◌, ◌-◌, ◌+◌, ℕ, zero, suc, Bool, true, false, List, [], ◌∷◌, ◌++◌, length, drop}
use Rattle.std.proofs.Common.{Result, Ok, Err, refl, ap, sym, ◌∙◌, arith, append_assoc, append-nil}
use Rattle.std.proofs.lemmas.List.{drop-drop}
use Rattle.base_types.specs.declared.reports.Token.{Token}
use Rattle.base_types.specs.declared.reports.TokenKind.{TokenKind}
use Rattle.composer_lexer.specs.declared.fronts.Front.TheVariants.{LineEnd, Space, Piece, Bad}
use Rattle.composer_lexer.specs.declared.fronts.Trouble.{Trouble}
use Rattle.composer_lexer.specs.declared.faults.LexFault.{LexFault}
use Rattle.composer_lexer.specs.Tokens.{front, fault_at, before, token, tokens_from, tokens_of}

-- tokens that were found, before those that are left
abbrev pub behind : List Token → Result (List Token) LexFault → Result (List Token) LexFault
behind xs (Ok ts) = Ok (xs ++ ts)
behind xs (Err e) = Err e

abbrev pub left : ℕ → Bool → ℕ → List ℕ → Result (List Token) LexFault
left line first at bytes = tokens_from 0 line first at (drop at bytes)

past : (n line : ℕ) (first : Bool) (place : ℕ) (bs : List ℕ) → n ≤ length bs
    → tokens_from n line first place bs ≡ tokens_from 0 line first (place + n) (drop n bs)
past zero line first place bs h = let same : place ≡ place + 0 = omega arith in ap (λ p. tokens_from 0 line first p bs) same
past (suc n) line first place [] h = absurd (omega arith)
past (suc n) line first place (b ∷ bs) h =
    let same : place + 1 + n ≡ place + suc n = omega arith in
    past n line first (place + 1) bs (omega arith) ∙ ap (λ p. tokens_from 0 line first p (drop n bs)) same

by_width : (b : ℕ) (bs : List ℕ) (line : ℕ) (first : Bool) (place w : ℕ) → 1 ≤ w → w ≤ length (b ∷ bs)
    → tokens_from (w - 1) line first (place + 1) bs ≡ tokens_from 0 line first (place + w) (drop w (b ∷ bs))
by_width b bs line first place zero some within = absurd (omega arith)
by_width b bs line first place (suc w) some within =
    let less : suc w - 1 ≡ w = omega arith in
    let same : place + 1 + w ≡ place + suc w = omega arith in
    ap (λ n. tokens_from n line first (place + 1) bs) less ∙ past w line first (place + 1) bs (omega arith)
    ∙ ap (λ p. tokens_from 0 line first p (drop w bs)) same

pub at_line_end : (line : ℕ) (first : Bool) (place : ℕ) (bs : List ℕ) → 0 < length bs → front first bs ≡ LineEnd
    → tokens_from 0 line first place bs ≡ tokens_from 0 (line + 1) true (place + 1) (drop 1 bs)
at_line_end line first place [] some is = absurd (omega arith)
at_line_end line first place (b ∷ bs) some is = rw is refl

pub at_space : (line : ℕ) (first : Bool) (place w : ℕ) (bs : List ℕ) → 1 ≤ w → w ≤ length bs → front first bs ≡ Space w
    → tokens_from 0 line first place bs ≡ tokens_from 0 line false (place + w) (drop w bs)
at_space line first place w [] some within is = absurd (omega arith)
at_space line first place w (b ∷ bs) some within is = rw is (by_width b bs line false place w some within)

pub at_piece : (line : ℕ) (first : Bool) (place w : ℕ) (k : TokenKind) (bs : List ℕ) → 1 ≤ w → w ≤ length bs
    → front first bs ≡ Piece k w
    → tokens_from 0 line first place bs ≡ before (token k line place w) (tokens_from 0 line false (place + w) (drop w bs))
at_piece line first place w k [] some within is = absurd (omega arith)
at_piece line first place w k (b ∷ bs) some within is =
    rw is (ap (λ r. before (token k line place w) r) (by_width b bs line false place w some within))

pub at_bad : (line : ℕ) (first : Bool) (place : ℕ) (t : Trouble) (bs : List ℕ) → 0 < length bs → front first bs ≡ Bad t
    → tokens_from 0 line first place bs ≡ Err (fault_at t line)
at_bad line first place t [] some is = absurd (omega arith)
at_bad line first place t (b ∷ bs) some is = rw is refl

behind_one : (xs : List Token) (t : Token) (r : Result (List Token) LexFault)
    → behind xs (before t r) ≡ behind (xs ++ t ∷ []) r
behind_one xs t (Ok ts) = ap (λ ys. Ok ys) (sym (append_assoc xs (t ∷ []) ts))
behind_one xs t (Err e) = refl

-- the same in the words of the loop
pub line_further : (found : List Token) (line : ℕ) (first : Bool) (at : ℕ) (bytes rest : List ℕ)
    (all : Result (List Token) LexFault) → rest ≡ drop at bytes → 0 < length rest → front first rest ≡ LineEnd
    → behind found (left line first at bytes) ≡ all → behind found (left (line + 1) true (at + 1) bytes) ≡ all
line_further found line first at bytes rest all cut some is same =
    ap (λ r. behind found r)
    (ap (λ zs. tokens_from 0 (line + 1) true (at + 1) zs) (sym (drop-drop 1 at bytes) ∙ ap (λ zs. drop 1 zs) (sym cut))
    ∙ sym (at_line_end line first at rest some is) ∙ ap (λ zs. tokens_from 0 line first at zs) cut)
    ∙ same

pub space_further : (found : List Token) (line : ℕ) (first : Bool) (at w : ℕ) (bytes rest : List ℕ)
    (all : Result (List Token) LexFault) → rest ≡ drop at bytes → 1 ≤ w → w ≤ length rest
    → front first rest ≡ Space w
    → behind found (left line first at bytes) ≡ all → behind found (left line false (at + w) bytes) ≡ all
space_further found line first at w bytes rest all cut some within is same =
    ap (λ r. behind found r)
    (ap (λ zs. tokens_from 0 line false (at + w) zs) (sym (drop-drop w at bytes) ∙ ap (λ zs. drop w zs) (sym cut))
    ∙ sym (at_space line first at w rest some within is) ∙ ap (λ zs. tokens_from 0 line first at zs) cut)
    ∙ same

pub piece_further : (found more : List Token) (line : ℕ) (first : Bool) (at w : ℕ) (k : TokenKind) (bytes rest : List ℕ)
    (all : Result (List Token) LexFault) → rest ≡ drop at bytes → 1 ≤ w → w ≤ length rest
    → front first rest ≡ Piece k w → more ≡ found ++ token k line at w ∷ []
    → behind found (left line first at bytes) ≡ all → behind more (left line false (at + w) bytes) ≡ all
piece_further found more line first at w k bytes rest all cut some within is put same =
    ap (λ xs. behind xs (left line false (at + w) bytes)) put
    ∙ sym (behind_one found (token k line at w) (left line false (at + w) bytes))
    ∙ ap (λ r. behind found (before (token k line at w) r))
    (ap (λ zs. tokens_from 0 line false (at + w) zs) (sym (drop-drop w at bytes) ∙ ap (λ zs. drop w zs) (sym cut)))
    ∙ ap (λ r. behind found r)
    (sym (at_piece line first at w k rest some within is) ∙ ap (λ zs. tokens_from 0 line first at zs) cut)
    ∙ same

pub bad_here : (found : List Token) (line : ℕ) (first : Bool) (at : ℕ) (t : Trouble) (bytes rest : List ℕ)
    (all : Result (List Token) LexFault) → rest ≡ drop at bytes → 0 < length rest → front first rest ≡ Bad t
    → behind found (left line first at bytes) ≡ all → Err (fault_at t line) ≡ all
bad_here found line first at t bytes rest all cut some is same =
    ap (λ r. behind found r)
    (sym (at_bad line first at t rest some is) ∙ ap (λ zs. tokens_from 0 line first at zs) cut)
    ∙ same

pub nothing_left : (found : List Token) (line : ℕ) (first : Bool) (at : ℕ) (bytes : List ℕ)
    (all : Result (List Token) LexFault) → drop at bytes ≡ [] → behind found (left line first at bytes) ≡ all
    → Ok found ≡ all
nothing_left found line first at bytes all none same =
    ap (λ xs. Ok xs) (sym (append-nil found))
    ∙ ap (λ zs. behind found (tokens_from 0 line first at zs)) (sym none) ∙ same

pub none_found : (found : List Token) (bytes : List ℕ) → found ≡ [] → behind found (left 1 true 0 bytes) ≡ tokens_of bytes
unfolding tokens_of
none_found found bytes none =
    ap (λ xs. behind xs (tokens_from 0 1 true 0 bytes)) none ∙ nothing_before (tokens_from 0 1 true 0 bytes)
  where
    nothing_before : (r : Result (List Token) LexFault) → behind [] r ≡ r
    nothing_before (Ok ts) = refl
    nothing_before (Err e) = refl
