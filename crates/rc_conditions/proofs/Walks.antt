-- The tokens of a text from a place on.
use Rattle.std.proofs.Common.{◌≡◌, ◌≤◌, ◌<◌, ◌-◌, ◌+◌, ℕ, zero, suc, false, List, [], ◌∷◌, length, take, drop}
use Rattle.std.proofs.Common.{get_or, Option, Some, Result, Err, ap, sym, ◌∙◌, arith}
use Rattle.std.specs.Option.{option_map_or}
use Rattle.std.proofs.lemmas.List.{drop-drop}
use Rattle.model.specs.Types.{CondOp}
use Rattle.rc_conditions.specs.declared.CondFault.{CondFault}
use Rattle.rc_conditions.specs.declared.CondFault.TheVariants.{Bad}
use Rattle.rc_conditions.specs.declared.readers.Reader.{Reader}
use Rattle.rc_conditions.specs.declared.tokens.Token.{Token}
use Rattle.rc_conditions.specs.Machine.{read, step}
use Rattle.rc_conditions.specs.Tokens.{Placed, tokens_behind, token_of, width, is_blank}

-- the bytes of a token are passed over
past_token : (n place : ℕ) (bs : List ℕ) → n ≤ length bs
    → tokens_behind n place bs ≡ tokens_behind 0 (place + n) (drop n bs)
past_token zero place bs h = let same : place ≡ place + 0 = omega arith in ap (λ p. tokens_behind 0 p bs) same
past_token (suc n) place [] h = absurd (omega arith)
past_token (suc n) place (b ∷ bs) h =
    let same : place + 1 + n ≡ place + suc n = omega arith in
    past_token n (place + 1) bs (omega arith) ∙ ap (λ p. tokens_behind 0 p (drop n bs)) same

abbrev pub placed : List ℕ → ℕ → Placed
placed word place = record { kind = token_of word; place = place }

by_width : (b : ℕ) (bs : List ℕ) (place w : ℕ) → 0 < w → w ≤ length (b ∷ bs)
    → tokens_behind (w - 1) (place + 1) bs ≡ tokens_behind 0 (place + w) (drop w (b ∷ bs))
by_width b bs place zero some within = absurd (omega arith)
by_width b bs place (suc w) some within =
    let less : suc w - 1 ≡ w = omega arith in
    let same : place + 1 + w ≡ place + suc w = omega arith in
    ap (λ n. tokens_behind n (place + 1) bs) less ∙ past_token w (place + 1) bs (omega arith)
    ∙ ap (λ p. tokens_behind 0 p (drop w bs)) same

-- a token, and what stands behind it
pub token_here : (bs : List ℕ) (place : ℕ) → 0 < length bs → is_blank (get_or bs 0 0) ≡ false → 0 < width bs
    → width bs ≤ length bs
    → tokens_behind 0 place bs
    ≡ placed (take (width bs) bs) place ∷ tokens_behind 0 (place + width bs) (drop (width bs) bs)
token_here [] place some here more within = absurd (omega arith)
token_here (b ∷ bs) place some here more within =
    rw here
    (ap (λ rest. placed (take (width (b ∷ bs)) (b ∷ bs)) place ∷ rest)
    (by_width b bs place (width (b ∷ bs)) more within))

-- what a reader answers before a token
pub read_token : (r next : Reader) (o : Option Reader) (kind : Token) (place : ℕ) (ps : List Placed) (end : ℕ)
    → o ≡ step r kind → o ≡ Some next
    → read r (record { kind = kind; place = place } ∷ ps) end ≡ read next ps end
read_token r next o kind place ps end is found =
    ap (λ x. option_map_or (λ more. read more ps end) x (Err (Bad place))) (sym is ∙ found)

same_token : (bs : List ℕ) (w : ℕ) (kind : Token) (place : ℕ) (left : List ℕ) → width bs ≡ w
    → kind ≡ token_of (take w bs) → drop w bs ≡ left
    → placed (take (width bs) bs) place ∷ tokens_behind 0 (place + width bs) (drop (width bs) bs)
    ≡ record { kind = kind; place = place } ∷ tokens_behind 0 (place + w) left
same_token bs w kind place left is kind-is left-is =
    ap (λ n. placed (take n bs) place ∷ tokens_behind 0 (place + n) (drop n bs)) is
    ∙ ap (λ k. record { kind = k; place = place } ∷ tokens_behind 0 (place + w) (drop w bs)) (sym kind-is)
    ∙ ap (λ xs. record { kind = kind; place = place } ∷ tokens_behind 0 (place + w) xs) left-is

-- the same in the words of the loop
pub read_more : (r next : Reader) (o : Option Reader) (text rest : List ℕ) (kind : Token) (at w end : ℕ)
    (answer : Result (List CondOp) CondFault)
    → rest ≡ drop at text → 0 < length rest → false ≡ is_blank (get_or rest 0 0)
    → w ≡ width rest → 0 < w → w ≤ length rest → kind ≡ token_of (take w rest)
    → o ≡ step r kind → o ≡ Some next
    → read r (tokens_behind 0 at (drop at text)) end ≡ answer
    → read next (tokens_behind 0 (at + w) (drop (at + w) text)) end ≡ answer
read_more r next o text rest kind at w end answer rest-is some here w-is more within kind-is is found before =
    let all : tokens_behind 0 at (drop at text)
    ≡ record { kind = kind; place = at } ∷ tokens_behind 0 (at + w) (drop (at + w) text) =
    ap (λ bs. tokens_behind 0 at bs) (sym rest-is)
    ∙ token_here rest at some (sym here) (omega (arith, sym w-is)) (omega (arith, w-is))
    ∙ same_token rest w kind at (drop (at + w) text) (sym w-is) kind-is
    (ap (λ bs. drop w bs) rest-is ∙ drop-drop w at text) in
    sym (read_token r next o kind at (tokens_behind 0 (at + w) (drop (at + w) text)) end is found)
    ∙ ap (λ ps. read r ps end) (sym all) ∙ before
