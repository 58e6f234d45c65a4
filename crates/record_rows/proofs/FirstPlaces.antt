-- Where a text is cut at the first byte of a kind, which is one of ASCII.
use Rattle.std.proofs.Common.{◌≡◌, ◌≢◌, ◌≤◌, ◌<◌, ◌+◌, ◌==◌, ◌∙◌, ℕ, true, List, [], ◌∷◌, ◌++◌, length, get_or, map}
use Rattle.std.proofs.Common.{refl, sym, ap, arith}
use Rattle.std.specs.List.{after_first, before_first, position_or_len, slice_split}
use Rattle.std.specs.Str.{IsCharBoundary, IsUtf8}
use Rattle.std.proofs.lemmas.List.{take_all, drop_all, append_assoc, length-drop}
use Rattle.std.proofs.lemmas.List.Sums.{fails_before_first, passes_at_first, prefix_len-le-length}
use Rattle.std.proofs.lemmas.List.Splits.{slice_split_first, slice_split_none}
use Rattle.std.proofs.lemmas.Bool.Decides.{nat_tests}
use Rattle.std.proofs.lemmas.Str.{IsCharBoundary-after_ascii, IsUtf8-drop}

abbrev place : ℕ → List ℕ → ℕ
place byte text = position_or_len (λ b. b == byte) text

pub place_within : (byte : ℕ) (text : List ℕ) → place byte text ≤ length text
place_within byte text = prefix_len-le-length _ text

is_it : (b byte : ℕ) → (b == byte) ≡ true → b ≡ byte
is_it b byte h = grind (arith, nat_tests)

small_at : (byte : ℕ) (text : List ℕ) (n : ℕ) → byte < 128 → n ≡ place byte text → n < length text → get_or text n 0 < 128
small_at byte text n s e lt =
    let here : place byte text < length text = omega (arith, e, lt) in
    let found : get_or text (place byte text) 0 ≡ byte = is_it _ _ (passes_at_first (λ b. b == byte) text 0 here) in
    rw e (omega (arith, s, found))

pub before_place : (byte : ℕ) (text : List ℕ) (n : ℕ) → byte < 128 → n ≡ place byte text → IsCharBoundary text n
before_place byte text n s e =
    let small = small_at byte text n s e in
    (omega (arith, place_within byte text, e), λ lt big. absurd (omega (arith, small lt, big)))

pub behind_place : (byte : ℕ) (text : List ℕ) (n : ℕ) → byte < 128 → IsUtf8 text → n ≡ place byte text → n ≢ length text
    → IsCharBoundary text (n + 1)
behind_place byte text n s u e other =
    let lt : n < length text = omega (arith, place_within byte text, e, other) in
    IsCharBoundary-after_ascii text n u lt (small_at byte text n s e lt)

pub all_before : (byte : ℕ) (text : List ℕ) → place byte text ≡ length text → text ≡ before_first (λ b. b == byte) text
all_before byte text e = sym (take_all (place byte text) text (omega (arith, e)))

pub none_behind : (byte : ℕ) (text : List ℕ) → place byte text ≡ length text → [] ≡ after_first (λ b. b == byte) text
none_behind byte text e = sym (drop_all (place byte text + 1) text (omega (arith, e)))

-- what follows the first one is shorter
pub shorter_behind : (byte : ℕ) (text : List ℕ) → place byte text < length text
    → length (after_first (λ b. b == byte) text) < length text
shorter_behind byte text lt =
    let e = length-drop (place byte text + 1) text in omega (arith, e, lt)

-- the parts of a text, of which the first was taken
pub one_more : {A : Type 0} (f : List ℕ → A) (byte : ℕ) (text front rest : List ℕ) (all taken : List A)
    → place byte text < length text → front ≡ before_first (λ b. b == byte) text
    → rest ≡ after_first (λ b. b == byte) text
    → all ≡ taken ++ map f (slice_split (λ b. b == byte) text)
    → all ≡ (taken ++ f front ∷ []) ++ map f (slice_split (λ b. b == byte) rest)
one_more f byte text front rest all taken lt a b e =
    e ∙ ap (λ l. taken ++ map f l) (slice_split_first (λ b. b == byte) text 0 lt)
    ∙ rw (sym a, sym b) (sym (append_assoc taken (f front ∷ []) (map f (slice_split (λ b. b == byte) rest))))

-- the last part
pub one_last : {A : Type 0} (f : List ℕ → A) (byte : ℕ) (text : List ℕ) (all taken : List A)
    → place byte text ≡ length text → all ≡ taken ++ map f (slice_split (λ b. b == byte) text)
    → all ≡ taken ++ f text ∷ []
one_last f byte text all taken p e =
    e ∙ ap (λ l. taken ++ map f l) (slice_split_none (λ b. b == byte) text
    (λ k d lt. fails_before_first (λ b. b == byte) text k d (omega (arith, p, lt))))

-- what follows the first one is a text
pub text_behind : (byte : ℕ) (text rest : List ℕ) → byte < 128 → IsUtf8 text → place byte text < length text
    → rest ≡ after_first (λ b. b == byte) text → IsUtf8 rest
text_behind byte text rest s u lt e =
    rw e (IsUtf8-drop text (place byte text + 1) u
    (IsCharBoundary-after_ascii text (place byte text) u lt (small_at byte text (place byte text) s refl lt)))
