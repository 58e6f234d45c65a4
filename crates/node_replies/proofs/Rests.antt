-- The answers for the rests of a text, while they go over from one pattern to another, from the last rest to the first.
use Rattle.std.proofs.Common.{[], ◌+◌, ◌++◌, ◌-◌, ◌<◌, ◌≡◌, ◌≤◌, ◌∙◌, ◌∷◌, ℕ, List, add-one, ap, arith, drop, get_or, length, refl, replicate, set, suc, sym, take, zero}
use Rattle.std.proofs.lemmas.List.{drop-drop, take_rest}
use Rattle.std.specs.List.{list_any}
use Rattle.std.specs.Prelude.{if◌then◌else◌, ◌&&◌, ◌==◌, ◌||◌, Bool, false, true}
use Rattle.node_replies.specs.Patterns.{begins_with, matches, matches_of_rests, rests}

-- in front of this place stand the answers of the old pattern, and from there on those of the new one
abbrev pub part_new : List ℕ → List ℕ → List ℕ → ℕ → List Bool
part_new old new text place = take place (matches_of_rests old text) ++ matches_of_rests new (drop place text)

-- the whole text is the first rest
pub at_first : (ps text : List ℕ) (d : Bool) → get_or (matches_of_rests ps text) 0 d ≡ matches ps text
at_first ps [] d = refl
at_first ps (c ∷ cs) d = refl

-- the empty text is the last one
pub at_last : (ps text : List ℕ) → get_or (matches_of_rests ps text) (length text) false ≡ matches ps []
at_last ps [] = refl
at_last ps (c ∷ cs) = at_last ps cs

pub length-matches_of_rests : (ps text : List ℕ) → length (matches_of_rests ps text) ≡ length text + 1
length-matches_of_rests ps [] = refl
length-matches_of_rests ps (c ∷ cs) = omega (arith, length-matches_of_rests ps cs)

-- behind the last byte nothing is left
pub nothing_behind : (xs : List ℕ) → drop (length xs) xs ≡ []
nothing_behind [] = refl
nothing_behind (x ∷ xs) = nothing_behind xs

-- the last answer is the first that is new
pub new_at_last : (old new text : List ℕ)
    → set (matches_of_rests old text) (length text) (matches new []) ≡ part_new old new text (length text)
new_at_last old new [] = refl
new_at_last old new (c ∷ cs) = ap (λ l. matches old (c ∷ cs) ∷ l) (new_at_last old new cs)

-- what is read of the old pattern at the place in front
pub here_of : (old new text : List ℕ) (k : ℕ) → k < length text
    → get_or (part_new old new text (suc k)) k false ≡ matches old (drop k text)
here_of old new [] k h = absurd (omega arith)
here_of old new (c ∷ cs) zero h = refl
here_of old new (c ∷ cs) (suc k) h = here_of old new cs k (omega arith)

-- the empty pattern is that of the empty text alone
pub last_alone : (text : List ℕ) → set (replicate (length text + 1) false) (length text) true ≡ matches_of_rests [] text
last_alone text = ap (λ n. set (replicate n false) (length text) true) (add-one (length text)) ∙ by text
  where
    by : (t : List ℕ) → set (replicate (suc (length t)) false) (length t) true ≡ matches_of_rests [] t
    by [] = refl
    by (c ∷ cs) = ap (λ l. false ∷ l) (by cs)

-- a pattern with a first byte, of the empty rest
pub at_end : (p : ℕ) (ps : List ℕ) → matches (p ∷ ps) [] ≡ (p == 64) && matches ps []
at_end p ps = by (p == 64) (matches ps [])
  where
    by : (b m : Bool) → (if b then m || false else false) ≡ b && m
    by true true = refl
    by true false = refl
    by false m = refl

-- of a rest with a first byte
pub one_longer : (p : ℕ) (ps : List ℕ) (c : ℕ) (cs : List ℕ)
    → matches (p ∷ ps) (c ∷ cs)
    ≡ (if p == 64 then matches ps (c ∷ cs) || matches (p ∷ ps) cs else (p == c) && matches ps cs)
one_longer p ps c cs = by (p == 64) (matches ps (c ∷ cs)) (list_any (matches ps) (rests cs)) ((p == c) && matches ps cs) (begins_with p (matches ps) cs)
  where
    by : (b here rest next other : Bool)
        → (if b then here || rest else next) ≡ (if b then here || (if b then rest else other) else next)
    by true here rest next other = refl
    by false here rest next other = refl

-- the answer at a place, by those that are read for it
abbrev pub answer_at : ℕ → List ℕ → List Bool → ℕ → ℕ → Bool → Bool
answer_at p text row here after next =
    if p == 64 then get_or row here false || get_or row after false else (p == get_or text here 0) && next

-- one answer more is new
pub new_at : (p : ℕ) (ps text : List ℕ) (k : ℕ) (v : Bool) → k < length text
    → v ≡ answer_at p text (part_new ps (p ∷ ps) text (suc k)) k (suc k) (matches ps (drop (suc k) text))
    → set (part_new ps (p ∷ ps) text (suc k)) k v ≡ part_new ps (p ∷ ps) text k
new_at p ps [] k v h e = absurd (omega arith)
new_at p ps (c ∷ cs) zero v h e =
    let whole : v ≡ matches (p ∷ ps) (c ∷ cs) =
    e
    ∙ ap (λ (after : Bool). if p == 64 then matches ps (c ∷ cs) || after else (p == c) && matches ps cs)
    (at_first (p ∷ ps) cs false)
    ∙ sym (one_longer p ps c cs)
    in
    ap (λ (b : Bool). b ∷ matches_of_rests (p ∷ ps) cs) whole
new_at p ps (c ∷ cs) (suc k) v h e = ap (λ (l : List Bool). matches ps (c ∷ cs) ∷ l) (new_at p ps cs k v (omega arith) e)

-- The same, as the code counts how many places were passed. At first:
pub none_passed : (pattern text : List ℕ) (row : List Bool) (v : Bool) → 0 < length pattern
    → row ≡ matches_of_rests (drop 1 pattern) text
    → v ≡ (get_or pattern 0 0 == 64) && get_or row (length text) false
    → set row (length text) v ≡ part_new (drop 1 pattern) pattern text (length text - 0)
none_passed [] text row v some r e = absurd (omega arith)
none_passed (p ∷ ps) text row v some r e =
    let first : v ≡ matches (p ∷ ps) [] =
    e ∙ ap (λ (l : List Bool). (p == 64) && get_or l (length text) false) r
    ∙ ap (λ (b : Bool). (p == 64) && b) (at_last ps text) ∙ sym (at_end p ps)
    in
    let all : length text ≡ length text - 0 = omega arith in
    ap (λ (l : List Bool). set l (length text) v) r
    ∙ ap (λ (b : Bool). set (matches_of_rests ps text) (length text) b) first
    ∙ new_at_last ps (p ∷ ps) text
    ∙ ap (λ (k : ℕ). part_new ps (p ∷ ps) text k) all

pub none_passed_next : (ps text : List ℕ) (row : List Bool) → row ≡ matches_of_rests ps text
    → get_or row (length text) false ≡ matches ps (drop (length text - 0) text)
none_passed_next ps text row r =
    let all : length text ≡ length text - 0 = omega arith in
    ap (λ (l : List Bool). get_or l (length text) false) r ∙ at_last ps text
    ∙ ap (λ (l : List ℕ). matches ps l) (sym (nothing_behind text))
    ∙ ap (λ (k : ℕ). matches ps (drop k text)) all

-- one more
pub one_passed : (pattern text : List ℕ) (row : List Bool) (i : ℕ) (next v : Bool) → 0 < length pattern
    → i < length text
    → row ≡ part_new (drop 1 pattern) pattern text (length text - i)
    → next ≡ matches (drop 1 pattern) (drop (length text - i) text)
    → v ≡ answer_at (get_or pattern 0 0) text row (length text - 1 - i) (length text - 1 - i + 1) next
    → set row (length text - 1 - i) v ≡ part_new (drop 1 pattern) pattern text (length text - (i + 1))
one_passed [] text row i next v some h r n e = absurd (omega arith)
one_passed (p ∷ ps) text row i next v some h r n e =
    let k = length text - 1 - i in
    let before : length text - i ≡ suc k = omega arith in
    let behind : k ≡ length text - (i + 1) = omega arith in
    let row_is : row ≡ part_new ps (p ∷ ps) text (suc k) = r ∙ ap (λ (j : ℕ). part_new ps (p ∷ ps) text j) before in
    let next_is : next ≡ matches ps (drop (suc k) text) = n ∙ ap (λ (j : ℕ). matches ps (drop j text)) before in
    let value : v ≡ answer_at p text (part_new ps (p ∷ ps) text (suc k)) k (suc k) (matches ps (drop (suc k) text)) =
    e ∙ ap (λ (j : ℕ). answer_at p text row k j next) (add-one k)
    ∙ ap (λ (l : List Bool). answer_at p text l k (suc k) next) row_is
    ∙ ap (λ (b : Bool). answer_at p text (part_new ps (p ∷ ps) text (suc k)) k (suc k) b) next_is
    in
    ap (λ (l : List Bool). set l k v) row_is ∙ new_at p ps text k v (omega arith) value
    ∙ ap (λ (j : ℕ). part_new ps (p ∷ ps) text j) behind

pub one_passed_next : (old new text : List ℕ) (row : List Bool) (i : ℕ) → i < length text
    → row ≡ part_new old new text (length text - i)
    → get_or row (length text - 1 - i) false ≡ matches old (drop (length text - (i + 1)) text)
one_passed_next old new text row i h r =
    let k = length text - 1 - i in
    let before : length text - i ≡ suc k = omega arith in
    let behind : k ≡ length text - (i + 1) = omega arith in
    ap (λ (l : List Bool). get_or l k false) (r ∙ ap (λ (j : ℕ). part_new old new text j) before)
    ∙ here_of old new text k (omega arith) ∙ ap (λ (j : ℕ). matches old (drop j text)) behind

-- the pattern behind the first byte of what is gone through, as the code cuts it
pub behind_first : (xs : List ℕ) (i : ℕ) → i < length xs
    → drop (length xs - i) xs ≡ drop 1 (take (length xs - (length xs - 1 - i)) (drop (length xs - 1 - i) xs))
behind_first xs i h =
    let k = length xs - 1 - i in
    let next : k + 1 ≡ length xs - i = omega arith in
    sym (ap (λ (l : List ℕ). drop 1 l) (take_rest xs k) ∙ drop-drop 1 k xs ∙ ap (λ (j : ℕ). drop j xs) next)

-- the answer for the whole text, when all of the pattern is gone through
pub at_whole : (pattern text : List ℕ) (row : List Bool) (i : ℕ) (d : Bool) → length pattern ≤ i
    → row ≡ matches_of_rests (drop (length pattern - i) pattern) text → get_or row 0 d ≡ matches pattern text
at_whole pattern text row i d h r =
    let none : length pattern - i ≡ 0 = omega arith in
    ap (λ (l : List Bool). get_or l 0 d) (r ∙ ap (λ (j : ℕ). matches_of_rests (drop j pattern) text) none)
    ∙ at_first pattern text d
