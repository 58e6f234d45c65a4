-- Where reading stops: what was read so far begins a sentence, and no more than the next token was looked at.
use Rattle.std.proofs.Common.{◌≡◌, ◌≤◌, ◌⊎◌, inl, inr, ◌||◌, ◌&&◌, not, cond, ℕ, zero, suc, Bool, true, false, List, [], ◌∷◌, ◌++◌}
use Rattle.std.proofs.Common.{Some, length, refl, ap, sym, subst, ◌∙◌, append_assoc, append-nil, length-append, arith}
use Rattle.lemmas.proofs.Booleans.{and_parts, not_holds}
use Rattle.composer_parser.specs.Kinds.{Kind, Spelled, is}
use Rattle.composer_parser.specs.declared.stops.Why.TheVariants.{NotExpected, IsLeftOut}
use Rattle.composer_parser.specs.Grammars.{Grammar, nothing, one, left_out, both, either, many, Spells, Pieces}
use Rattle.composer_parser.specs.Reading.{is_any, begins, empty, has, tries, goes_on, decided}
use Rattle.composer_parser.specs.Groups.{kinds_apart, example}
use Rattle.composer_parser.specs.Reading.{Outcome, done, stuck, and_then, read, repeat}
use Rattle.composer_parser.proofs.Firsts.{empty_sentence}
use Rattle.composer_parser.proofs.Fronts.{next, next_behind, next_empty, next_token, begins_alike}

-- a grammar that has sentences has one
pub sentence_of : {C : Type 0} (g : Grammar C) → has g ≡ true
    → (ts : List Spelled) × (c : C) × Spells g ts c
sentence_of (nothing x) h = ([], x, (refl, refl))
sentence_of (one k f) h =
    (example k ∷ [], f (example k), (example k, refl, h, refl))
sentence_of (left_out k) h = cc
sentence_of (both f g h) has_both =
    let parts = and_parts (has g) (has h) has_both in
    let left = sentence_of g parts.0 in
    let right = sentence_of h parts.1 in
    (left.0 ++ right.0, f left.1 right.1, (left.0, right.0, left.1, right.1, refl, left.2, right.2, refl))
sentence_of {C = C} (either g h) has_one =
    by_left (has g) refl has_one (λ e. sentence_of g e) (λ e. sentence_of h e)
  where
    by_left : (b : Bool) → has g ≡ b → (b || has h) ≡ true
        → (has g ≡ true → (ts : List Spelled) × (c : C) × Spells g ts c)
        → (has h ≡ true → (ts : List Spelled) × (c : C) × Spells h ts c)
        → (ts : List Spelled) × (c : C) × Spells (either g h) ts c
    by_left true is_left h1 left right = let s = left is_left in (s.0, s.1, inl s.2)
    by_left false is_left h1 left right = let s = right h1 in (s.0, s.1, inr s.2)
sentence_of (many s after may g f) h = ([], f s, ([], s, (refl, refl), refl))

-- what was read so far goes on to a sentence
abbrev pub CanGoOn : {C : Type 0} → (List Spelled → C → Type 0) → List Spelled → Type 0
CanGoOn {C = C} Spell xs = (xs ≡ []) ⊎ ((more : List Spelled) × (c : C) × Spell (xs ++ more) c)

abbrev pub Good : {C : Type 0} → (List Spelled → C → Type 0) → (List Spelled → Outcome C) → List Spelled → Outcome C
    → Type 0
Good Spell reader ts (done c rest) =
    (xs : List Spelled) × (ts ≡ xs ++ rest) × Spell xs c
    × ((more : List Spelled) → next rest ≡ next more → reader (xs ++ more) ≡ done c more)
Good Spell reader ts (stuck w rest) =
    (xs : List Spelled) × (ts ≡ xs ++ rest) × CanGoOn Spell xs
    × ((more : List Spelled) → next rest ≡ next more → reader (xs ++ more) ≡ stuck w more)

one_good : {C : Type 0} (k : Kind) (f : Spelled → C) (t : Spelled) (ts : List Spelled) (b : Bool) → is k t ≡ b
    → Good (Spells (one k f)) (read (one k f)) (t ∷ ts) (cond b (done (f t) ts) (stuck NotExpected (t ∷ ts)))
one_good k f t ts true e = (t ∷ [], refl, (t, refl, e, refl), λ more h. rw e refl)
one_good {C = C} k f t ts false e = ([], refl, inl refl, λ more h. at_token more (next_token t more h))
  where
    at_token : (more : List Spelled) → (us : List Spelled) × (more ≡ t ∷ us)
        → read (one k f) more ≡ stuck NotExpected more
    at_token more (us, m) =
        let P : List Spelled → Type 0 = λ xs. read (one k f) xs ≡ stuck NotExpected xs in
        let here : P (t ∷ us) = rw e refl in subst P (sym m) here

left_out_good : (C : Type 0) (k : Kind) (t : Spelled) (ts : List Spelled) (b : Bool) → is k t ≡ b
    → Good (Spells (left_out {C = C} k)) (read (left_out {C = C} k)) (t ∷ ts)
    (cond b (stuck IsLeftOut (t ∷ ts)) (stuck NotExpected (t ∷ ts)))
left_out_good C k t ts true e = ([], refl, inl refl, λ more h. at_token more (next_token t more h))
  where
    at_token : (more : List Spelled) → (us : List Spelled) × (more ≡ t ∷ us)
        → read (left_out {C = C} k) more ≡ stuck IsLeftOut more
    at_token more (us, m) =
        let P : List Spelled → Type 0 = λ xs. read (left_out {C = C} k) xs ≡ stuck IsLeftOut xs in
        let here : P (t ∷ us) = rw e refl in subst P (sym m) here
left_out_good C k t ts false e = ([], refl, inl refl, λ more h. at_token more (next_token t more h))
  where
    at_token : (more : List Spelled) → (us : List Spelled) × (more ≡ t ∷ us)
        → read (left_out {C = C} k) more ≡ stuck NotExpected more
    at_token more (us, m) =
        let P : List Spelled → Type 0 = λ xs. read (left_out {C = C} k) xs ≡ stuck NotExpected xs in
        let here : P (t ∷ us) = rw e refl in subst P (sym m) here

-- reading two parts
abbrev pub joined : {A B C : Type 0} → (A → B → C) → Outcome A → (List Spelled → Outcome B) → Outcome C
joined f o second = and_then o (λ a rest. and_then (second rest) (λ b last. done (f a b) last))

both_by_second : {A B C : Type 0} (f : A → B → C) (g : Grammar A) (h : Grammar B) (ts xs rest : List Spelled) (a : A)
    → has h ≡ true → ts ≡ xs ++ rest → Spells g xs a
    → ((more : List Spelled) → next rest ≡ next more → read g (xs ++ more) ≡ done a more)
    → (o : Outcome B) → Good (Spells h) (read h) rest o
    → Good (Spells (both f g h)) (read (both f g h)) ts (and_then o (λ b last. done (f a b) last))
both_by_second f g h ts xs rest a some split left near (done b last) (ys, split2, right, near2) = (
  xs ++ ys,
  split ∙ ap (λ zs. xs ++ zs) split2 ∙ sym (append_assoc xs ys last),
  (xs, ys, a, b, refl, left, right, refl),
  λ more alike.
      ap (λ zs. read (both f g h) zs) (append_assoc xs ys more)
      ∙ ap (λ o. joined f o (λ zs. read h zs))
      (near (ys ++ more) (ap next split2 ∙ next_behind ys last more alike))
      ∙ ap (λ o. and_then o (λ y end. done (f a y) end)) (near2 more alike),
)
both_by_second {B = B} {C = C} f g h ts xs rest a some split left near (stuck w last) (ys, split2, can, near2) = (
  xs ++ ys,
  split ∙ ap (λ zs. xs ++ zs) split2 ∙ sym (append_assoc xs ys last),
  inr (going_on can),
  λ more alike.
      ap (λ zs. read (both f g h) zs) (append_assoc xs ys more)
      ∙ ap (λ o. joined f o (λ zs. read h zs))
      (near (ys ++ more) (ap next split2 ∙ next_behind ys last more alike))
      ∙ ap (λ o. and_then o (λ y end. done (f a y) end)) (near2 more alike),
)
  where
    going_on : CanGoOn (Spells h) ys
        → (more : List Spelled) × (c : C) × Spells (both f g h) ((xs ++ ys) ++ more) c
    going_on (inl none) =
        let s = sentence_of h some in
        let P : List Spelled → Type 0 = λ zs. Spells h (zs ++ s.0) s.1 in
        (s.0, f a s.1, (xs, ys ++ s.0, a, s.1, append_assoc xs ys s.0, left, subst P (sym none) s.2, refl))
    going_on (inr (more, b, right)) = (more, f a b, (xs, ys ++ more, a, b, append_assoc xs ys more, left, right, refl))

both_good : {A B C : Type 0} (f : A → B → C) (g : Grammar A) (h : Grammar B) (ts : List Spelled) → has h ≡ true
    → (o : Outcome A) → Good (Spells g) (read g) ts o
    → ((rest : List Spelled) → Good (Spells h) (read h) rest (read h rest))
    → Good (Spells (both f g h)) (read (both f g h)) ts (joined f o (λ zs. read h zs))
both_good f g h ts some (done a rest) (xs, split, left, near) second =
    both_by_second f g h ts xs rest a some split left near (read h rest) (second rest)
both_good {A = A} {C = C} f g h ts some (stuck w rest) (xs, split, can, near) second =
    (xs, split, going_on can, λ more alike. ap (λ o. joined f o (λ zs. read h zs)) (near more alike))
  where
    going_on : CanGoOn (Spells g) xs → CanGoOn (Spells (both f g h)) xs
    going_on (inl none) = inl none
    going_on (inr (more, a, left)) =
        let s = sentence_of h some in
        inr (more ++ s.0, f a s.1, (xs ++ more, s.0, a, s.1, sym (append_assoc xs more s.0), left, s.2, refl))

-- reading one of two, where it is that one which is read from tokens that begin so
one_way_good : {C : Type 0} (g h way : Grammar C) (ts : List Spelled) (b : Bool) → begins (tries g) ts ≡ b
    → ((us : List Spelled) → begins (tries g) us ≡ b → read (either g h) us ≡ read way us)
    → ((us : List Spelled) (c : C) → Spells way us c → Spells (either g h) us c) → (o : Outcome C)
    → Good (Spells way) (read way) ts o → Good (Spells (either g h)) (read (either g h)) ts o
one_way_good g h way ts b here reads is_one (done c rest) (xs, split, s, near) = (
  xs,
  split,
  is_one xs c s,
  λ more alike.
      reads (xs ++ more) (begins_alike (tries g) (xs ++ more) ts
      (sym (next_behind xs rest more alike) ∙ sym (ap next split)) ∙ here) ∙ near more alike,
)
one_way_good g h way ts b here reads is_one (stuck w rest) (xs, split, can, near) = (
  xs,
  split,
  going_on can,
  λ more alike.
      reads (xs ++ more) (begins_alike (tries g) (xs ++ more) ts
      (sym (next_behind xs rest more alike) ∙ sym (ap next split)) ∙ here) ∙ near more alike,
)
  where
    going_on : CanGoOn (Spells way) xs → CanGoOn (Spells (either g h)) xs
    going_on (inl none) = inl none
    going_on (inr (more, c, s)) = inr (more, c, is_one (xs ++ more) c s)

either_good : {C : Type 0} (g h : Grammar C) (ts : List Spelled) (b : Bool) → begins (tries g) ts ≡ b
    → Good (Spells g) (read g) ts (read g ts) → Good (Spells h) (read h) ts (read h ts)
    → Good (Spells (either g h)) (read (either g h)) ts (cond b (read g ts) (read h ts))
either_good g h ts true e left right =
    one_way_good g h g ts true e (λ us first. rw first refl) (λ us c s. inl s) (read g ts) left
either_good g h ts false e left right =
    one_way_good g h h ts false e (λ us first. rw first refl) (λ us c s. inr s) (read h ts) right

-- further pieces, with any number of them that is enough
abbrev pub GoodPieces : {S A : Type 0} → (S → A → S) → (S → Spelled → Bool) → (S → Spelled → Bool) → Grammar A → S
    → List Spelled → Outcome S → Type 0
GoodPieces {A = A} after may goes g s ts (done end rest) =
    (xs : List Spelled) × (ts ≡ xs ++ rest)
    × ((items : List A) × Pieces after may (λ ys a. Spells g ys a) s xs items end)
    × ((more : List Spelled) (n : ℕ) → next rest ≡ next more → length (xs ++ more) ≤ n
    → repeat after goes (λ ys. read g ys) n s (xs ++ more) ≡ done end more)
GoodPieces {S = S} {A = A} after may goes g s ts (stuck w rest) =
    (xs : List Spelled) × (ts ≡ xs ++ rest)
    × ((more : List Spelled) × (items : List A) × (end : S) × Pieces after may (λ ys a. Spells g ys a) s (xs ++ more) items end)
    × ((more : List Spelled) (n : ℕ) → next rest ≡ next more → length (xs ++ more) ≤ n
    → repeat after goes (λ ys. read g ys) n s (xs ++ more) ≡ stuck w more)

-- one piece further
pub repeat_step : {S A : Type 0} (after : S → A → S) (may : S → Spelled → Bool) (piece : List Spelled → Outcome A)
    (n : ℕ) (s : S) (t : Spelled) (ts : List Spelled) → Some t ≡ next ts → length ts ≤ n → may s t ≡ true
    → (k : ℕ) × (length ts ≤ suc k)
    × (repeat after may piece n s ts ≡ and_then (piece ts) (λ a rest. repeat after may piece k (after s a) rest))
repeat_step after may piece n s t [] h small ok = cc
repeat_step after may piece zero s t (u ∷ us) h small ok = absurd (omega arith)
repeat_step after may piece (suc k) s t (u ∷ us) h small ok =
    (k, small, let e : u ≡ t = cc in rw (ap (λ x. may s x) e ∙ ok) refl)

pub repeat_ends : {S A : Type 0} (after : S → A → S) (may : S → Spelled → Bool) (piece : List Spelled → Outcome A)
    (n : ℕ) (s : S) (t : Spelled) (ts : List Spelled) → Some t ≡ next ts → length ts ≤ n → may s t ≡ false
    → repeat after may piece n s ts ≡ done s ts
repeat_ends after may piece n s t [] h small ok = cc
repeat_ends after may piece zero s t (u ∷ us) h small ok = absurd (omega arith)
repeat_ends after may piece (suc k) s t (u ∷ us) h small ok =
    let e : u ≡ t = cc in rw (ap (λ x. may s x) e ∙ ok) refl

pub repeat_none : {S A : Type 0} (after : S → A → S) (may : S → Spelled → Bool) (piece : List Spelled → Outcome A)
    (n : ℕ) (s : S) (ts : List Spelled) → [] ≡ ts → repeat after may piece n s ts ≡ done s ts
repeat_none after may piece zero s [] h = refl
repeat_none after may piece (suc k) s [] h = refl
repeat_none after may piece n s (t ∷ ts) h = cc

behind_piece : {S A : Type 0} (after : S → A → S) (may goes : S → Spelled → Bool) (g : Grammar A) (s : S)
    (t : Spelled) (ts xs rest : List Spelled) (a : A) → may s t ≡ true → goes s t ≡ true → t ∷ ts ≡ xs ++ rest
    → empty g ≡ false → Spells g xs a
    → ((more : List Spelled) → next rest ≡ next more → read g (xs ++ more) ≡ done a more)
    → (o : Outcome S) → GoodPieces after may goes g (after s a) rest o → GoodPieces after may goes g s (t ∷ ts) o
behind_piece after may goes g s t ts [] rest a ok all_ok split some sp near o h =
    let no : empty g ≡ true = empty_sentence g [] a refl sp in cc
behind_piece after may goes g s t ts (x ∷ xs) rest a ok all_ok split some sp near (done end last) (ys, split2, (items, pieces), near2) = (
  (x ∷ xs) ++ ys,
  split ∙ ap (λ zs. (x ∷ xs) ++ zs) split2 ∙ sym (append_assoc (x ∷ xs) ys last),
  (a ∷ items, (x, xs, ys, refl, may_begin, sp, pieces)),
  λ more n alike small.
      let all = append_assoc (x ∷ xs) ys more in
      let front = (x ∷ xs) ++ (ys ++ more) in
      let step = repeat_step after goes (λ zs. read g zs) n s x front refl
      (le_by (ap length all) small) both_begin in
      ap (λ zs. repeat after goes (λ us. read g us) n s zs) all ∙ step.2
      ∙ ap (λ o. and_then o (λ b rest2. repeat after goes (λ us. read g us) step.0 (after s b) rest2)) (near (ys ++ more) (ap next split2 ∙ next_behind ys last more alike))
      ∙ near2 more step.0 alike (omega (arith, step.1, length-append xs (ys ++ more))),
)
  where
    first : x ≡ t
    first = cc

    may_begin : may s x ≡ true
    may_begin = ap (λ u. may s u) first ∙ ok

    both_begin : goes s x ≡ true
    both_begin = ap (λ u. goes s u) first ∙ all_ok

    le_by : {a b n : ℕ} → a ≡ b → a ≤ n → b ≤ n
    le_by e h = omega arith
behind_piece after may goes g s t ts (x ∷ xs) rest a ok all_ok split some sp near (stuck w last) (ys, split2, (m, items, end, pieces), near2) = (
  (x ∷ xs) ++ ys,
  split ∙ ap (λ zs. (x ∷ xs) ++ zs) split2 ∙ sym (append_assoc (x ∷ xs) ys last),
  (m, a ∷ items, end, (x, xs, ys ++ m, append_assoc (x ∷ xs) ys m, may_begin, sp, pieces)),
  λ more n alike small.
      let all = append_assoc (x ∷ xs) ys more in
      let front = (x ∷ xs) ++ (ys ++ more) in
      let step = repeat_step after goes (λ zs. read g zs) n s x front refl
      (le_by (ap length all) small) both_begin in
      ap (λ zs. repeat after goes (λ us. read g us) n s zs) all ∙ step.2
      ∙ ap (λ o. and_then o (λ b rest2. repeat after goes (λ us. read g us) step.0 (after s b) rest2)) (near (ys ++ more) (ap next split2 ∙ next_behind ys last more alike))
      ∙ near2 more step.0 alike (omega (arith, step.1, length-append xs (ys ++ more))),
)
  where
    first : x ≡ t
    first = cc

    may_begin : may s x ≡ true
    may_begin = ap (λ u. may s u) first ∙ ok

    both_begin : goes s x ≡ true
    both_begin = ap (λ u. goes s u) first ∙ all_ok

    le_by : {a b n : ℕ} → a ≡ b → a ≤ n → b ≤ n
    le_by e h = omega arith

-- the first piece, and those behind it
pieces_by_first : {S A : Type 0} (after : S → A → S) (may goes : S → Spelled → Bool) (g : Grammar A) (s : S)
    (n : ℕ) (t : Spelled) (ts : List Spelled) → length ts ≤ n → may s t ≡ true → goes s t ≡ true → empty g ≡ false
    → (o : Outcome A) → Good (Spells g) (read g) (t ∷ ts) o
    → ((s2 : S) (us : List Spelled) → length us ≤ n
    → GoodPieces after may goes g s2 us (repeat after goes (λ zs. read g zs) n s2 us))
    → GoodPieces after may goes g s (t ∷ ts) (and_then o (λ a rest. repeat after goes (λ zs. read g zs) n (after s a) rest))
pieces_by_first after may goes g s n t ts small ok all_ok some (done a rest) ([], split, sp, near) others =
    let no : empty g ≡ true = empty_sentence g [] a refl sp in cc
pieces_by_first after may goes g s n t ts small ok all_ok some (done a rest) (x ∷ xs, split, sp, near) others =
    behind_piece after may goes g s t ts (x ∷ xs) rest a ok all_ok split some sp near
    (repeat after goes (λ zs. read g zs) n (after s a) rest)
    (others (after s a) rest (omega (arith, ap length split, length-append xs rest)))
pieces_by_first {S = S} {A = A} after may goes g s n t ts small ok all_ok some (stuck w rest) (xs, split, can, near) others = (
  xs,
  split,
  going_on xs split can,
  λ more k alike few.
      let step = repeat_step after goes (λ zs. read g zs) k s t (xs ++ more)
      (ap next split ∙ next_behind xs rest more alike) few all_ok in
      step.2 ∙ ap (λ o. and_then o (λ b rest2. repeat after goes (λ us. read g us) step.0 (after s b) rest2))
      (near more alike),
)
  where
    going_on : (ys : List Spelled) → t ∷ ts ≡ ys ++ rest → CanGoOn (Spells g) ys
        → (more : List Spelled) × (items : List A) × (end : S) × Pieces after may (λ zs a. Spells g zs a) s (ys ++ more) items end
    going_on ys cut (inl none) = ([], [], s, (append-nil ys ∙ none, refl))
    going_on [] cut (inr (more, a, sp)) = ([], [], s, (refl, refl))
    going_on (y ∷ ys) cut (inr (more, a, sp)) =
        let first : y ≡ t = cc in
        (more, a ∷ [], after s a, (y, ys ++ more, [], sym (append-nil (y ∷ (ys ++ more))), ap (λ u. may s u) first ∙ ok, sp, (refl, refl)))

pieces_by_test : {S A : Type 0} (after : S → A → S) (may goes : S → Spelled → Bool) (g : Grammar A) (s : S)
    (n : ℕ) (t : Spelled) (ts : List Spelled) → length ts ≤ n → (goes s t ≡ true → may s t ≡ true) → empty g ≡ false
    → (b : Bool) → goes s t ≡ b → Good (Spells g) (read g) (t ∷ ts) (read g (t ∷ ts))
    → ((s2 : S) (us : List Spelled) → length us ≤ n
    → GoodPieces after may goes g s2 us (repeat after goes (λ zs. read g zs) n s2 us))
    → GoodPieces after may goes g s (t ∷ ts) (cond b (and_then (read g (t ∷ ts)) (λ a rest. repeat after goes (λ zs. read g zs) n (after s a) rest))
    (done s (t ∷ ts)))
pieces_by_test after may goes g s n t ts small ok some true tells first others =
    pieces_by_first after may goes g s n t ts small (ok tells) tells some (read g (t ∷ ts)) first others
pieces_by_test after may goes g s n t ts small ok some false tells first others =
    ([], refl, ([], (refl, refl)), λ more k alike few. repeat_ends after goes (λ zs. read g zs) k s t more alike few tells)

pub pieces_good : {S A : Type 0} (after : S → A → S) (may goes : S → Spelled → Bool) (g : Grammar A) → empty g ≡ false
    → ((s : S) (t : Spelled) → goes s t ≡ true → may s t ≡ true)
    → ((us : List Spelled) → Good (Spells g) (read g) us (read g us)) → (n : ℕ) (s : S) (ts : List Spelled)
    → length ts ≤ n → GoodPieces after may goes g s ts (repeat after goes (λ zs. read g zs) n s ts)
pieces_good after may goes g some ok piece zero s [] small =
    ([], refl, ([], (refl, refl)), λ more k alike few. repeat_none after goes (λ zs. read g zs) k s more (next_empty more alike))
pieces_good after may goes g some ok piece zero s (t ∷ ts) small = absurd (omega arith)
pieces_good after may goes g some ok piece (suc n) s [] small =
    ([], refl, ([], (refl, refl)), λ more k alike few. repeat_none after goes (λ zs. read g zs) k s more (next_empty more alike))
pieces_good after may goes g some ok piece (suc n) s (t ∷ ts) small =
    pieces_by_test after may goes g s n t ts (omega arith) (ok s t) some (goes s t) refl (piece (t ∷ ts))
    (λ s2 us. pieces_good after may goes g some ok piece n s2 us)

-- what the pieces are
many_good : {S A C : Type 0} (s : S) (after : S → A → S) (may : S → Spelled → Bool) (g : Grammar A) (f : S → C)
    (ts : List Spelled) (o : Outcome S)
    → GoodPieces after may (λ x t. is_any (tries g) t && may x t) g s ts o
    → Good (Spells (many s after may g f)) (read (many s after may g f)) ts
    (and_then o (λ x last. done (f x) last))
many_good s after may g f ts (done end rest) (xs, split, (items, pieces), near) = (
  xs,
  split,
  (items, end, pieces, refl),
  λ more alike.
      ap (λ o. and_then o (λ x last. done (f x) last))
      (near more (length (xs ++ more)) alike (omega arith)),
)
many_good s after may g f ts (stuck w rest) (xs, split, (m, items, end, pieces), near) = (
  xs,
  split,
  inr (m, f end, (items, end, pieces, refl)),
  λ more alike.
      ap (λ o. and_then o (λ x last. done (f x) last))
      (near more (length (xs ++ more)) alike (omega arith)),
)

pub good : {C : Type 0} (g : Grammar C) (ts : List Spelled) → decided g ≡ true → Good (Spells g) (read g) ts (read g ts)
good (nothing c) ts d = ([], refl, (refl, refl), λ more alike. refl)
good (one k f) [] d = (
  [],
  refl,
  inl refl,
  λ more alike.
      let P : List Spelled → Type 0 = λ xs. read (one k f) xs ≡ stuck NotExpected xs in
      subst P (next_empty more alike) refl,
)
good (one k f) (t ∷ ts) d = one_good k f t ts (is k t) refl
good {C = C} (left_out k) [] d = (
  [],
  refl,
  inl refl,
  λ more alike.
      let P : List Spelled → Type 0 = λ xs. read (left_out {C = C} k) xs ≡ stuck NotExpected xs in
      subst P (next_empty more alike) refl,
)
good {C = C} (left_out k) (t ∷ ts) d = left_out_good C k t ts (is k t) refl
good (both f g h) ts d =
    let d1 = and_parts (decided g) (decided h && (has g && (has h && kinds_apart (goes_on g) (tries h)))) d in
    let d2 = and_parts (decided h) (has g && (has h && kinds_apart (goes_on g) (tries h))) d1.1 in
    let d3 = and_parts (has g) (has h && kinds_apart (goes_on g) (tries h)) d2.1 in
    let d4 = and_parts (has h) (kinds_apart (goes_on g) (tries h)) d3.1 in
    both_good f g h ts d4.0 (read g ts) (good g ts d1.0) (λ rest. good h rest d2.0)
good (either g h) ts d =
    let d1 = and_parts (decided g) (decided h && (not (empty g) && kinds_apart (tries g) (tries h))) d in
    let d2 = and_parts (decided h) (not (empty g) && kinds_apart (tries g) (tries h)) d1.1 in
    either_good g h ts (begins (tries g) ts) refl (good g ts d1.0) (good h ts d2.0)
good (many s after may g f) ts d =
    let d1 = and_parts (decided g) (not (empty g) && kinds_apart (goes_on g) (tries g)) d in
    let d2 = and_parts (not (empty g)) (kinds_apart (goes_on g) (tries g)) d1.1 in
    many_good s after may g f ts
    (repeat after (λ x t. is_any (tries g) t && may x t) (λ xs. read g xs) (length ts) s ts)
    (pieces_good after may (λ x t. is_any (tries g) t && may x t) g (not_holds (empty g) d2.0)
    (λ x t h. (and_parts (is_any (tries g) t) (may x t) h).1) (λ us. good g us d1.0) (length ts) s ts (omega arith))
