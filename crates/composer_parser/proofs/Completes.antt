-- Each sentence is read whole, whatever follows that does not go on with it.
use Rattle.std.proofs.Common.{◌≡◌, ◌≤◌, inl, inr, ◌&&◌, not, cond, ℕ, Bool, true, false, List, [], ◌∷◌, ◌++◌}
use Rattle.std.proofs.Common.{length, refl, ap, sym, ◌∙◌, append_assoc, length-append, arith}
use Rattle.lemmas.proofs.Booleans.{and_parts, not_holds}
use Rattle.composer_parser.specs.Kinds.{Kind, Spelled}
use Rattle.composer_parser.specs.Grammars.{Grammar, nothing, one, left_out, both, either, many, Spells, Pieces}
use Rattle.composer_parser.specs.Reading.{is_any, begins, empty, has, tries, goes_on, decided}
use Rattle.composer_parser.specs.Groups.{kinds_apart}
use Rattle.composer_parser.specs.Reading.{done, and_then, read, repeat}
use Rattle.composer_parser.proofs.Apart.{no_shared}
use Rattle.composer_parser.proofs.Firsts.{empty_sentence, tries_sentence}
use Rattle.composer_parser.proofs.Fronts.{none_of_two}
use Rattle.composer_parser.proofs.Halts.{joined, repeat_step, repeat_ends, repeat_none}

pub is_not : (b : Bool) → (b ≡ true → ⊥) → b ≡ false
is_not true h = absurd (h refl)
is_not false h = refl

pub by_length : {a b n : ℕ} → a ≡ b → a ≤ n → b ≤ n
by_length e h = omega arith

goes_on_first : (b : Bool) (ks ls : List Kind) (rest : List Spelled) → begins (cond b (ks ++ ls) ks) rest ≡ false
    → begins ks rest ≡ false
goes_on_first true ks ls rest h = (none_of_two ks ls rest h).0
goes_on_first false ks ls rest h = h

goes_on_second : (b : Bool) (ks ls : List Kind) (rest : List Spelled) → b ≡ true
    → begins (cond b (ks ++ ls) ks) rest ≡ false → begins ls rest ≡ false
goes_on_second true ks ls rest e h = (none_of_two ks ls rest h).1
goes_on_second false ks ls rest e h = cc

-- the second part does not go on with the first
ends_first : {A B C : Type 0} (f : A → B → C) (g : Grammar A) (h : Grammar B) (ys rest : List Spelled) (b : B)
    → kinds_apart (goes_on g) (tries h) ≡ true → Spells h ys b → begins (goes_on (both f g h)) rest ≡ false
    → begins (goes_on g) (ys ++ rest) ≡ false
ends_first f g h [] rest b apart right none =
    goes_on_second (empty h) (goes_on h) (goes_on g) rest (empty_sentence h [] b refl right) none
ends_first f g h (y ∷ ys) rest b apart right none =
    is_not (is_any (goes_on g) y)
    (λ on. no_shared (goes_on g) (tries h) y apart on (tries_sentence h (y ∷ ys) y ys b refl right))

both_complete : {A B C : Type 0} (f : A → B → C) (g : Grammar A) (h : Grammar B) (xs ys ts rest : List Spelled) (a : A)
    (b : B) → ts ≡ xs ++ ys → read g (xs ++ (ys ++ rest)) ≡ done a (ys ++ rest) → read h (ys ++ rest) ≡ done b rest
    → read (both f g h) (ts ++ rest) ≡ done (f a b) rest
both_complete f g h xs ys ts rest a b split first second =
    ap (λ zs. read (both f g h) (zs ++ rest)) split ∙ ap (λ zs. read (both f g h) zs) (append_assoc xs ys rest)
    ∙ ap (λ o. joined f o (λ zs. read h zs)) first ∙ ap (λ o. and_then o (λ y last. done (f a y) last)) second

left_begins : {C : Type 0} (g : Grammar C) (xs rest : List Spelled) (c : C) → empty g ≡ false → Spells g xs c
    → begins (tries g) (xs ++ rest) ≡ true
left_begins g [] rest c some s = let no : empty g ≡ true = empty_sentence g [] c refl s in cc
left_begins g (x ∷ xs) rest c some s = tries_sentence g (x ∷ xs) x xs c refl s

right_begins : {C : Type 0} (g h : Grammar C) (xs rest : List Spelled) (c : C)
    → kinds_apart (tries g) (tries h) ≡ true → Spells h xs c → begins (goes_on (either g h)) rest ≡ false
    → begins (tries g) (xs ++ rest) ≡ false
right_begins g h [] rest c apart s none =
    goes_on_second (empty h) (goes_on g ++ goes_on h) (tries g) rest (empty_sentence h [] c refl s) none
right_begins g h (x ∷ xs) rest c apart s none =
    is_not (is_any (tries g) x)
    (λ on. no_shared (tries g) (tries h) x apart on (tries_sentence h (x ∷ xs) x xs c refl s))

-- what is behind a piece does not go on with it
pub ends_piece : {S A : Type 0} (after : S → A → S) (may : S → Spelled → Bool) (g : Grammar A) (s : S)
    (ys rest : List Spelled) (items : List A) (end : S) → kinds_apart (goes_on g) (tries g) ≡ true
    → Pieces after may (λ zs a. Spells g zs a) s ys items end → begins (goes_on g) rest ≡ false
    → begins (goes_on g) (ys ++ rest) ≡ false
ends_piece after may g s [] rest items end apart pieces none = none
ends_piece after may g s (y ∷ ys) rest [] end apart (no_more, last) none = cc
ends_piece after may g s (y ∷ ys) rest (a ∷ items) end apart (t, us, vs, split, ok, piece, others) none =
    is_not (is_any (goes_on g) y)
    (λ on. no_shared (goes_on g) (tries g) y apart on
    (let first : t ≡ y = cc in
    tries_sentence g (t ∷ us) y us a (ap (λ x. x ∷ us) first) piece))

pieces_complete : {S A : Type 0} (after : S → A → S) (may : S → Spelled → Bool) (g : Grammar A)
    → kinds_apart (goes_on g) (tries g) ≡ true
    → ((xs rest : List Spelled) (a : A) → Spells g xs a → begins (goes_on g) rest ≡ false
    → read g (xs ++ rest) ≡ done a rest)
    → (items : List A) (n : ℕ) (s end : S) (xs rest : List Spelled)
    → Pieces after may (λ zs a. Spells g zs a) s xs items end
    → length (xs ++ rest) ≤ n → begins (tries g) rest ≡ false → begins (goes_on g) rest ≡ false
    → repeat after (λ x t. is_any (tries g) t && may x t) (λ zs. read g zs) n s (xs ++ rest) ≡ done end rest
pieces_complete {S = S} after may g apart piece [] n s end xs rest (none, last) small no_more no_on =
    ap (λ zs. repeat after goes (λ us. read g us) n s (zs ++ rest)) none
    ∙ by_rest rest (by_length (ap (λ zs. length (zs ++ rest)) none) small) no_more ∙ ap (λ x. done x rest) (sym last)
  where
    goes : S → Spelled → Bool
    goes x t = is_any (tries g) t && may x t

    by_rest : (more : List Spelled) → length more ≤ n → begins (tries g) more ≡ false
        → repeat after (λ x t. is_any (tries g) t && may x t) (λ us. read g us) n s more ≡ done s more
    by_rest [] few h = repeat_none after (λ x t. is_any (tries g) t && may x t) (λ us. read g us) n s [] refl
    by_rest (t ∷ ts) few h =
        repeat_ends after (λ x u. is_any (tries g) u && may x u) (λ us. read g us) n s t (t ∷ ts) refl few (rw h refl)
pieces_complete after may g apart piece (a ∷ items) n s end xs rest (t, us, vs, split, ok, sp, others) small no_more no_on =
    let all = append_assoc (t ∷ us) vs rest in
    let front = (t ∷ us) ++ (vs ++ rest) in
    let same = ap (λ zs. zs ++ rest) split ∙ all in
    let tried = tries_sentence g (t ∷ us) t us a refl sp in
    let step =
    repeat_step after (λ x u. is_any (tries g) u && may x u) (λ zs. read g zs) n s t front refl
    (by_length (ap length same) small) (rw (tried, ok) refl) in
    ap (λ zs. repeat after (λ x u. is_any (tries g) u && may x u) (λ us2. read g us2) n s zs) same
    ∙ step.2
    ∙ ap (λ o. and_then o (λ b rest2.
    repeat after (λ x u. is_any (tries g) u && may x u) (λ us2. read g us2) step.0 (after s b) rest2))
    (piece (t ∷ us) (vs ++ rest) a sp (ends_piece after may g (after s a) vs rest items end apart others no_on))
    ∙ pieces_complete after may g apart piece items step.0 (after s a) end vs rest others
    (omega (arith, step.1, length-append us (vs ++ rest))) no_more no_on

pub complete : {C : Type 0} (g : Grammar C) → decided g ≡ true → (xs rest : List Spelled) (c : C) → Spells g xs c
    → begins (goes_on g) rest ≡ false → read g (xs ++ rest) ≡ done c rest
complete (nothing x) d xs rest c (none, v) ends = rw (none, v) refl
complete (one k f) d xs rest c (t, all, ok, v) ends = rw (all, ok, v) refl
complete (left_out k) d xs rest c h ends = absurd h
complete (both f g h) d ts rest c (xs, ys, a, b, split, left, right, v) ends =
    let d1 = and_parts (decided g) (decided h && (has g && (has h && kinds_apart (goes_on g) (tries h)))) d in
    let d2 = and_parts (decided h) (has g && (has h && kinds_apart (goes_on g) (tries h))) d1.1 in
    let d3 = and_parts (has g) (has h && kinds_apart (goes_on g) (tries h)) d2.1 in
    let d4 = and_parts (has h) (kinds_apart (goes_on g) (tries h)) d3.1 in
    both_complete f g h xs ys ts rest a b split
    (complete g d1.0 xs (ys ++ rest) a left (ends_first f g h ys rest b d4.1 right ends))
    (complete h d2.0 ys rest b right (goes_on_first (empty h) (goes_on h) (goes_on g) rest ends))
    ∙ ap (λ x. done x rest) (sym v)
complete (either g h) d xs rest c (inl s) ends =
    let d1 = and_parts (decided g) (decided h && (not (empty g) && kinds_apart (tries g) (tries h))) d in
    let d2 = and_parts (decided h) (not (empty g) && kinds_apart (tries g) (tries h)) d1.1 in
    let d3 = and_parts (not (empty g)) (kinds_apart (tries g) (tries h)) d2.1 in
    let e1 = goes_on_first (empty h) (goes_on g ++ goes_on h) (tries g) rest ends in
    let e2 = none_of_two (goes_on g) (goes_on h) rest e1 in
    rw (left_begins g xs rest c (not_holds (empty g) d3.0) s) (complete g d1.0 xs rest c s e2.0)
complete (either g h) d xs rest c (inr s) ends =
    let d1 = and_parts (decided g) (decided h && (not (empty g) && kinds_apart (tries g) (tries h))) d in
    let d2 = and_parts (decided h) (not (empty g) && kinds_apart (tries g) (tries h)) d1.1 in
    let d3 = and_parts (not (empty g)) (kinds_apart (tries g) (tries h)) d2.1 in
    let e1 = goes_on_first (empty h) (goes_on g ++ goes_on h) (tries g) rest ends in
    let e2 = none_of_two (goes_on g) (goes_on h) rest e1 in
    rw (right_begins g h xs rest c d3.1 s ends) (complete h d2.0 xs rest c s e2.1)
complete (many s after may g f) d xs rest c (items, end, pieces, v) ends =
    let d1 = and_parts (decided g) (not (empty g) && kinds_apart (goes_on g) (tries g)) d in
    let d2 = and_parts (not (empty g)) (kinds_apart (goes_on g) (tries g)) d1.1 in
    let e1 = none_of_two (tries g) (goes_on g) rest ends in
    ap (λ o. and_then o (λ x last. done (f x) last))
    (pieces_complete after may g d2.1 (λ ys more a. complete g d1.0 ys more a) items (length (xs ++ rest)) s end xs rest
    pieces (omega arith) e1.0 e1.1)
    ∙ ap (λ x. done x rest) (sym v)
