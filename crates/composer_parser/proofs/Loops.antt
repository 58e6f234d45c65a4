-- A loop over pieces, one piece further.
use Rattle.std.proofs.Common.{◌≡◌, ◌≤◌, ◌<◌, ◌&&◌, cond, ℕ, zero, suc, Bool, true, false, List, [], ◌∷◌, ◌++◌}
use Rattle.std.proofs.Common.{length, refl, ap, sym, subst, ◌∙◌, append_assoc, length-append, arith, Ok, Err, Result}
use Rattle.std.specs.Result.{IsErrAnd}
use Rattle.std.specs.Borrow.{Bor}
use Rattle.composer_parser.specs.Kinds.{Spelled}
use Rattle.composer_parser.specs.declared.stops.Why.{Why}
use Rattle.composer_parser.specs.Grammars.{Grammar, Spells, many}
use Rattle.composer_parser.specs.declared.stops.Stop.{Stop}
use Rattle.composer_parser.specs.declared.stops.Stop.TheVariants.{Here, NoMemory}
use Rattle.composer_parser.specs.Reading.{is_any, begins, empty, tries, decided, begins_piece, turns}
use Rattle.composer_parser.specs.Reading.{Outcome, done, stuck, and_then, read, repeat}
use Rattle.std.proofs.lemmas.List.{length-map}
use Rattle.lemmas.proofs.Booleans.{and_parts}
use Rattle.base_types.specs.declared.reports.Token.{Token}
use Rattle.composer_parser.specs.Tokens.{all_spelled, Gives, StopsWith}
use Rattle.composer_parser.specs.Parts.{put, always, any_number, with_commas}
use Rattle.composer_parser.proofs.Firsts.{empty_sentence}
use Rattle.composer_parser.proofs.Halts.{Good, good, GoodPieces, pieces_good, repeat_step, repeat_ends}

shorter_by : {A : Type 0} (g : Grammar A) (ts : List Spelled) (a : A) (rest : List Spelled) → empty g ≡ false
    → Good (Spells g) (read g) ts (done a rest) → length rest < length ts
shorter_by g ts a rest some ([], split, s, near) = let no : empty g ≡ true = empty_sentence g [] a refl s in cc
shorter_by g ts a rest some (x ∷ xs, split, s, near) =
    omega (arith, ap length split, length-append xs rest)

good_at : {A : Type 0} (g : Grammar A) (ts : List Spelled) (o : Outcome A) → decided g ≡ true → read g ts ≡ o
    → Good (Spells g) (read g) ts o
good_at {A = A} g ts o d e =
    let P : Outcome A → Type 0 = λ x. Good (Spells g) (read g) ts x in subst P e (good g ts d)

-- what a piece takes
pub piece_shortens : {A : Type 0} (g : Grammar A) (ts : List Spelled) (a : A) (rest : List Spelled)
    → decided g ≡ true → empty g ≡ false → read g ts ≡ done a rest → length rest < length ts
piece_shortens g ts a rest d some e = shorter_by g ts a rest some (good_at g ts (done a rest) d e)

-- any number that is enough serves
enough_by : {S A : Type 0} (after : S → A → S) (may goes : S → Spelled → Bool) (g : Grammar A) (s : S)
    (ts : List Spelled) (n : ℕ) → length ts ≤ n → (o : Outcome S) → GoodPieces after may goes g s ts o
    → repeat after goes (λ us. read g us) n s ts ≡ o
enough_by after may goes g s ts n small (done end rest) (xs, split, pieces, near) =
    ap (λ us. repeat after goes (λ zs. read g zs) n s us) split ∙ near rest n refl (le_by (ap length split) small)
  where
    le_by : {a b m : ℕ} → a ≡ b → a ≤ m → b ≤ m
    le_by e h = omega arith
enough_by after may goes g s ts n small (stuck w rest) (xs, split, pieces, near) =
    ap (λ us. repeat after goes (λ zs. read g zs) n s us) split ∙ near rest n refl (le_by (ap length split) small)
  where
    le_by : {a b m : ℕ} → a ≡ b → a ≤ m → b ≤ m
    le_by e h = omega arith

enough : {S A : Type 0} (after : S → A → S) (may : S → Spelled → Bool) (g : Grammar A) → decided g ≡ true
    → empty g ≡ false → (s : S) (ts : List Spelled) (n : ℕ) → length ts ≤ n
    → repeat after (λ x t. is_any (tries g) t && may x t) (λ us. read g us) n s ts ≡ turns after may g s ts
enough after may g d some s ts n small =
    enough_by after may (λ x t. is_any (tries g) t && may x t) g s ts n small (turns after may g s ts)
    (pieces_good after may (λ x t. is_any (tries g) t && may x t) g some
    (λ x t h. (and_parts (is_any (tries g) t) (may x t) h).1) (λ us. good g us d) (length ts) s ts (omega arith))

turn_more : {S A : Type 0} (after : S → A → S) (may : S → Spelled → Bool) (g : Grammar A) → decided g ≡ true
    → empty g ≡ false → (s : S) (ts : List Spelled) (a : A) (rest : List Spelled)
    → begins_piece may g s ts ≡ true → read g ts ≡ done a rest
    → turns after may g s ts ≡ turns after may g (after s a) rest
turn_more after may g d some s [] a rest h e = cc
turn_more after may g d some s (t ∷ ts) a rest h e =
    let step = repeat_step after (λ x u. is_any (tries g) u && may x u) (λ us. read g us) (length (t ∷ ts)) s t (t ∷ ts)
    refl (omega arith) h in
    step.2
    ∙ ap (λ o. and_then o (λ b more. repeat after (λ x u. is_any (tries g) u && may x u) (λ us. read g us) step.0 (after s b) more)) e
    ∙ enough after may g d some (after s a) rest step.0
    (omega (arith, step.1, piece_shortens g (t ∷ ts) a rest d some e))

pub turns_further : {S A : Type 0} (after : S → A → S) (may : S → Spelled → Bool) (g : Grammar A) → decided g ≡ true
    → empty g ≡ false → (start s : S) (all ts : List Spelled) (a : A) (rest : List Spelled)
    → turns after may g s ts ≡ turns after may g start all → begins_piece may g s ts ≡ true → read g ts ≡ done a rest
    → turns after may g (after s a) rest ≡ turns after may g start all
turns_further after may g d some start s all ts a rest same here e = sym (turn_more after may g d some s ts a rest here e) ∙ same

turn_stops : {S A : Type 0} (after : S → A → S) (may : S → Spelled → Bool) (g : Grammar A) (s : S)
    (ts : List Spelled) (w : Why) (rest : List Spelled) → begins_piece may g s ts ≡ true → read g ts ≡ stuck w rest
    → turns after may g s ts ≡ stuck w rest
turn_stops after may g s [] w rest h e = cc
turn_stops after may g s (t ∷ ts) w rest h e =
    let step = repeat_step after (λ x u. is_any (tries g) u && may x u) (λ us. read g us) (length (t ∷ ts)) s t (t ∷ ts)
    refl (omega arith) h in
    step.2
    ∙ ap (λ o. and_then o (λ b more. repeat after (λ x u. is_any (tries g) u && may x u) (λ us. read g us) step.0 (after s b) more)) e

turns_end : {S A : Type 0} (after : S → A → S) (may : S → Spelled → Bool) (g : Grammar A) (s : S)
    (ts : List Spelled) → begins_piece may g s ts ≡ false → turns after may g s ts ≡ done s ts
turns_end after may g s [] h = refl
turns_end after may g s (t ∷ ts) h =
    repeat_ends after (λ x u. is_any (tries g) u && may x u) (λ us. read g us) (length (t ∷ ts)) s t (t ∷ ts) refl
    (omega arith) h

-- the same of tokens
pub tokens_shorter : (text : List ℕ) (xs ys : List Token) → length (all_spelled text xs) < length (all_spelled text ys)
    → length xs < length ys
tokens_shorter text xs ys h = simp length-map at h

-- pieces put behind a list are those read from nothing, put behind it
behind_list : {A : Type 0} (g : Grammar A) (n : ℕ) (xs ys : List A) (ts : List Spelled)
    → repeat put (λ x t. is_any (tries g) t && always x t) (λ us. read g us) n (xs ++ ys) ts
    ≡ and_then (repeat put (λ x t. is_any (tries g) t && always x t) (λ us. read g us) n ys ts) (λ zs rest. done (xs ++ zs) rest)
behind_list g zero xs ys ts = refl
behind_list g (suc n) xs ys [] = refl
behind_list {A = A} g (suc n) xs ys (t ∷ ts) =
    by_test (is_any (tries g) t && true) (read g (t ∷ ts)) (λ zs rest. behind_list g n xs zs rest)
  where
    by_test : (b : Bool) (o : Outcome A)
        → ((zs : List A) (rest : List Spelled)
        → repeat put (λ x u. is_any (tries g) u && always x u) (λ us. read g us) n (xs ++ zs) rest
        ≡ and_then (repeat put (λ x u. is_any (tries g) u && always x u) (λ us. read g us) n zs rest) (λ vs last. done (xs ++ vs) last))
        → cond b (and_then o (λ a rest. repeat put (λ x u. is_any (tries g) u && always x u) (λ us. read g us) n (put (xs ++ ys) a) rest)) (done (xs ++ ys) (t ∷ ts))
        ≡ and_then (cond b (and_then o (λ a rest. repeat put (λ x u. is_any (tries g) u && always x u) (λ us. read g us) n (put ys a) rest)) (done ys (t ∷ ts))) (λ zs rest. done (xs ++ zs) rest)
    by_test false o rec = refl
    by_test true (stuck w us) rec = refl
    by_test true (done a rest) rec =
        ap (λ zs. repeat put (λ x u. is_any (tries g) u && always x u) (λ us. read g us) n zs rest) (append_assoc xs ys (a ∷ []))
        ∙ rec (ys ++ a ∷ []) rest

-- a list with commas: its first piece, and those behind it
pub list_read : {A : Type 0} (g h : Grammar A) (ts : List Spelled)
    → read (with_commas g h) ts ≡ and_then (read g ts) (λ a rest. read (many (a ∷ []) put always h (λ xs. xs)) rest)
list_read {A = A} g h ts = by_first (read g ts)
  where
    by_rest : (a : A) (o : Outcome (List A))
        → and_then (and_then o (λ x last. done x last)) (λ more last. done (a ∷ more) last)
        ≡ and_then (and_then o (λ zs last. done ((a ∷ []) ++ zs) last)) (λ x last. done x last)
    by_rest a (done zs last) = refl
    by_rest a (stuck w last) = refl

    by_first : (o : Outcome A)
        → and_then {A = List A → List A} (and_then {A = A → List A → List A} (done (λ a more. a ∷ more) ts) (λ f rest. and_then o (λ a last. done (f a) last)))
        (λ f rest. and_then (read (any_number h) rest) (λ more last. done (f more) last))
        ≡ and_then o (λ a rest. read (many (a ∷ []) put always h (λ xs. xs)) rest)
    by_first (stuck w us) = refl
    by_first (done a rest) =
        by_rest a (turns put always h [] rest)
        ∙ ap (λ o. and_then o (λ x last. done x last)) (sym (behind_list h (length rest) (a ∷ []) [] rest))

-- a call that fails as another one did
pub as_err : {X E : Type 0} (e : E) (r : Result X E) → IsErrAnd r (λ x. x ≡ e) → r ≡ Err e
as_err e (Ok x) h = absurd h
as_err e (Err y) h = ap (λ x. Err x) h

-- what a reader answers: a value, and the tokens behind it
abbrev pub Answers : {C : Type 0} → List ℕ → Result (C × Bor (List Token)) Stop → Outcome C → Type 0
Answers {C = C} text r o = Gives {X = C × Bor (List Token)} (λ x. x.0) (λ x. x.1.now) text r o

-- a reader that stopped stops what it is a part of
pub stop_goes_on : {C D : Type 0} (text : List ℕ) (e : Stop) (o : Outcome C) (p : Outcome D) → Answers text (Err e) o
    → ((w : Why) (rest : List Spelled) → o ≡ stuck w rest → p ≡ stuck w rest) → Answers text (Err e) p
stop_goes_on text NoMemory o p h k = tt
stop_goes_on text (Here w n) (done c rest) p h k = absurd h
stop_goes_on text (Here w n) (stuck v rest) p h k =
    let P = λ (x : _). StopsWith w n x in subst P (sym (k v rest refl)) h

pub answers_err : {C : Type 0} (text : List ℕ) (e : Stop) (r : Result (C × Bor (List Token)) Stop) (o : Outcome C)
    → IsErrAnd r (λ x. x ≡ e) → Answers text (Err e) o → Answers text r o
answers_err {C = C} text e r o same h =
    let P : Result (C × Bor (List Token)) Stop → Type 0 = λ x. Answers text x o in subst P (sym (as_err e r same)) h

-- a loop over all pieces: where a piece stops, and where none begins any more
pub loop_stops : {S A C : Type 0} (text : List ℕ) (e : Stop) (r : Result (C × Bor (List Token)) Stop) (after : S → A → S)
    (may : S → Spelled → Bool) (g : Grammar A) (f : S → C) (start s : S) (all ts : List Spelled)
    → turns after may g s ts ≡ turns after may g start all → begins_piece may g s ts ≡ true
    → Answers text (Err e) (read g ts) → IsErrAnd r (λ x. x ≡ e) → Answers text r (read (many start after may g f) all)
loop_stops text e r after may g f start s all ts same here stops told =
    answers_err text e r (read (many start after may g f) all) told
    (stop_goes_on text e (read g ts) (read (many start after may g f) all) stops
    (λ w rest h. ap (λ o. and_then o (λ x last. done (f x) last)) (sym same ∙ turn_stops after may g s ts w rest here h)))

pub loop_done : {S A C : Type 0} (after : S → A → S) (may : S → Spelled → Bool) (g : Grammar A) (f : S → C) (start s : S)
    (all ts : List Spelled) → turns after may g s ts ≡ turns after may g start all → begins_piece may g s ts ≡ false
    → read (many start after may g f) all ≡ done (f s) ts
loop_done after may g f start s all ts same here =
    ap (λ o. and_then o (λ x last. done (f x) last)) (sym same ∙ turns_end after may g s ts here)

-- a piece that may always stand begins where its grammar does
pub begins_always : {S A : Type 0} (g : Grammar A) (s : S) (ts : List Spelled)
    → begins_piece always g s ts ≡ begins (tries g) ts
begins_always g s [] = refl
begins_always g s (t ∷ ts) = by_test (is_any (tries g) t)
  where
    by_test : (b : Bool) → (b && true) ≡ b
    by_test true = refl
    by_test false = refl

-- a list of which the first piece was read, and where one behind it stops
pub list_behind : {A : Type 0} (g h : Grammar A) (ts : List Spelled) (a : A) (rest : List Spelled) (xs : List A)
    → read g ts ≡ done a rest → xs ≡ a ∷ []
    → read (with_commas g h) ts ≡ read (many xs put always h (λ ys. ys)) rest
list_behind g h ts a rest xs first start =
    list_read g h ts ∙ ap (λ o. and_then o (λ b more. read (many (b ∷ []) put always h (λ ys. ys)) more)) first
    ∙ ap (λ ys. read (many ys put always h (λ zs. zs)) rest) (sym start)

pub list_stops : {A : Type 0} (text : List ℕ) (e : Stop) (r : Result (List A × Bor (List Token)) Stop) (g h : Grammar A)
    (ts : List Spelled) (a : A) (rest : List Spelled) (xs : List A) → read g ts ≡ done a rest → xs ≡ a ∷ []
    → Answers text (Err e) (read (many xs put always h (λ ys. ys)) rest) → IsErrAnd r (λ x. x ≡ e)
    → Answers text r (read (with_commas g h) ts)
list_stops {A = A} text e r g h ts a rest xs first start stops told =
    let P : Outcome (List A) → Type 0 = λ o. Answers text r o in
    subst P (sym (list_behind g h ts a rest xs first start))
    (answers_err text e r (read (many xs put always h (λ ys. ys)) rest) told stops)
