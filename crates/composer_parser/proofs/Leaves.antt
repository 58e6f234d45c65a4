-- Where reading stops at a token that the grammar leaves out.
use Rattle.std.proofs.Common.{◌≡◌, ◌≤◌, inl, inr, ◌&&◌, not, cond, ℕ, zero, suc, Bool, true, false, List, [], ◌∷◌, ◌++◌}
use Rattle.std.proofs.Common.{Some, length, refl, ap, sym, ◌∙◌, append_assoc, length-append, arith}
use Rattle.lemmas.proofs.Booleans.{and_parts, not_holds}
use Rattle.composer_parser.specs.Kinds.{Kind, Spelled, is}
use Rattle.composer_parser.specs.declared.stops.Why.{Why}
use Rattle.composer_parser.specs.declared.stops.Why.TheVariants.{NotExpected, IsLeftOut}
use Rattle.composer_parser.specs.Grammars.{Grammar, nothing, one, left_out, both, either, many, Spells, Pieces, first_of, LeavesOut}
use Rattle.composer_parser.specs.Reading.{is_any, begins, empty, has, tries, goes_on, decided}
use Rattle.composer_parser.specs.Reading.{Outcome, done, stuck, and_then, read, repeat}
use Rattle.composer_parser.specs.Groups.{kinds_apart}
use Rattle.composer_parser.proofs.Apart.{no_shared}
use Rattle.composer_parser.proofs.Firsts.{empty_sentence, tries_sentence, by_empty, behind_empty}
use Rattle.composer_parser.proofs.Fronts.{next, in_first, in_second}
use Rattle.composer_parser.proofs.Halts.{Good, good, joined, repeat_step}
use Rattle.composer_parser.proofs.Completes.{complete, ends_piece, is_not, by_length}

-- a token that is left out is one that reading tries
leaves_tries : {C : Type 0} (g : Grammar C) (xs : List Spelled) (t : Spelled) → LeavesOut g xs t
    → is_any (tries g) (first_of xs t) ≡ true
leaves_tries (nothing c) xs t h = absurd h
leaves_tries (one k f) xs t h = absurd h
leaves_tries (left_out k) xs t (none, ok) = ap (λ zs. is_any (k ∷ []) (first_of zs t)) none ∙ rw ok refl
leaves_tries (both f g h) xs t (inl left) = by_empty (empty g) (tries g) (tries h) (first_of xs t) (leaves_tries g xs t left)
leaves_tries (both f g h) xs t (inr ([], ys, a, split, left, right)) =
    behind_empty (empty g) (tries g) (tries h) (first_of xs t) (empty_sentence g [] a refl left)
    (ap (λ zs. is_any (tries h) (first_of zs t)) split ∙ leaves_tries h ys t right)
leaves_tries (both f g h) xs t (inr (x ∷ us, ys, a, split, left, right)) =
    by_empty (empty g) (tries g) (tries h) (first_of xs t)
    (ap (λ zs. is_any (tries g) (first_of zs t)) split ∙ tries_sentence g (x ∷ us) x us a refl left)
leaves_tries (either g h) xs t (inl left) = in_first (tries g) (tries h) (first_of xs t) (leaves_tries g xs t left)
leaves_tries (either g h) xs t (inr right) = in_second (tries g) (tries h) (first_of xs t) (leaves_tries h xs t right)
leaves_tries (many s after may g f) xs t ([], now, us, ys, split, (none, last), ok, h) =
    ap (λ zs. is_any (tries g) (first_of zs t)) (split ∙ ap (λ zs. zs ++ ys) none) ∙ leaves_tries g ys t h
leaves_tries (many s after may g f) xs t (a ∷ items, now, us, ys, split, (u, zs, ws, cut, ok1, piece, others), ok, h) =
    ap (λ vs. is_any (tries g) (first_of vs t)) (split ∙ ap (λ vs. vs ++ ys) cut)
    ∙ tries_sentence g (u ∷ zs) u zs a refl piece

begins_first : (ks : List Kind) (xs : List Spelled) (t : Spelled) (rest : List Spelled)
    → begins ks (xs ++ t ∷ rest) ≡ is_any ks (first_of xs t)
begins_first ks [] t rest = refl
begins_first ks (x ∷ xs) t rest = refl

next_first : (xs : List Spelled) (t : Spelled) (rest : List Spelled) → Some (first_of xs t) ≡ next (xs ++ t ∷ rest)
next_first [] t rest = refl
next_first (x ∷ xs) t rest = refl

-- reading does not go on with it
none_goes_on : {C : Type 0} (ks : List Kind) (h : Grammar C) (ys : List Spelled) (t : Spelled) (rest : List Spelled)
    → kinds_apart ks (tries h) ≡ true → LeavesOut h ys t → begins ks (ys ++ t ∷ rest) ≡ false
none_goes_on ks h ys t rest apart right =
    begins_first ks ys t rest
    ∙ is_not (is_any ks (first_of ys t))
    (λ on. no_shared ks (tries h) (first_of ys t) apart on (leaves_tries h ys t right))

pieces_left : {S A : Type 0} (after : S → A → S) (may : S → Spelled → Bool) (g : Grammar A) (t : Spelled)
    (rest ys : List Spelled) → decided g ≡ true → kinds_apart (goes_on g) (tries g) ≡ true → LeavesOut g ys t
    → read g (ys ++ t ∷ rest) ≡ stuck IsLeftOut (t ∷ rest)
    → (items : List A) (n : ℕ) (s now : S) (xs : List Spelled)
    → Pieces after may (λ zs a. Spells g zs a) s xs items now → may now (first_of ys t) ≡ true
    → length (xs ++ (ys ++ t ∷ rest)) ≤ n
    → repeat after (λ x u. is_any (tries g) u && may x u) (λ zs. read g zs) n s (xs ++ (ys ++ t ∷ rest))
    ≡ stuck IsLeftOut (t ∷ rest)
pieces_left {S = S} after may g t rest ys d apart leaves stops [] n s now xs (none, last) ok small =
    ap (λ zs. repeat after (λ x u. is_any (tries g) u && may x u) (λ us. read g us) n s (zs ++ (ys ++ t ∷ rest))) none
    ∙ step.2
    ∙ ap (λ o. and_then o (λ a more. repeat after (λ x u. is_any (tries g) u && may x u) (λ us. read g us) step.0 (after s a) more)) stops
  where
    goes_here : (is_any (tries g) (first_of ys t) && may s (first_of ys t)) ≡ true
    goes_here =
        let here : may s (first_of ys t) ≡ true = ap (λ x. may x (first_of ys t)) (sym last) ∙ ok in
        rw (leaves_tries g ys t leaves, here) refl

    step : (k : ℕ) × (length (ys ++ t ∷ rest) ≤ suc k)
        × (repeat after (λ x u. is_any (tries g) u && may x u) (λ us. read g us) n s (ys ++ t ∷ rest)
        ≡ and_then (read g (ys ++ t ∷ rest)) (λ a more. repeat after (λ x u. is_any (tries g) u && may x u) (λ us. read g us) k (after s a) more))
    step =
        repeat_step after (λ x u. is_any (tries g) u && may x u) (λ us. read g us) n s (first_of ys t) (ys ++ t ∷ rest)
        (next_first ys t rest) (by_length (ap (λ zs. length (zs ++ (ys ++ t ∷ rest))) none) small) goes_here
pieces_left after may g t rest ys d apart leaves stops (a ∷ items) n s now xs (u, us, vs, split, ok1, sp, others) ok small =
    let all = append_assoc (u ∷ us) vs (ys ++ t ∷ rest) in
    let front = (u ∷ us) ++ (vs ++ (ys ++ t ∷ rest)) in
    let same = ap (λ zs. zs ++ (ys ++ t ∷ rest)) split ∙ all in
    let tried = tries_sentence g (u ∷ us) u us a refl sp in
    let step =
    repeat_step after (λ x w. is_any (tries g) w && may x w) (λ zs. read g zs) n s u front refl
    (by_length (ap length same) small) (rw (tried, ok1) refl) in
    let none = none_goes_on (goes_on g) g ys t rest apart leaves in
    ap (λ zs. repeat after (λ x w. is_any (tries g) w && may x w) (λ us2. read g us2) n s zs) same
    ∙ step.2
    ∙ ap (λ o. and_then o (λ b rest2.
    repeat after (λ x w. is_any (tries g) w && may x w) (λ us2. read g us2) step.0 (after s b) rest2))
    (complete g d (u ∷ us) (vs ++ (ys ++ t ∷ rest)) a sp
    (ends_piece after may g (after s a) vs (ys ++ t ∷ rest) items now apart others none))
    ∙ pieces_left after may g t rest ys d apart leaves stops items step.0 (after s a) now vs others ok
    (omega (arith, step.1, length-append us (vs ++ (ys ++ t ∷ rest))))

-- reading stops where the grammar leaves a token out
pub left_complete : {C : Type 0} (g : Grammar C) → decided g ≡ true → (before : List Spelled) (t : Spelled)
    (rest : List Spelled) → LeavesOut g before t → read g (before ++ t ∷ rest) ≡ stuck IsLeftOut (t ∷ rest)
left_complete (nothing c) d before t rest h = absurd h
left_complete (one k f) d before t rest h = absurd h
left_complete {C = C} (left_out k) d before t rest (none, ok) =
    ap (λ zs. read (left_out {C = C} k) (zs ++ t ∷ rest)) none ∙ rw ok refl
left_complete (both f g h) d before t rest (inl left) =
    let d1 = and_parts (decided g) (decided h && (has g && (has h && kinds_apart (goes_on g) (tries h)))) d in
    ap (λ o. joined f o (λ zs. read h zs)) (left_complete g d1.0 before t rest left)
left_complete (both f g h) d before t rest (inr (xs, ys, a, split, left, right)) =
    let d1 = and_parts (decided g) (decided h && (has g && (has h && kinds_apart (goes_on g) (tries h)))) d in
    let d2 = and_parts (decided h) (has g && (has h && kinds_apart (goes_on g) (tries h))) d1.1 in
    let d3 = and_parts (has g) (has h && kinds_apart (goes_on g) (tries h)) d2.1 in
    let d4 = and_parts (has h) (kinds_apart (goes_on g) (tries h)) d3.1 in
    ap (λ zs. read (both f g h) (zs ++ t ∷ rest)) split ∙ ap (λ zs. read (both f g h) zs) (append_assoc xs ys (t ∷ rest))
    ∙ ap (λ o. joined f o (λ zs. read h zs))
    (complete g d1.0 xs (ys ++ t ∷ rest) a left (none_goes_on (goes_on g) h ys t rest d4.1 right))
    ∙ ap (λ o. and_then o (λ y last. done (f a y) last)) (left_complete h d2.0 ys t rest right)
left_complete (either g h) d before t rest (inl left) =
    let d1 = and_parts (decided g) (decided h && (not (empty g) && kinds_apart (tries g) (tries h))) d in
    rw (begins_first (tries g) before t rest ∙ leaves_tries g before t left) (left_complete g d1.0 before t rest left)
left_complete (either g h) d before t rest (inr right) =
    let d1 = and_parts (decided g) (decided h && (not (empty g) && kinds_apart (tries g) (tries h))) d in
    let d2 = and_parts (decided h) (not (empty g) && kinds_apart (tries g) (tries h)) d1.1 in
    let d3 = and_parts (not (empty g)) (kinds_apart (tries g) (tries h)) d2.1 in
    rw (none_goes_on (tries g) h before t rest d3.1 right) (left_complete h d2.0 before t rest right)
left_complete (many s after may g f) d before t rest (items, now, xs, ys, split, pieces, ok, leaves) =
    let d1 = and_parts (decided g) (not (empty g) && kinds_apart (goes_on g) (tries g)) d in
    let d2 = and_parts (not (empty g)) (kinds_apart (goes_on g) (tries g)) d1.1 in
    let same = ap (λ zs. zs ++ t ∷ rest) split ∙ append_assoc xs ys (t ∷ rest) in
    ap (λ zs. read (many s after may g f) zs) same
    ∙ ap (λ o. and_then o (λ x last. done (f x) last))
    (pieces_left after may g t rest ys d1.0 d2.1 leaves (left_complete g d1.0 ys t rest leaves) items
    (length (xs ++ (ys ++ t ∷ rest))) s now xs pieces ok (omega arith))

-- What reading says is left out.
abbrev pub Left : {C : Type 0} → Grammar C → List Spelled → Spelled → List Spelled → Type 0
Left g ts t rest = (before : List Spelled) × (ts ≡ before ++ t ∷ rest) × LeavesOut g before t

one_left : {C : Type 0} (k : Kind) (f : Spelled → C) (u : Spelled) (us : List Spelled) (t : Spelled) (rest : List Spelled)
    (b : Bool) → cond b (done (f u) us) (stuck NotExpected (u ∷ us)) ≡ stuck IsLeftOut (t ∷ rest) → ⊥
one_left k f u us t rest true h = cc
one_left k f u us t rest false h = cc

kind_left : (C : Type 0) (k : Kind) (u : Spelled) (us : List Spelled) (t : Spelled) (rest : List Spelled) (b : Bool)
    → is k u ≡ b → cond {A = Outcome C} b (stuck IsLeftOut (u ∷ us)) (stuck NotExpected (u ∷ us)) ≡ stuck IsLeftOut (t ∷ rest)
    → Left (left_out {C = C} k) (u ∷ us) t rest
kind_left C k u us t rest true e h =
    let same : u ∷ us ≡ t ∷ rest = cc in
    let head : u ≡ t = cc in ([], same, (refl, ap (λ x. is k x) (sym head) ∙ e))
kind_left C k u us t rest false e h = cc

-- two outcomes that stop at one place
same_stop : {A B : Type 0} (x : Outcome A) (y : Outcome B) (w : Why) (us : List Spelled) (t : Spelled)
    (rest : List Spelled) → x ≡ stuck w us → y ≡ stuck w us → y ≡ stuck IsLeftOut (t ∷ rest)
    → x ≡ stuck IsLeftOut (t ∷ rest)
same_stop {B = B} x y w us t rest first second k = first ∙ rw (why, place) refl
  where
    both : (v : Why) (vs : List Spelled) (z : Outcome B) → z ≡ stuck v vs → z ≡ stuck IsLeftOut (t ∷ rest)
        → (v ≡ IsLeftOut) × (vs ≡ t ∷ rest)
    both v vs z e h = (cc, cc)

    why : w ≡ IsLeftOut
    why = (both w us y second k).0

    place : us ≡ t ∷ rest
    place = (both w us y second k).1

both_left : {A B C : Type 0} (f : A → B → C) (g : Grammar A) (h : Grammar B) (ts : List Spelled) (t : Spelled)
    (rest : List Spelled) (o : Outcome A) → Good (Spells g) (read g) ts o
    → (read g ts ≡ stuck IsLeftOut (t ∷ rest) → Left g ts t rest)
    → ((us : List Spelled) → read h us ≡ stuck IsLeftOut (t ∷ rest) → Left h us t rest)
    → read g ts ≡ o → joined f o (λ zs. read h zs) ≡ stuck IsLeftOut (t ∷ rest) → Left (both f g h) ts t rest
both_left f g h ts t rest (stuck w us) near first second e k =
    let found = first (same_stop (read g ts) (joined f (stuck w us) (λ zs. read h zs)) w us t rest e refl k) in
    (found.0, found.1, inl found.2)
both_left f g h ts t rest (done a us) (xs, split, s, near) first second e k = by_second (read h us) refl k
  where
    by_second : (o : Outcome _) → read h us ≡ o → and_then o (λ b last. done (f a b) last) ≡ stuck IsLeftOut (t ∷ rest)
        → Left (both f g h) ts t rest
    by_second (done b last) is ended = cc
    by_second (stuck w last) is ended =
        let found =
        second us (same_stop (read h us) (and_then (stuck w last) (λ b more. done (f a b) more)) w last t rest is refl ended) in (
          xs ++ found.0,
          split ∙ ap (λ zs. xs ++ zs) found.1 ∙ sym (append_assoc xs found.0 (t ∷ rest)),
          inr (xs, found.0, a, refl, s, found.2),
        )

abbrev pub LeftPieces : {S A : Type 0} → (S → A → S) → (S → Spelled → Bool) → Grammar A → S → List Spelled → Spelled
    → List Spelled → Type 0
LeftPieces {S = S} {A = A} after may g s ts t rest =
    (items : List A) × (now : S) × (xs : List Spelled) × (ys : List Spelled) × (ts ≡ xs ++ (ys ++ t ∷ rest))
    × Pieces after may (λ zs a. Spells g zs a) s xs items now × (may now (first_of ys t) ≡ true) × LeavesOut g ys t

first_is : (u : Spelled) (us ys : List Spelled) (t : Spelled) (rest : List Spelled) → u ∷ us ≡ ys ++ t ∷ rest
    → first_of ys t ≡ u
first_is u us [] t rest h = cc
first_is u us (y ∷ ys) t rest h = cc

pieces_first : {S A : Type 0} (after : S → A → S) (may : S → Spelled → Bool) (g : Grammar A) (s : S) (n : ℕ)
    (u : Spelled) (us : List Spelled) (t : Spelled) (rest : List Spelled) → empty g ≡ false → may s u ≡ true
    → (o : Outcome A) → Good (Spells g) (read g) (u ∷ us) o → read g (u ∷ us) ≡ o
    → (read g (u ∷ us) ≡ stuck IsLeftOut (t ∷ rest) → Left g (u ∷ us) t rest)
    → ((s2 : S) (more : List Spelled) → repeat after (λ x w. is_any (tries g) w && may x w) (λ zs. read g zs) n s2 more ≡ stuck IsLeftOut (t ∷ rest)
    → LeftPieces after may g s2 more t rest)
    → and_then o (λ a more. repeat after (λ x w. is_any (tries g) w && may x w) (λ zs. read g zs) n (after s a) more) ≡ stuck IsLeftOut (t ∷ rest)
    → LeftPieces after may g s (u ∷ us) t rest
pieces_first after may g s n u us t rest some ok (stuck w vs) near e first others k =
    let found =
    first (same_stop (read g (u ∷ us))
    (and_then (stuck w vs) (λ a more. repeat after (λ x v. is_any (tries g) v && may x v) (λ zs. read g zs) n (after s a) more))
    w vs t rest e refl k) in (
      [],
      s,
      [],
      found.0,
      found.1,
      (refl, refl),
      ap (λ x. may s x) (first_is u us found.0 t rest found.1) ∙ ok,
      found.2,
    )
pieces_first after may g s n u us t rest some ok (done a more) ([], split, sp, near) e first others k =
    let no : empty g ≡ true = empty_sentence g [] a refl sp in cc
pieces_first after may g s n u us t rest some ok (done a more) (z ∷ zs, split, sp, near) e first others k =
    let found = others (after s a) more k in
    let head : z ≡ u = cc in (
      a ∷ found.0,
      found.1,
      (z ∷ zs) ++ found.2,
      found.3,
      split ∙ ap (λ vs. (z ∷ zs) ++ vs) found.4 ∙ sym (append_assoc (z ∷ zs) found.2 (found.3 ++ t ∷ rest)),
      (z, zs, found.2, refl, ap (λ x. may s x) head ∙ ok, sp, found.5),
      found.6,
      found.7,
    )

pieces_sound : {S A : Type 0} (after : S → A → S) (may : S → Spelled → Bool) (g : Grammar A) (t : Spelled)
    (rest : List Spelled) → decided g ≡ true → empty g ≡ false
    → ((us : List Spelled) → read g us ≡ stuck IsLeftOut (t ∷ rest) → Left g us t rest) → (n : ℕ) (s : S)
    (ts : List Spelled)
    → repeat after (λ x w. is_any (tries g) w && may x w) (λ zs. read g zs) n s ts ≡ stuck IsLeftOut (t ∷ rest)
    → LeftPieces after may g s ts t rest
pieces_sound after may g t rest d some piece zero s ts h = cc
pieces_sound after may g t rest d some piece (suc n) s [] h = cc
pieces_sound {S = S} {A = A} after may g t rest d some piece (suc n) s (u ∷ us) h =
    by_test (is_any (tries g) u && may s u) refl h (λ s2 more. pieces_sound after may g t rest d some piece n s2 more)
  where
    by_test : (b : Bool) → (is_any (tries g) u && may s u) ≡ b
        → cond b (and_then (read g (u ∷ us)) (λ a more. repeat after (λ x w. is_any (tries g) w && may x w) (λ zs. read g zs) n (after s a) more)) (done s (u ∷ us)) ≡ stuck IsLeftOut (t ∷ rest)
        → ((s2 : S) (more : List Spelled) → repeat after (λ x w. is_any (tries g) w && may x w) (λ zs. read g zs) n s2 more ≡ stuck IsLeftOut (t ∷ rest)
        → LeftPieces after may g s2 more t rest)
        → LeftPieces after may g s (u ∷ us) t rest
    by_test false e k others = cc
    by_test true e k others =
        pieces_first after may g s n u us t rest some (and_parts (is_any (tries g) u) (may s u) e).1 (read g (u ∷ us))
        (good g (u ∷ us) d) refl (piece (u ∷ us)) others k

pub left_sound : {C : Type 0} (g : Grammar C) → decided g ≡ true → (ts : List Spelled) (t : Spelled) (rest : List Spelled)
    → read g ts ≡ stuck IsLeftOut (t ∷ rest) → Left g ts t rest
left_sound (nothing c) d ts t rest h = cc
left_sound (one k f) d [] t rest h = cc
left_sound (one k f) d (u ∷ us) t rest h = absurd (one_left k f u us t rest (is k u) h)
left_sound (left_out k) d [] t rest h = cc
left_sound {C = C} (left_out k) d (u ∷ us) t rest h = kind_left C k u us t rest (is k u) refl h
left_sound (both f g h) d ts t rest k =
    let d1 = and_parts (decided g) (decided h && (has g && (has h && kinds_apart (goes_on g) (tries h)))) d in
    let d2 = and_parts (decided h) (has g && (has h && kinds_apart (goes_on g) (tries h))) d1.1 in
    both_left f g h ts t rest (read g ts) (good g ts d1.0) (left_sound g d1.0 ts t rest)
    (λ us. left_sound h d2.0 us t rest) refl k
left_sound (either g h) d ts t rest k =
    let d1 = and_parts (decided g) (decided h && (not (empty g) && kinds_apart (tries g) (tries h))) d in
    let d2 = and_parts (decided h) (not (empty g) && kinds_apart (tries g) (tries h)) d1.1 in
    by_side (begins (tries g) ts) k (left_sound g d1.0 ts t rest) (left_sound h d2.0 ts t rest)
  where
    by_side : (b : Bool) → cond b (read g ts) (read h ts) ≡ stuck IsLeftOut (t ∷ rest)
        → (read g ts ≡ stuck IsLeftOut (t ∷ rest) → Left g ts t rest)
        → (read h ts ≡ stuck IsLeftOut (t ∷ rest) → Left h ts t rest) → Left (either g h) ts t rest
    by_side true e first second = let found = first e in (found.0, found.1, inl found.2)
    by_side false e first second = let found = second e in (found.0, found.1, inr found.2)
left_sound (many s after may g f) d ts t rest k =
    let d1 = and_parts (decided g) (not (empty g) && kinds_apart (goes_on g) (tries g)) d in
    let d2 = and_parts (not (empty g)) (kinds_apart (goes_on g) (tries g)) d1.1 in
    by_end (repeat after (λ x w. is_any (tries g) w && may x w) (λ zs. read g zs) (length ts) s ts) refl k
    (pieces_sound after may g t rest d1.0 (not_holds (empty g) d2.0) (λ us. left_sound g d1.0 us t rest) (length ts) s ts)
  where
    by_end : (o : Outcome _) → repeat after (λ x w. is_any (tries g) w && may x w) (λ zs. read g zs) (length ts) s ts ≡ o
        → and_then o (λ x last. done (f x) last) ≡ stuck IsLeftOut (t ∷ rest)
        → (repeat after (λ x w. is_any (tries g) w && may x w) (λ zs. read g zs) (length ts) s ts ≡ stuck IsLeftOut (t ∷ rest)
        → LeftPieces after may g s ts t rest) → Left (many s after may g f) ts t rest
    by_end (done x last) e h found = cc
    by_end (stuck w last) e h found =
        let at =
        found (same_stop (repeat after (λ x v. is_any (tries g) v && may x v) (λ zs. read g zs) (length ts) s ts)
        (and_then (stuck w last) (λ x more. done (f x) more)) w last t rest e refl h) in (
          at.2 ++ at.3,
          at.4 ∙ sym (append_assoc at.2 at.3 (t ∷ rest)),
          (at.0, at.1, at.2, at.3, refl, at.5, at.6, at.7),
        )
